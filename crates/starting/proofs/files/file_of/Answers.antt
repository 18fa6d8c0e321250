use Rattle.starting.proofs.ReadLaws.{file_missing, file_open}
use Rattle.starting.proofs.files.file_of.Goals as goal

pub returns-then-fd-lt0 : goal.returns-then-fd-lt0
returns-then-fd-lt0 c = file_missing c.args.fd c.ranges.fd c.if-fd-lt0.true

pub returns : goal.returns
returns c = file_open c.args.fd c.ranges.fd c.if-fd-lt0.false
