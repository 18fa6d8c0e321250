use Rattle.wire.proofs.BufferLaws.{wrote_on}
use Rattle.messages.proofs.WriteLaws.{version_body}
use Rattle.messages.proofs.write.write_version_body.Goals as goal

pub returns : goal.returns
returns c = rw version_body (wrote_on c.write_number-first.ensures.0 c.write_number-second.ensures.0)
