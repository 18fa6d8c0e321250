use Rattle.wire.proofs.BufferLaws.{wrote_on}
use Rattle.journal.proofs.write.copy_both.Goals as goal

pub returns : goal.returns
returns c = wrote_on c.copy_into-k.ensures c.copy_into-m.ensures
