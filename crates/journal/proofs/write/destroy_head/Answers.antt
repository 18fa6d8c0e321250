use Rattle.wire.specs.Numbers.{little_endian_of}
use Rattle.journal.specs.code.Written.{destroy_head}
use Rattle.journal.proofs.write.destroy_head.Goals as goal

pub returns : goal.returns
unfolding little_endian_of destroy_head
returns c = rw c.bytes_of_u16-n.ensures
