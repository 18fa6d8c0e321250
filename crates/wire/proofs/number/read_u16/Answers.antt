use mathlib.Core.Path.{◌∙◌}
use Rattle.wire.proofs.NumberLaws.{field_read}
use Rattle.wire.proofs.number.read_u16.Goals as goal

pub returns : goal.returns
returns c = c.from_le_bytes.ensures ∙ field_read 1 c.args.at c.args.s.now c.bytes_at.result c.requires c.bytes_at.ensures
