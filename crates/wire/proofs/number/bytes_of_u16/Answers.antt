use mathlib.Core.Path.{◌∙◌}
use native.Mathlib.Omega.{arith}
use Rattle.wire.proofs.NumberLaws.{bytes_written}
use Rattle.wire.proofs.number.bytes_of_u16.Goals as goal

pub returns : goal.returns
returns c = c.to_le_bytes.ensures ∙ bytes_written 1 c.args.n (omega arith)
