use mathlib.Core.Path.{sym}
use native.Mathlib.Omega.{arith}
use Rattle.wire.proofs.NumberLaws.{field_byte}
use Rattle.client_responses.specs.State.{accept_at}
use Rattle.client_responses.proofs.state.accept_type_of.Goals as goal

pub returns : goal.returns
returns c = let s = c.requires in sym (field_byte accept_at _ (omega arith))
