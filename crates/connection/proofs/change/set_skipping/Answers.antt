use mathlib.Core.Path.{ap}
use mathlib.Core.List.{List}
use Prim.Native.Nat.{ℕ}
use lib.ListN.{set}
use Rattle.connection.specs.Connection.{connection_bytes}
use Rattle.connection.proofs.change.set_skipping.Goals as goal

pub returns : goal.returns
unfolding connection_bytes
returns c = λ kind number header e. ap (λ (l : List ℕ). set l 0 1) (c.write_number.ensures kind number header e)
