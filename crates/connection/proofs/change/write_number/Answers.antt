use mathlib.Core.Path.{ap, ◌∙◌}
use mathlib.Core.List.{List}
use Prim.Native.Nat.{ℕ}
use lib.ListN.{take, drop}
use Rattle.wire.specs.Lists.{over}
use Rattle.connection.proofs.ChangeLaws.{number_put}
use Rattle.connection.proofs.change.write_number.Goals as goal

pub returns : goal.returns
returns c = λ kind before held e.
    let a = c.args in
    number_put kind before a.number held a.memory.now c.copy_into.new.dst e
    (c.copy_into.ensures.bytes ∙ ap (λ (l : List ℕ). over l (take 8 (drop 1 a.memory.now))) c.bytes_of_u64-bytes.ensures)
