use mathlib.Core.Path.{ap, ◌∙◌}
use Prim.Native.Nat.{ℕ, ◌+◌, ◌-◌}
use native.Mathlib.Omega.{arith}
use lib.ListN.{take, drop, get_or}
use Rattle.journal.proofs.ChangeLaws.{name_at_lem}
use Rattle.journal.proofs.record.name_there.Goals as goal

pub returns : goal.returns
returns c =
    let place_is = c.slot_at-a.ensures in
    ap (λ (k : ℕ). take (k + 1 + c.from.result - (k + 1)) (drop (k + 1) c.args.registry.now)) place_is
    ∙ name_at_lem c.args.registry.now c.args.line c.args.slot c.requires.2 c.from.result (c.from.ensures ∙ ap (λ (k : ℕ). get_or c.args.registry.now k 0) place_is) (omega (arith, c.from.ensures, c.type_inv.registry c.slot_at-a.result))
