use Prim.Native.Nat.{ℕ, ◌+◌, ◌≤◌}
use mathlib.Core.Path.{sym, ap, ◌∙◌}
use native.Mathlib.Omega.{arith}
use lib.ListN.{length, get_or}
use lib.Dec.{eqb}
use Rattle.registry.specs.Slots.{verify_at, slot_size}
use Rattle.registry.specs.Registry.{place}
use Rattle.registry.proofs.KeyLaws.{verify_there}
use Rattle.registry.proofs.WellFormedLaws.{good_of}
use Rattle.registry.proofs.key.is_verifiable.Goals as goal
use Rattle.registry.proofs.key.is_verifiable.Goals.{Start}

abbrev at : Start → ℕ
at c = place c.args.line c.args.slot

room : (c : Start) → at c + slot_size ≤ length c.args.registry.now
room c = omega (arith, (good_of c.args.registry.now c.requires.0).size, c.requires.1, c.requires.2)

pub bounds-registry-a : goal.bounds-registry-a
bounds-registry-a c =
    let w = (goal.at.bounds-registry-a c).Start in
    omega (arith, c.slot_at-a.ensures, room w)

pub returns : goal.returns
returns c =
    let w = (goal.at.returns c).Start in
    ap (λ (k : ℕ). eqb (get_or c.args.registry.now (k + verify_at) 0) 1) c.slot_at-a.ensures
    ∙ sym (verify_there c.args.registry.now c.requires.0 c.args.line c.requires.1 c.args.slot.0 c.requires.2 (room w))
