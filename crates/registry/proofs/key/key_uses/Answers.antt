use Prim.Native.Nat.{ℕ, ◌+◌, ◌≤◌}
use mathlib.Core.Path.{sym, ap, ◌∙◌}
use native.Mathlib.Omega.{arith}
use lib.ListN.{length}
use Rattle.wire.specs.Numbers.{field}
use Rattle.registry.specs.Slots.{uses_at, slot_size}
use Rattle.registry.specs.Registry.{place}
use Rattle.registry.proofs.UseLaws.{uses_there}
use Rattle.registry.proofs.WellFormedLaws.{good_of}
use Rattle.registry.proofs.key.key_uses.Goals as goal
use Rattle.registry.proofs.key.key_uses.Goals.{Start}

abbrev at : Start → ℕ
at c = place c.args.line c.args.slot

room : (c : Start) → at c + slot_size ≤ length c.args.registry.now
room c = omega (arith, (good_of c.args.registry.now c.requires.0).size, c.requires.1, c.requires.2)

pub read_u32-requires : goal.read_u32-requires
read_u32-requires c =
    let w = (goal.at.read_u32-requires c).Start in
    omega (arith, c.slot_at-a.ensures, room w)

pub returns : goal.returns
returns c =
    c.read_u32.ensures
    ∙ ap (λ (k : ℕ). field (k + uses_at) 4 c.args.registry.now) c.slot_at-a.ensures
    ∙ sym (uses_there c.args.registry.now c.args.line c.args.slot.0 c.requires.2)
