use Prim.Native.Nat.{ℕ, ◌+◌, ◌≤◌}
use mathlib.Core.Path.{sym, ap, ◌∙◌}
use native.Mathlib.Omega.{arith}
use lib.ListN.{length}
use Rattle.wire.specs.Numbers.{field}
use Rattle.registry.specs.Slots.{bits_at, slot_size}
use Rattle.registry.specs.Registry.{place}
use Rattle.registry.proofs.KeyLaws.{bits_there}
use Rattle.registry.proofs.WellFormedLaws.{good_of}
use Rattle.registry.proofs.key.key_bits.Goals as goal
use Rattle.registry.proofs.key.key_bits.Goals.{Start}

abbrev at : Start → ℕ
at c = place c.args.line c.args.slot

room : (c : Start) → at c + slot_size ≤ length c.args.registry.now
room c = omega (arith, (good_of c.args.registry.now c.requires.0).size, c.requires.1, c.requires.2)

pub size_at-requires : goal.size_at-requires
size_at-requires c =
    let w = (goal.at.size_at-requires c).Start in
    omega (arith, c.slot_at-a.ensures, room w)

pub returns : goal.returns
returns c =
    let w = (goal.at.returns c).Start in
    c.size_at.ensures.0
    ∙ ap (λ (k : ℕ). field (k + bits_at) 2 c.args.registry.now) c.slot_at-a.ensures
    ∙ sym (bits_there c.args.registry.now c.requires.0 c.args.line c.requires.1 c.args.slot.0 c.requires.2 (room w))
