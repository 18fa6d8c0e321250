use Prim.Native.Nat.{ℕ, ◌+◌, ◌-◌, ◌≤◌}
use mathlib.Core.Path.{◌≡◌, sym, ap, ◌∙◌}
use mathlib.Core.List.{List}
use native.Mathlib.Omega.{arith}
use lib.ListN.{length, take, drop}
use Rattle.wire.specs.Numbers.{field}
use Rattle.keys.specs.Key.{data_most}
use Rattle.registry.specs.Slots.{data_length_at, data_at, slot_size}
use Rattle.registry.specs.Registry.{place}
use Rattle.registry.proofs.KeyLaws.{size_small, data_there}
use Rattle.registry.proofs.WellFormedLaws.{good_of}
use Rattle.registry.proofs.key.key_data.Goals as goal
use Rattle.registry.proofs.key.key_data.Goals.{Start}

abbrev at : Start → ℕ
at c = place c.args.line c.args.slot

room : (c : Start) → at c + slot_size ≤ length c.args.registry.now
room c = omega (arith, (good_of c.args.registry.now c.requires.0).size, c.requires.1, c.requires.2)

small : (c : Start) → field (at c + data_length_at) 2 c.args.registry.now ≤ data_most
small c = size_small c.args.registry.now c.requires.0 c.args.line c.requires.1 c.args.slot.0 c.requires.2 (room c)

pub size_at-d-requires : goal.size_at-d-requires
size_at-d-requires c =
    let w = (goal.at.size_at-d-requires c).Start in
    omega (arith, c.slot_at-a.ensures, room w)

pub slice_bounds-result-end : goal.slice_bounds-result-end
slice_bounds-result-end c =
    let w = (goal.at.slice_bounds-result-end c).Start in
    let at_place = c.slot_at-a.ensures in
    let size : c.size_at-d.result ≡ field (at w + data_length_at) 2 c.args.registry.now
    = c.size_at-d.ensures.0 ∙ ap (λ (k : ℕ). field (k + data_length_at) 2 c.args.registry.now) at_place in
    omega (arith, room w, small w, at_place, size)

pub returns : goal.returns
returns c =
    let w = (goal.at.returns c).Start in
    let p = c.slot_at-a.result in
    let d = c.size_at-d.result in
    let r : List ℕ = c.args.registry.now in
    let n : p + data_at + d - (p + data_at) ≡ d = omega arith in
    ap (λ (m : ℕ). take m (drop (p + data_at) r)) (n ∙ c.size_at-d.ensures.0)
    ∙ ap (λ (k : ℕ). take (field (k + data_length_at) 2 r) (drop (k + data_at) r)) c.slot_at-a.ensures
    ∙ sym (data_there r c.requires.0 c.args.line c.requires.1 c.args.slot.0 c.requires.2 (room w))
