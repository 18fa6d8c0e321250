use Prim.Native.Nat.{ℕ, ◌+◌, ◌-◌, ◌≤◌}
use mathlib.Core.Path.{◌≡◌, ap, ◌∙◌}
use mathlib.Core.List.{List}
use native.Mathlib.Omega.{arith}
use lib.ListN.{length, take, drop}
use Rattle.wire.specs.Lists.{put}
use Rattle.wire.proofs.BufferLaws.{put_part}
use Rattle.wire.proofs.ListLaws.{length_part}
use Rattle.registry.specs.Slots.{used_slot, slot_size}
use Rattle.registry.specs.Registry.{changed}
use Rattle.registry.proofs.UsedLaws.{length_used}
use Rattle.registry.proofs.change.add_use.Goals as goal

pub returns : goal.returns
unfolding changed
returns c =
    let slot_at = c.slot_at-a in
    let r : List ℕ = c.args.registry.now in
    let at : ℕ = slot_at.result in
    let w = c.count_use in
    let inside : at + slot_size ≤ length r = omega (arith, slot_at.ensures, c.requires.0, c.requires.1, c.requires.2) in
    let d : at + slot_size - at ≡ slot_size = omega arith in
    let slot : w.new.slot ≡ used_slot (take slot_size (drop at r)) = w.ensures ∙ ap (λ (k : ℕ). used_slot (take k (drop at r))) d in
    put_part r w.new.slot at slot_size (ap length slot ∙ length_used (take slot_size (drop at r)) (length_part r at slot_size inside))
    ∙ ap (put r at) slot ∙ ap (λ (k : ℕ). put r k (used_slot (take slot_size (drop k r)))) slot_at.ensures
