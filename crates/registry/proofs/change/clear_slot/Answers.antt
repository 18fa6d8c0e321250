use Prim.Native.Nat.{ℕ, ◌+◌, ◌-◌, ◌≤◌}
use mathlib.Core.Path.{◌≡◌, ap, ◌∙◌}
use mathlib.Core.List.{List}
use native.Mathlib.Omega.{arith}
use lib.ListN.{length, take, drop, replicate, length-replicate, length-drop}
use lib.Seq.{length-take-le}
use Rattle.wire.specs.Lists.{put}
use Rattle.wire.proofs.BufferLaws.{put_part}
use Rattle.registry.specs.Slots.{free, slot_bytes, slot_size}
use Rattle.registry.specs.Registry.{changed}
use Rattle.registry.proofs.change.clear_slot.Goals as goal

pub returns : goal.returns
unfolding changed slot_bytes
returns c =
    let slot_at = c.slot_at-a in
    let r : List ℕ = c.args.registry.now in
    let at : ℕ = slot_at.result in
    let inside : at + slot_size ≤ length r = omega (arith, slot_at.ensures, c.requires.0, c.requires.1, c.requires.2) in
    let d : at + slot_size - at ≡ slot_size = omega arith in
    let part : length (take (at + slot_size - at) (drop at r)) ≡ slot_size
    = ap (λ (k : ℕ). length (take k (drop at r))) d
    ∙ length-take-le slot_size (drop at r) (rw length-drop (let x : slot_size ≤ length r - at = omega arith in x)) in
    let zeros : c.clear.new.dst ≡ slot_bytes free = c.clear.ensures ∙ ap (λ (k : ℕ). replicate k 0) part in
    put_part r c.clear.new.dst at slot_size (ap length zeros ∙ length-replicate {A = ℕ} slot_size 0)
    ∙ ap (put r at) zeros ∙ ap (λ (k : ℕ). put r k (slot_bytes free)) slot_at.ensures
