use Prim.Native.Nat.{ℕ}
use mathlib.Core.Path.{ap, ◌∙◌}
use mathlib.Core.List.{List}
use lib.ListN.{length}
use Rattle.wire.specs.Lists.{put}
use Rattle.wire.proofs.BufferLaws.{put_part}
use Rattle.registry.specs.Slots.{key_bytes, slot_size}
use Rattle.registry.specs.code.Check.{key_from}
use Rattle.registry.proofs.SlotLaws.{length_key}
use Rattle.registry.specs.Registry.{changed}
use Rattle.registry.proofs.change.fill_slot.Goals as goal

pub returns : goal.returns
unfolding changed
returns c =
    let slot_at = c.slot_at-a in
    let r : List ℕ = c.args.registry.now in
    let at : ℕ = slot_at.result in
    let w = c.write_key in
    let key = key_from c.args.name.now c.args.bytes.now c.args.bits c.args.exported c.args.verified in
    put_part r w.new.slot at slot_size (ap length w.ensures ∙ length_key key c.requires.3 c.requires.4)
    ∙ ap (put r at) w.ensures ∙ ap (λ (k : ℕ). put r k (key_bytes key)) slot_at.ensures
