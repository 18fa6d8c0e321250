use Prim.Native.Nat.{ℕ}
use mathlib.Core.Path.{◌≡◌, ap, ◌∙◌}
use lib.ListN.{length}
use Rattle.wire.specs.Lists.{put}
use Rattle.wire.specs.Numbers.{little_endian_of}
use Rattle.wire.proofs.BufferLaws.{put_part}
use Rattle.wire.proofs.NumberLaws.{length_number}
use Rattle.registry.specs.Slots.{uses_at, uses_in, used, used_slot}
use Rattle.registry.proofs.slots.count_use.Goals as goal

pub returns : goal.returns
unfolding used_slot
returns c =
    let w = c.write_u32 in
    let n : ℕ = used (uses_in c.args.slot.now) in
    let v : w.new.dst ≡ little_endian_of 4 n = w.ensures ∙ ap (little_endian_of 4) (c.one_more.ensures ∙ ap used c.read_u32-uses.ensures) in
    put_part c.args.slot.now w.new.dst uses_at 4 (ap length v ∙ length_number 4 n) ∙ ap (put c.args.slot.now uses_at) v
