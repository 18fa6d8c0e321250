use Prim.Native.Nat.{◌≤◌}
use mathlib.Core.Path.{◌≡◌}
use mathlib.Core.List.{flat_map}
use native.Mathlib.Omega.{arith}
use lib.ListN.{length}
use Rattle.wire.specs.Numbers.{little_endian_of}
use Rattle.wire.proofs.BufferLaws.{wrote_none, wrote_on}
use Rattle.messages.proofs.TaggedLaws.{list_length, tagged_field_lem, tagged_none}
use Rattle.messages.proofs.tagged.write_tagged_list.Goals as goal

pub returns-then-len-eq0 : goal.returns-then-len-eq0
returns-then-len-eq0 c =
    let s = c.args in
    let none : length (flat_map (little_endian_of 4) s.list.now) ≡ 0 = omega (arith, list_length s.list.now, c.if-len-eq0.true) in
    rw (tagged_none s.number (flat_map (little_endian_of 4) s.list.now) none) (wrote_none s.out.now)

pub overflow_add-result : goal.overflow_add-result
overflow_add-result c =
    let s = c.args in
    omega (arith, c.write_entries-size.ensures.count, list_length s.list.now, c.copy_into-start.ensures.count)

pub returns : goal.returns
returns c =
    let s = c.args in
    let long = list_length s.list.now in
    let some : 1 ≤ length (flat_map (little_endian_of 4) s.list.now) = omega (arith, long, c.if-len-eq0.false) in
    rw (tagged_field_lem s.number (flat_map (little_endian_of 4) s.list.now) some, long)
    (wrote_on (rw c.record_head-head.ensures at c.copy_into-start.ensures) c.write_entries-size.ensures)
