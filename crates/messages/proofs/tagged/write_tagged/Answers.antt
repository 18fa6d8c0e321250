use native.Mathlib.Omega.{arith}
use Rattle.std.proofs.Common.{◌≤◌, length}
use Rattle.wire.proofs.BufferLaws.{wrote_on}
use Rattle.messages.proofs.TaggedLaws.{tagged_field_lem}
use Rattle.messages.proofs.tagged.write_tagged.Goals as goal

pub returns : goal.returns
returns c =
    let s = c.args in
    let some : 1 ≤ length s.value.now = omega (arith, c.if-len-eq0.false) in
    rw (tagged_field_lem s.number s.value.now some) (wrote_on (rw c.record_head-head.ensures at c.copy_into-start.ensures) c.copy_into-size.ensures)
