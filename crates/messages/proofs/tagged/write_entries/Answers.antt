use Rattle.std.proofs.Common.{refl}
use mathlib.Core.List.{flat_map}
use native.Mathlib.Omega.{arith}
use Rattle.wire.specs.Numbers.{little_endian_of}
use Rattle.wire.proofs.BufferLaws.{wrote_none, wrote_on}
use Rattle.wire.proofs.NumberLaws.{length_number}
use Rattle.messages.proofs.TaggedWriteLaws.{entries_more}
use Rattle.messages.proofs.tagged.write_entries.Goals as goal

pub loop-entry-init : goal.loop-entry-init
unfolding flat_map
loop-entry-init c = record { written = wrote_none _; place = refl }

pub loop-entry-preserved : goal.loop-entry-preserved
loop-entry-preserved c =
    let l = c.loop-entry in
    let s = c.args in
    record {
      written =
          rw (entries_more (little_endian_of 4) s.list.now l.entry-index c.loop-entry-test.true, ← c.from.ensures, ← c.bytes_of_u32.ensures)
          (wrote_on l.invariant.written c.copy_into-at.ensures);
      place = omega (arith, c.copy_into-at.ensures.count, l.invariant.place, length_number 4 c.from.result);
    }
