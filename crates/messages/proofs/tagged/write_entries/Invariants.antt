use Rattle.std.proofs.Common.{◌≡◌, ◌*◌, take}
use mathlib.Core.List.{flat_map}
use Rattle.wire.specs.Numbers.{little_endian_of}
use Rattle.wire.specs.code.Wrote.{Wrote}
use Rattle.messages.proofs.tagged.write_entries.Given as goal

abbrev pub invariant-loop-entry : goal.invariant-loop-entry
invariant-loop-entry l = record {
  written : Wrote (flat_map (little_endian_of 4) (take l.entry-index l.list)) l.initial.out l.out l.at;
  place : l.at ≡ 4 * l.entry-index;
}
