-- The reader as memory is to hold it: of the record begun how many bytes there are, the CRC's register after them, and the first
-- of them. So no record, however long it says it is, needs more room than the longest import.
use Rattle.std.specs.Prelude.{ℕ, ◌+◌, ◌^◌, Bool, not, ◌&&◌, ◌||◌, List, set, replicate, leb, ltb, eqb, Option, Some, None}
use Rattle.wire.specs.Choice.{when◌then◌else◌}
use Rattle.wire.specs.Numbers.{field}
use Rattle.reading.specs.Reader.{Step, Reader}
use Rattle.records.specs.Records.{record_in}
use Rattle.crc.specs.Crc.{all_ones, shift_byte, residue}
use Rattle.journal.specs.declared.Fault.{Fault}
use Rattle.journal.specs.declared.Fault.TheVariants.{WrongCrc}
use Rattle.journal.specs.Record.{Act, sealed_length, value_most, act_in}
use Rattle.journal.specs.Replay.{fault_number, Judged, good, bad, judge_act}

-- the bytes before the CRC, of the longest record that has the layout
abbrev pub front_most : ℕ
front_most = 3 + value_most

-- no file is longer
abbrev pub file_most : ℕ
file_most = 2 ^ 62

pub record Compact : Type 0 where
  pub registry : List ℕ
  pub fault : ℕ  -- its number; 0: none
  pub kept : ℕ  -- the bytes of the whole records
  pub count : ℕ  -- of the record begun: how many bytes there are,
  pub register : ℕ  -- the register after them,
  pub front : List ℕ  -- and the first of them, with zeros behind

-- no record is begun
abbrev pub between : (registry : List ℕ) (fault kept : ℕ) → Compact
between registry fault kept = record {
  registry = registry;
  fault = fault;
  kept = kept;
  count = 0;
  register = all_ones;
  front = replicate front_most 0;
}

-- ---- one byte more

unfoldable pub front_then : (front : List ℕ) (count byte : ℕ) → List ℕ
front_then front count byte = when ltb count front_most then set front count byte else front

unfoldable pub with_byte : Compact → (byte : ℕ) → Compact
with_byte s byte = record {
  registry = s.registry;
  fault = s.fault;
  kept = s.kept;
  count = s.count + 1;
  register = shift_byte s.register byte;
  front = front_then s.front s.count byte;
}

-- the record is whole
unfoldable pub is_begun_whole : (count : ℕ) (front : List ℕ) → Bool
is_begun_whole count front = leb 3 count && leb (sealed_length front) count

-- what a front says; a value that is too long for the layout is not all there
unfoldable pub act_in_front : (front : List ℕ) → Option Act
act_in_front front = when ltb value_most (field 1 2 front) then None else act_in (record_in front)

unfoldable pub judge_begun : (registry : List ℕ) (register : ℕ) (front : List ℕ) → Judged
judge_begun registry register front = when not (eqb register residue) then bad WrongCrc else judge_act registry (act_in_front front)

unfoldable pub compact_record : Compact → Judged → Step Compact Fault
compact_record s (good after) = record { kept = between after 0 (s.kept + s.count); event = None }
compact_record s (bad fault) = record { kept = between s.registry (fault_number fault) s.kept; event = Some fault }

unfoldable pub compact_step : Compact → Step Compact Fault
compact_step s =
    when is_begun_whole s.count s.front then compact_record s (judge_begun s.registry s.register s.front)
    else record { kept = s; event = None }

-- it has ended with a fault, or with the longest file
unfoldable pub has_ended : (fault kept count : ℕ) → Bool
has_ended fault kept count = not (eqb fault 0) || leb file_most (kept + count)

abbrev pub compact_journal : Reader Compact Fault
compact_journal = record { byte = λ s byte. compact_step (with_byte s byte); ended = λ s. has_ended s.fault s.kept s.count }
