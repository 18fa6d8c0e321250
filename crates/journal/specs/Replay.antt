-- A whole record judged on the registry so far (document 02, "Surviving a power cut"): wrong CRC, then a layout not ours, then what Import
-- or Destroy would refuse.
use Rattle.std.specs.Prelude.{ℕ, Bool, ◌&&◌, not, List, [], take, get_or, ltb, eqb, Option, Some, None}
use Rattle.wire.specs.Choice.{when◌then◌else◌}
use Rattle.wire.specs.Numbers.{field}
use Rattle.keys.specs.Key.{legal_bits}
use Rattle.registry.specs.Registry.{line_count, names_in, slots_of, changed}
use Rattle.registry.specs.WellFormed.{is_used}
use Rattle.registry.specs.declared.Line.{Line}
use Rattle.judgement.specs.Status.{status_number}
use Rattle.judgement.specs.Operations.{Result, import_by, perform_destroy}
use Rattle.records.specs.Records.{record_length, record_in}
use Rattle.crc.specs.Crc.{crc32}
use Rattle.journal.specs.declared.Fault.{Fault}
use Rattle.journal.specs.declared.Fault.TheVariants.{WrongCrc, WrongLayout, NotAllowed}
use Rattle.journal.specs.Record.{Act, importing, destroying, act_in}

unfoldable pub in_use : (registry : List ℕ) → Line → Bool
in_use registry line = ltb line.0 line_count && is_used (get_or (names_in registry) line.0 [])

-- as Import or Destroy does it; none where they refuse
unfoldable pub carried_out : (registry : List ℕ) → Line → Result → Option (List ℕ)
carried_out registry line r =
    when in_use registry line && eqb (status_number r.status) 0 then Some (changed registry line r.change) else None

-- the list of keys that we ship is left aside, and bits are by 01's rule: records from before "No more odd key lengths" are read
unfoldable pub replay : (registry : List ℕ) → Act → Option (List ℕ)
replay registry (importing line key) = carried_out registry line (import_by legal_bits key (slots_of registry line) [])
replay registry (destroying line name) = carried_out registry line (perform_destroy name (slots_of registry line) [])

-- J1, J2, J3
unfoldable pub fault_number : Fault → ℕ
fault_number WrongCrc = 1
fault_number WrongLayout = 2
fault_number NotAllowed = 3

pub data Judged : Type 0 where
  good : (after : List ℕ) → Judged  -- the registry after the record
  bad : Fault → Judged

unfoldable pub judge_act : (registry : List ℕ) → Option Act → Judged
judge_act registry None = bad WrongLayout
judge_act registry (Some act) = elim (replay registry act) [
  | None ↦ bad NotAllowed
  | Some after ↦ good after
]

unfoldable pub judge_record : (registry bytes : List ℕ) → Judged
judge_record registry bytes =
    when not (eqb (field (record_length bytes) 4 bytes) (crc32 (take (record_length bytes) bytes))) then bad WrongCrc
    else judge_act registry (act_in (record_in bytes))
