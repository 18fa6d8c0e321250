-- The roster file: application names, read into a registry without keys, or the first fault ("Roster, registry, connection,
-- tally", R0 to R5).
use Rattle.std.specs.Prelude.{ℕ, Bool, not, List, [], ◌∷◌, ◌++◌, length, leb, eqb, Some, None, Result, Ok, Err}
use Rattle.wire.specs.Choice.{when◌then◌else◌, first_of}
use Rattle.keys.specs.Names.{legal_name, application_name_most, is_new}
use Rattle.registry.specs.Registry.{line_count, registry_size, registry_of}
use Rattle.records.specs.Records.{Record, Step, next, stop, read_records}
use Rattle.roster.specs.declared.RosterFault.{RosterFault}
use Rattle.roster.specs.declared.RosterFault.TheVariants.{WrongMemorySize, CutRecord, UnknownTag, BadName, NinthName, RepeatedName}

-- R0 to R5
unfoldable pub fault_number : RosterFault → ℕ
fault_number WrongMemorySize = 0
fault_number CutRecord = 1
fault_number UnknownTag = 2
fault_number BadName = 3
fault_number NinthName = 4
fault_number RepeatedName = 5

-- what can be wrong with a whole record, `names` being those before it
unfoldable pub record_faults : (names : List (List ℕ)) → Record → List (Bool × RosterFault)
record_faults names r =
    (not (eqb r.tag 1), UnknownTag)
    ∷ (not (legal_name application_name_most r.value), BadName)
    ∷ (leb line_count (length names), NinthName)
    ∷ (not (is_new r.value names), RepeatedName)
    ∷ []

pub data Roster : Type 0 where
  applications : (names : List (List ℕ)) → Roster  -- in file order
  faulty : RosterFault → Roster

-- the first fault of a record, or one name more
unfoldable pub record_step : (names : List (List ℕ)) → Record → Step (List (List ℕ)) Roster
record_step names r = elim (first_of (record_faults names r)) [
  | Some fault ↦ stop (faulty fault)
  | None ↦ next (names ++ (r.value ∷ []))
]

-- a cut record is R1 whatever its tag
unfoldable pub roster_of : (file : List ℕ) → Roster
roster_of file = read_records (faulty CutRecord) record_step applications file []

-- ---- reading a roster file into memory lent for the registry

pub record RosterOutcome : Type 0 where
  pub answer : Result (Unit {0}) RosterFault  -- good, or the first fault
  pub registry : List ℕ  -- the memory afterwards

unfoldable pub roster_into : (memory : List ℕ) → Roster → RosterOutcome
roster_into memory (applications names) = record { answer = Ok tt; registry = registry_of names }
roster_into memory (faulty fault) = record { answer = Err fault; registry = memory }

-- memory of another size is refused before any record; a refused file leaves it as it came
unfoldable pub load_roster : (file memory : List ℕ) → RosterOutcome
load_roster file memory =
    when eqb (length memory) registry_size then roster_into memory (roster_of file) else roster_into memory (faulty WrongMemorySize)
