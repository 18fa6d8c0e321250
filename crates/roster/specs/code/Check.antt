-- A roster file, as the code reads it, in the reading copy's terms.
use Rattle.std.specs.Prelude.{ℕ, ◌+◌, ◌≤◌, ◌≡◌, true, List, map, length, take, drop, replicate, set, Option, Some, None, Result, Ok, Err}
use Rattle.wire.specs.Choice.{when◌then◌else◌, first_of}
use Rattle.wire.specs.Lists.{all}
use Rattle.registry.specs.Registry.{line_count}
use Rattle.records.specs.Records.{value_in, record_in, is_whole}
use Rattle.roster.specs.Roster.{record_faults, Roster, applications, faulty, roster_of}
use Rattle.roster.specs.declared.RosterFault.{RosterFault}
use Rattle.roster.specs.declared.RosterFault.TheVariants.{CutRecord}
use Rattle.roster.specs.declared.check.Names.{Names}

unfoldable pub loaded_of : Option RosterFault → Result (Unit {0}) RosterFault
loaded_of None = Ok tt
loaded_of (Some fault) = Err fault

-- the first fault of the record that bytes begin with, `names` being those before it
unfoldable pub fault_in : (names : List (List ℕ)) (bytes : List ℕ) → Option RosterFault
fault_in names bytes = when is_whole bytes then first_of (record_faults names (record_in bytes)) else Some CutRecord

-- the names whose records begin at these places
unfoldable pub names_at : (file : List ℕ) → Names → List (List ℕ)
names_at file names = map (λ at. value_in (drop at file)) (take names.count names.starts)

unfoldable pub no_names : Names
no_names = record { count = 0; starts = replicate line_count 0 }

unfoldable pub with_name : Names → (at : ℕ) → Names
with_name names at = record { count = names.count + 1; starts = set names.starts names.count at }

-- at most eight places, and at each a whole record
pub record Within (file : List ℕ) (names : Names) : Type 0 where
  pub few : names.count ≤ line_count
  pub places : length names.starts ≡ line_count
  pub whole : all (λ at. is_whole (drop at file)) (take names.count names.starts) ≡ true

unfoldable pub roster_in : (file : List ℕ) → Result Names RosterFault → Roster
roster_in file (Ok names) = applications (names_at file names)
roster_in file (Err fault) = faulty fault

unfoldable pub KnownWithin : (file : List ℕ) → Result Names RosterFault → Type 0
KnownWithin file (Ok names) = Within file names
KnownWithin file (Err fault) = Unit {0}

-- what is known of a checked file
pub record RosterKnown (file : List ℕ) (checked : Result Names RosterFault) : Type 0 where
  pub roster : roster_in file checked ≡ roster_of file
  pub within : KnownWithin file checked
