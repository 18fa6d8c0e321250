-- What becomes of the files, by what was read of them.
use Rattle.std.specs.Prelude.{ℕ, ◌≡◌, Bool, true, false, List, take, ℤ, Option, Some, None, Result, Ok, Err}
use Rattle.connection.specs.Connection.{well_formed_connection}
use Rattle.registry.specs.Registry.{registry_of}
use Rattle.registry.specs.WellFormed.{well_formed_registry}
use Rattle.roster.specs.Roster.{applications, roster_of, RosterOutcome, load_roster}
use Rattle.shipped.specs.Shipped.{well_formed_list}
use Rattle.counters.specs.Counters.{counter_most}
use Rattle.service.specs.Call.{Memory}
use Rattle.starting.specs.Start.{Source, MayGive, roster_start, start_of, is_good}
use Rattle.starting.specs.code.Stream.{KeptWithin, After}
use Rattle.starting.specs.declared.start.StartRefusal.TheVariants.{Faulty, Unreadable}
use Rattle.roster.specs.declared.RosterFault.{RosterFault}

-- ---- what was kept of a roster file, loaded

pub record SourceOutcome : Type 0 where
  pub answer : Source
  pub registry : List ℕ  -- the memory afterwards

abbrev pub source_with : (answer : Source) (registry : List ℕ) → SourceOutcome
source_with answer registry = record { answer = answer; registry = registry }

unfoldable pub source_for : Result (Unit {0}) RosterFault → Source
source_for (Ok tt) = Ok tt
source_for (Err fault) = Err (Faulty fault)

unfoldable pub source_of : RosterOutcome → SourceOutcome
source_of o = source_with (source_for o.answer) o.registry

unfoldable pub load_front : (bytes : List ℕ) → Option ℕ → (memory : List ℕ) → SourceOutcome
load_front bytes (Some n) memory = source_of (load_roster (take n bytes) memory)
load_front bytes None memory = source_with (Err Unreadable) memory

-- ---- files that were read: which bytes they have no contract can say, so that they are some bytes

-- the registry of a good roster file has its names, and no keys
unfoldable pub Starts : (roster : Option (List ℕ)) (registry : List ℕ) → Type 0
Starts roster registry =
    (file : List ℕ) (names : List (List ℕ)) → roster ≡ Some file → roster_of file ≡ applications names → registry ≡ registry_of names

pub record RosterRead (file : Option ℤ) (registry : List ℕ) (source : Source) : Type 0 where
  pub roster : Option (List ℕ)
  pub given : MayGive file roster
  pub is : source ≡ roster_start roster
  pub registered : Starts roster registry

unfoldable pub ListRead : Option ℤ → (most : ℕ) → Option ℕ → Type 0
ListRead (Some fd) most read = KeptWithin most read
ListRead None most read = read ≡ None

-- roster and list
pub record StartRead (file : Option ℤ) (registry list : List ℕ) (source : Source) : Type 0 where
  pub roster : Option (List ℕ)
  pub given : MayGive file roster
  pub is : source ≡ start_of roster (Some list)
  pub registered : Starts roster registry

-- a good start, on which a stream can be run
unfoldable pub Ready : (registry list : List ℕ) → Source → Type 0
Ready registry list source = is_good source ≡ true → (well_formed_registry registry ≡ true) × (well_formed_list list ≡ true)

-- ---- a stream that was read

-- after a good start it ran through the call
unfoldable pub StreamTaken : Source → (registry list : List ℕ) → Memory → Type 0
StreamTaken source registry list m = is_good source ≡ true → After list registry counter_most m

unfoldable pub StreamRead : Option ℤ → Source → (registry list : List ℕ) → (is_whole : Bool) → Memory → Type 0
StreamRead (Some fd) source registry list is_whole m = StreamTaken source registry list m
StreamRead None source registry list is_whole m = is_whole ≡ false

-- memory that has a bill, where a bill is printed
unfoldable pub Billable : Source → Memory → Type 0
Billable source m = is_good source ≡ true → (well_formed_connection m.connection ≡ true) × (well_formed_registry m.registry ≡ true)
