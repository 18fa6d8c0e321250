-- What is claimed of the journal's reader and of its code: types, no proof. Each is for any cut of a file into chunks, and about
-- whatever code meets the contract of a call, as `journal::read::read_journal` does.
use Rattle.std.specs.Prelude.{◌≡◌, ℕ, ◌+◌, ◌≤◌, Bool, true, false, length, take, ltb, eqb, Option, Some, None}
use mathlib.Core.List.{List, [], ◌∷◌, ◌++◌, map, flatten}
use Rattle.wire.specs.Choice.{when◌then◌else◌}
use Rattle.wire.specs.Lists.{all}
use Rattle.registry.specs.WellFormed.{well_formed_registry}
use Rattle.reading.specs.Reader.{Reading, read}
use Rattle.reading.specs.Calls.{Call, CallOutcome}
use Rattle.reading.specs.Claims.{left_after, Runs, Cut}
use Rattle.journal.specs.declared.Fault.{Fault}
use Rattle.journal.specs.declared.read.Said.{Said}
use Rattle.journal.specs.declared.read.Said.TheVariants.{RegistryIllFormed, StateIllFormed, Waiting, AtBorder, Refused}
use Rattle.journal.specs.Record.{is_whole}
use Rattle.journal.specs.Replay.{bad, judge_record}
use Rattle.journal.specs.Reader.{Kept, read_journal}
use Rattle.journal.specs.File.{is_record, after_all, whole_in}
use Rattle.journal.specs.Compact.{file_most, between, compact_journal}
use Rattle.journal.specs.Memory.{well_formed_state, fresh_state, read_refusal, ReadOutcome, read_outcome, Memory, journal_layout, refusal}

-- ---- calls of the code: `ReadOutcome` is all that one says and leaves

-- the contract, as the `ensures` of `read_journal` has it
abbrev pub Contract : Memory → Call (Unit {0}) → ReadOutcome → Type 0
Contract m call r = r ≡ read_outcome m.registry m.state call.chunk

abbrev pub refusal_in : Said → Option Said
refusal_in RegistryIllFormed = Some RegistryIllFormed
refusal_in StateIllFormed = Some StateIllFormed
refusal_in Waiting = None
refusal_in AtBorder = None
refusal_in (Refused fault) = None

abbrev pub fault_in : Said → Option Fault
fault_in RegistryIllFormed = None
fault_in StateIllFormed = None
fault_in Waiting = None
fault_in AtBorder = None
fault_in (Refused fault) = Some fault

-- as `reading` has a call: a fault is given by the one that takes the record's last byte; those behind it take none and say it
-- again
abbrev pub ran_as : ReadOutcome → CallOutcome Memory Said (Option Fault)
ran_as r = record {
  answer = record { refusal = refusal_in r.said; taken = r.taken; given = when eqb r.taken 0 then None else fault_in r.said };
  memory = record { registry = r.registry; state = r.state };
}

-- ANY CALLS, one for each chunk, each on the memory that the one before left
abbrev pub Reads : Memory → (chunks : List (List ℕ)) → List ReadOutcome → Type 0
Reads m chunks runs = Runs ran_as Contract m (map (λ (chunk : List ℕ). record { chunk = chunk; lent = tt }) chunks) runs

-- a reader that is begun, with this registry
abbrev pub begun_on : (registry : List ℕ) → Memory
begun_on registry = record { registry = registry; state = fresh_state }

-- ---- what reading comes to

pub record ReadBack : Type 0 where
  pub said : Said  -- by the last call
  pub taken : ℕ  -- by all calls
  pub kept : ℕ  -- the bytes of the records that are carried out
  pub registry : List ℕ  -- after these

abbrev pub nothing_read : (registry : List ℕ) → ReadBack
nothing_read registry = record { said = AtBorder; taken = 0; kept = 0; registry = registry }

-- by calls, one after the other
abbrev pub read_by : ReadBack → List ReadOutcome → ReadBack
read_by b [] = b
read_by b (r ∷ runs) = read_by (record { said = r.said; taken = b.taken + r.taken; kept = r.kept; registry = r.registry }) runs

-- by the uncut reader
abbrev pub said_for : Option Fault → (held : List ℕ) → Said
said_for (Some fault) held = Refused fault
said_for None [] = AtBorder
said_for None (b ∷ held) = Waiting

abbrev pub read_back_in : Reading Kept Fault → ReadBack
read_back_in a = record { said = said_for a.kept.fault a.kept.held; taken = a.taken; kept = a.kept.kept; registry = a.kept.registry }

abbrev pub read_back : (registry file : List ℕ) → ReadBack
read_back registry file = read_back_in (read_journal registry file)

-- all of a file, which ends with a record
abbrev pub to_its_end : (file after : List ℕ) → ReadBack
to_its_end file after = record { said = AtBorder; taken = length file; kept = length file; registry = after }

-- HOWEVER THE FILE IS CUT into chunks, calls of the code come to this
abbrev pub ReadsAs : (registry file : List ℕ) → ReadBack → Type 0
ReadsAs registry file result = (chunks : List (List ℕ)) (runs : List ReadOutcome) → flatten chunks ≡ file → Reads (begun_on registry) chunks runs
    → read_by (nothing_read registry) runs ≡ result

abbrev pub are_bytes : List ℕ → Bool
are_bytes l = all (λ b. ltb b 256) l

-- a file of bytes, no longer than the longest that is read
abbrev pub is_file : List ℕ → Type 0
is_file file = (are_bytes file ≡ true) × (length file ≤ file_most)

-- ---- THE READER IN PIECES, of the code: any calls on a reader begun with a well-formed registry

pub record ReadsInPieces (registry : List ℕ) : Type 1 where
  -- call by call the bytes taken, the fault and the memory are those of the reader that memory holds, and no call is refused;
  pub cut : Cut compact_journal journal_layout refusal ran_as Contract (λ _. true) (begun_on registry) (read compact_journal (between registry 0 0))
  -- of a file of bytes, what is said, taken and kept, and the registry, are those of the uncut reader on them joined;
  pub file : (file : List ℕ) → is_file file → ReadsAs registry file (read_back registry file)
  -- registry and state are well formed after every call
  pub well_formed_lem : (chunks : List (List ℕ)) (runs : List ReadOutcome) → Reads (begun_on registry) chunks runs
      → (let left : Memory = left_after ran_as (begun_on registry) runs in (well_formed_registry left.registry ≡ true) × (well_formed_state left.state ≡ true))

abbrev pub InPieces : Type 1
InPieces = (registry : List ℕ) → well_formed_registry registry ≡ true → ReadsInPieces registry

-- ---- any single call, on any memory

pub record KeepsMemory : Type 0 where
  pub registry : (registry state chunk : List ℕ) → well_formed_registry registry ≡ true → well_formed_registry (read_outcome registry state chunk).registry ≡ true
  pub state : (registry state chunk : List ℕ) → well_formed_state state ≡ true → well_formed_state (read_outcome registry state chunk).state ≡ true
  -- a refused call alters nothing
  pub refused : (registry state chunk : List ℕ) (said : Said) → read_refusal registry state ≡ Some said
      → read_outcome registry state chunk ≡ record { said = said; taken = 0; kept = 0; state = state; registry = registry }

-- ---- CUT ANYWHERE: the first n bytes of a file of good records give the registry after exactly the records that are whole in
-- them, and how many bytes these take

pub record CutAt (registry : List ℕ) (records : List (List ℕ)) (n : ℕ) : Type 0 where
  pub after : List ℕ
  pub replayed : after_all registry (whole_in n records) ≡ Some after
  pub reads : (let file : List ℕ = take n (flatten records) in
      let kept : ℕ = length (flatten (whole_in n records)) in
      ReadsAs registry file (record { said = when eqb kept (length file) then AtBorder else Waiting; taken = length file; kept = kept; registry = after }))

abbrev pub CutAnywhere : Type 0
CutAnywhere = (registry : List ℕ) (records : List (List ℕ)) (last : List ℕ) → well_formed_registry registry ≡ true → all is_record records ≡ true
    → after_all registry records ≡ Some last → is_file (flatten records) → (n : ℕ) → CutAt registry records n

-- ---- EVERY FILE is good records, and behind them the beginning of another, or one that is refused and whatever stands behind
-- it. What is read of the one kind and of the other:

pub data Ends (last rest : List ℕ) : Type 0 where
  unfinished : is_whole rest ≡ false → Ends last rest
  refused : (x behind : List ℕ) (fault : Fault) → rest ≡ x ++ behind → is_record x ≡ true → judge_record last x ≡ bad fault → Ends last rest

pub record Divided (registry file : List ℕ) : Type 0 where
  pub records : List (List ℕ)
  pub last : List ℕ  -- the registry after them
  pub rest : List ℕ
  pub parts : file ≡ flatten records ++ rest
  pub whole : all is_record records ≡ true
  pub replayed : after_all registry records ≡ Some last
  pub ends : Ends last rest

abbrev pub EveryFile : Type 0
EveryFile = (registry file : List ℕ) → Divided registry file

module _ (registry : List ℕ) (records : List (List ℕ)) (last : List ℕ) where
  -- the beginning of a record is no fault: it is waited for
  abbrev pub Waits : Type 0
  Waits = (rest : List ℕ) → is_whole rest ≡ false
      → (let file : List ℕ = flatten records ++ rest in
      is_file file → ReadsAs registry file (record { said = when eqb (length rest) 0 then AtBorder else Waiting; taken = length file; kept = length (flatten records); registry = last }))

  -- J1, J2, J3: the first record that is refused ends the reading with its last byte, whatever stands behind it; the records
  -- before it are kept
  abbrev pub Refuses : Type 0
  Refuses = (x behind : List ℕ) (fault : Fault) → is_record x ≡ true → judge_record last x ≡ bad fault
      → (let file : List ℕ = flatten records ++ (x ++ behind) in
      is_file file → ReadsAs registry file (record { said = Refused fault; taken = length (flatten records) + length x; kept = length (flatten records); registry = last }))

abbrev pub ReadToItsEnd : Type 0
ReadToItsEnd = (registry : List ℕ) (records : List (List ℕ)) (last : List ℕ) → well_formed_registry registry ≡ true → all is_record records ≡ true
    → after_all registry records ≡ Some last → Waits registry records last × Refuses registry records last
