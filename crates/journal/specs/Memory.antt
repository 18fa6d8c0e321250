-- The reader in lent memory (docs/LAYOUT.md), and A CALL'S WHOLE OUTCOME: an ill-formed registry is refused first, then an
-- ill-formed reader's state.
use Rattle.std.specs.Prelude.{ℕ, ◌+◌, Bool, not, List, [], ◌∷◌, ◌++◌, length, drop, get_or, leb, eqb, Option, Some, None, Result, Ok, Err}
use Rattle.wire.specs.Choice.{when◌then◌else◌, first_of}
use Rattle.wire.specs.Lists.{all, every, is_zero}
use Rattle.wire.specs.Numbers.{little_endian_of, field}
use Rattle.registry.specs.WellFormed.{well_formed_registry}
use Rattle.reading.specs.Reader.{read}
use Rattle.reading.specs.Calls.{Call, Layout}
use Rattle.journal.specs.declared.Fault.{Fault}
use Rattle.journal.specs.declared.Fault.TheVariants.{WrongCrc, WrongLayout, NotAllowed}
use Rattle.journal.specs.declared.read.Said.{Said}
use Rattle.journal.specs.declared.read.Said.TheVariants.{RegistryIllFormed, StateIllFormed, Waiting, AtBorder, Refused}
use Rattle.journal.specs.declared.state.BeginRefusal.{BeginRefusal}
use Rattle.journal.specs.declared.state.BeginRefusal.TheVariants.{WrongSize}
use Rattle.journal.specs.Compact.{front_most, file_most, Compact, between, is_begun_whole, compact_journal}

-- ---- how it lies in memory: the fault's number, the bytes kept, how many bytes of a record are begun, the register, and the
-- record's front

abbrev pub kept_at : ℕ
kept_at = 1

abbrev pub count_at : ℕ
count_at = kept_at + 8

abbrev pub register_at : ℕ
register_at = count_at + 8

abbrev pub front_at : ℕ
front_at = register_at + 4

abbrev pub state_size : ℕ
state_size = front_at + front_most

abbrev pub state_head : (fault kept count register : ℕ) → List ℕ
state_head fault kept count register = fault ∷ (little_endian_of 8 kept ++ (little_endian_of 8 count ++ little_endian_of 4 register))

unfoldable pub state_bytes : Compact → List ℕ
state_bytes s = state_head s.fault s.kept s.count s.register ++ s.front

unfoldable pub compact_in : (registry state : List ℕ) → Compact
compact_in registry state = record {
  registry = registry;
  fault = get_or state 0 0;
  kept = field kept_at 8 state;
  count = field count_at 8 state;
  register = field register_at 4 state;
  front = drop front_at state;
}

-- ---- which memory is a state: of the one exact size, with a fault's number, bytes of no longer a file, a record that is not
-- whole yet, and zeros behind its bytes

unfoldable pub well_formed_state : (state : List ℕ) → Bool
well_formed_state state =
    every (
    eqb (length state) state_size
    ∷ leb (get_or state 0 0) 3
    ∷ leb (field kept_at 8 state + field count_at 8 state) file_most
    ∷ not (is_begun_whole (field count_at 8 state) (drop front_at state))
    ∷ all is_zero (drop (front_at + field count_at 8 state) state)
    ∷ [])

-- a fresh one
unfoldable pub fresh_state : List ℕ
fresh_state = state_bytes (between [] 0 0)

pub record Beginning : Type 0 where
  pub answer : Result (Unit {0}) BeginRefusal
  pub state : List ℕ

-- memory of another size stays as it came
unfoldable pub begin_state : (state : List ℕ) → Beginning
begin_state state =
    when eqb (length state) state_size then record { answer = Ok tt; state = fresh_state } else record { answer = Err WrongSize; state = state }

-- ---- A CALL'S WHOLE OUTCOME

unfoldable pub read_refusal : (registry state : List ℕ) → Option Said
read_refusal registry state =
    first_of ((not (well_formed_registry registry), RegistryIllFormed) ∷ (not (well_formed_state state), StateIllFormed) ∷ [])

-- J1 to J3, by their numbers
unfoldable pub fault_of : ℕ → Fault
fault_of n = when eqb n 1 then WrongCrc else when eqb n 2 then WrongLayout else NotAllowed

unfoldable pub said_of : (fault count : ℕ) → Said
said_of fault count = when not (eqb fault 0) then Refused (fault_of fault) else when eqb count 0 then AtBorder else Waiting

pub record ReadOutcome : Type 0 where
  pub said : Said
  pub taken : ℕ
  pub kept : ℕ
  pub state : List ℕ
  pub registry : List ℕ

unfoldable pub outcome_of : (taken : ℕ) → Compact → ReadOutcome
outcome_of taken s = record { said = said_of s.fault s.count; taken = taken; kept = s.kept; state = state_bytes s; registry = s.registry }

unfoldable pub read_outcome : (registry state chunk : List ℕ) → ReadOutcome
read_outcome registry state chunk = elim (read_refusal registry state) [
  | Some said ↦ record { said = said; taken = 0; kept = 0; state = state; registry = registry }
  | None ↦
      let reading = read compact_journal (compact_in registry state) chunk in
      outcome_of reading.taken reading.kept
]

-- ---- the same as a reader in memory, for lists of calls

pub record Memory : Type 0 where
  pub registry : List ℕ
  pub state : List ℕ

abbrev pub journal_layout : Layout Memory Compact Fault (Unit {0}) (Option Fault)
journal_layout = record {
  load = λ m. compact_in m.registry m.state;
  store = λ s. record { registry = s.registry; state = state_bytes s };
  give = λ fault _. fault;
}

abbrev pub refusal : Memory → Call (Unit {0}) → Option Said
refusal m call = read_refusal m.registry m.state
