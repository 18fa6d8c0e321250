-- What is claimed of the reader of a response and of its code: types, no proof.
use Rattle.std.specs.Prelude.{◌≡◌, ℕ, true, false, List, [], ◌∷◌, eqb, Option, Some, None, Ok}
use Rattle.wire.specs.Choice.{when◌then◌else◌}
use Rattle.reading.specs.Reader.{read}
use Rattle.reading.specs.Calls.{Call, CallOutcome, taken_stream}
use Rattle.reading.specs.Claims.{answers_in, left_after, Runs, Cut}
use Rattle.client_responses.specs.Reading.{Asked, Reply, found, response_reader}
use Rattle.client_responses.specs.State.{state_bytes, layout, well_formed_state, begin_state, Said, ill_formed, waiting, said, said_of, ReadOutcome, refusal, read_outcome}
use Rattle.client_responses.specs.Handed.{handed, ReadContract}
use Rattle.client_responses.specs.declared.read.ReadAnswer.{ReadAnswer}

-- ---- calls of `client_responses::read::read`: what each returned, and the memory that it left

pub record ReadRun : Type 0 where
  pub says : ReadAnswer
  pub memory : List ℕ

-- the contract, which the `ensures` of `read` cites
abbrev pub Contract : (memory : List ℕ) → Call (Unit {0}) → ReadRun → Type 0
Contract memory call r = ReadContract memory call.chunk r.says r.memory

abbrev pub outcome_of : ReadRun → ReadOutcome
outcome_of r = handed r.memory r.says

abbrev pub refusal_in : Said → Option (Unit {0})
refusal_in ill_formed = Some tt
refusal_in waiting = None
refusal_in (said reply) = None

abbrev pub reply_in : Said → Option Reply
reply_in ill_formed = None
reply_in waiting = None
reply_in (said reply) = Some reply

-- as `reading` has a call: the reply is given by the one that takes its last byte; those behind it take none and say it again
abbrev pub as_call : ReadOutcome → CallOutcome (List ℕ) (Unit {0}) (Option Reply)
as_call o = record {
  answer = record { refusal = refusal_in o.said; taken = o.taken; given = when eqb o.taken 0 then None else reply_in o.said };
  memory = o.memory;
}

abbrev pub ran_as : ReadRun → CallOutcome (List ℕ) (Unit {0}) (Option Reply)
ran_as r = as_call (outcome_of r)

-- any calls, one after the other, each on the memory that the one before left
abbrev pub Reads : (memory : List ℕ) → List (Call (Unit {0})) → List ReadRun → Type 0
Reads memory calls runs = Runs ran_as Contract memory calls runs

-- what the last call says; `first` where there is none
abbrev pub last_said : (first : Said) → List ReadRun → Said
last_said first [] = first
last_said first (r ∷ runs) = last_said (outcome_of r).said runs

-- ---- "read a response, also in pieces"

-- from fresh memory, whatever the chunks and their bytes
pub record ReadsInPieces (asked : Asked) (fresh : List ℕ) : Type 1 where
  -- call by call the bytes taken and the reply are those of the uncut reader, and no call is refused;
  pub cut : Cut (response_reader asked) (layout asked) refusal ran_as Contract (λ _. true) fresh (read (response_reader asked) [])
  -- the bytes taken are what is kept,
  pub kept : (calls : List (Call (Unit {0}))) (runs : List ReadRun) → Reads fresh calls runs
      → left_after ran_as fresh runs ≡ state_bytes asked (taken_stream calls (answers_in ran_as runs))
  -- and what is found in them, a response, a refusal or nothing yet, the last call says: each call is the last of some
  pub says : (calls : List (Call (Unit {0}))) (runs : List ReadRun) → Reads fresh calls runs
      → last_said waiting runs ≡ said_of (found asked (taken_stream calls (answers_in ran_as runs)))

-- for every request begun
abbrev pub InPieces : Type 1
InPieces = (memory : List ℕ) (asked : Asked) → (begin_state memory asked).answer ≡ Ok tt → ReadsInPieces asked (begin_state memory asked).memory

-- ---- no call and no beginning leaves an ill-formed state, and of one nothing is taken and nothing changes

pub record KeepsStates : Type 0 where
  pub call : (memory chunk : List ℕ) → well_formed_state memory ≡ true → well_formed_state (read_outcome memory chunk).memory ≡ true
  pub begin : (memory : List ℕ) (asked : Asked) → (begin_state memory asked).answer ≡ Ok tt → well_formed_state (begin_state memory asked).memory ≡ true
  pub ill_formed_lem : (memory chunk : List ℕ) → well_formed_state memory ≡ false → read_outcome memory chunk ≡ record { said = ill_formed; taken = 0; memory = memory }
