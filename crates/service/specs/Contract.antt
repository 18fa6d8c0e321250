-- THE CONTRACT OF A CALL, in numbers, so that it is one for Rattle, C and Rust: each of the functions' `ensures` cites it, and
-- it is the single step of demand 3 of the code.
use Rattle.std.specs.Prelude.{ℕ, zero, suc, ◌≡◌, List, Option, Some, None, Result, Ok, Err}
use Rattle.counters.specs.declared.Counters.{Counters}
use Rattle.service.specs.Refusals.{refusal_number}
use Rattle.service.specs.Call.{Memory, Call, Answer, CallOutcome, call_outcome}
use Rattle.service.specs.declared.Refusal.{Refusal}

-- what a function is lent, as a call's memory and as the call
abbrev pub lent_memory : (connection registry : List ℕ) → Counters → Memory
lent_memory connection registry counters = record { connection = connection; registry = registry; counters = counters }

abbrev pub call_with : (chunk response journal : List ℕ) → Call
call_with chunk response journal = record { chunk = chunk; lent = record { response = response; journal = journal } }

-- what the code says, as a number: 0 if the call is taken, else the refusal's
unfoldable pub code_number : Result (Unit {0}) Refusal → ℕ
code_number (Ok tt) = 0
code_number (Err refusal) = refusal_number refusal

-- the refusal that a number says, if it does
unfoldable pub refusal_in : (code : ℕ) → Option ℕ
refusal_in zero = None
refusal_in (suc n) = Some (suc n)

-- all that a call says, in numbers, and leaves
pub record Ran : Type 0 where
  pub code : ℕ  -- 0 if it is taken, else the number of C1 to C7
  pub taken : ℕ
  pub written : ℕ
  pub recorded : ℕ
  pub memory : Memory
  pub response : List ℕ  -- the buffers as they are left
  pub journal : List ℕ

abbrev pub ran_with : (code taken written recorded : ℕ) → Memory → (response journal : List ℕ) → Ran
ran_with code taken written recorded memory response journal =
    record { code = code; taken = taken; written = written; recorded = recorded; memory = memory; response = response; journal = journal }

abbrev pub answer_in : Ran → Answer
answer_in r = record {
  refusal = refusal_in r.code;
  taken = r.taken;
  given = record { response = record { count = r.written; buffer = r.response }; journal = record { count = r.recorded; buffer = r.journal } };
}

abbrev pub outcome_in : Ran → CallOutcome
outcome_in r = record { answer = answer_in r; memory = r.memory }

-- it is the definition's outcome
abbrev pub CallContract : (list : List ℕ) (before : Memory) → Call → Ran → Type 0
CallContract list before call r = outcome_in r ≡ call_outcome list before call
