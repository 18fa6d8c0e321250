-- What is claimed of the auditor: types, no proof.
use Rattle.std.specs.Prelude.{ℕ, ◌≡◌, true, take, drop, Some}
use mathlib.Core.List.{List, [], ◌∷◌, ◌++◌, flatten}
use Rattle.reading.specs.Calls.{taken_stream}
use Rattle.stream.specs.Rules.{rules}
use Rattle.stream.specs.Handed.{joined_responses}
use Rattle.judgement.specs.Judgement.{judgement}
use Rattle.service.specs.Call.{Call, fresh, memory_of}
use Rattle.service.specs.Contract.{Ran}
use Rattle.service.specs.Claims.{Runs, answers_in}
use Rattle.audit.specs.Audit.{audit}
use Rattle.audit.specs.Step.{Memory, Chunks, audit_memory, StepOutcome, begun, end_outcome}
use Rattle.audit.specs.Contract.{StepContract}
use Rattle.audit.specs.declared.Verdict.TheVariants.{Accepted}

-- ---- THE VERDICT

-- accepted exactly when the captured responses, joined, are those that the rules give
abbrev pub AcceptedExactly : Type 0
AcceptedExactly = (list registry requests captured : List ℕ)
    → (audit list registry requests captured ≡ Accepted → captured ≡ flatten (rules (judgement list) registry requests).responses)
    × (captured ≡ flatten (rules (judgement list) registry requests).responses → audit list registry requests captured ≡ Accepted)

-- responses that are accepted, and with one byte changed, lost or added are not, wherever it is
pub record AcceptedAlone (list registry requests responses : List ℕ) : Type 0 where
  pub accepted : audit list registry requests responses ≡ Accepted
  pub changed : (before after : List ℕ) (byte other : ℕ) → responses ≡ before ++ (byte ∷ after) → (byte ≡ other → ⊥)
      → audit list registry requests (before ++ (other ∷ after)) ≡ Accepted → ⊥
  pub lost : (before after : List ℕ) (byte : ℕ) → responses ≡ before ++ (byte ∷ after) → audit list registry requests (before ++ after) ≡ Accepted → ⊥
  pub added : (before after : List ℕ) (byte : ℕ) → responses ≡ before ++ after → audit list registry requests (before ++ (byte ∷ after)) ≡ Accepted → ⊥

-- of any calls of the code: the responses that they wrote, for the stream that they took
abbrev pub WrittenAccepted : Type 0
WrittenAccepted = (list registry : List ℕ) (calls : List Call) (runs : List Ran) → Runs list (fresh registry) calls runs
    → AcceptedAlone list registry (taken_stream calls (answers_in runs)) (joined_responses (answers_in runs))

-- ---- ANY LIST OF STEPS, refused ones among them

-- a fresh connection, zero counters, nothing compared
abbrev pub fresh_audit : (registry pending : List ℕ) → Memory
fresh_audit registry pending = audit_memory (fresh registry) begun pending

-- each meets its contract on the memory that the one before left
abbrev pub StepRuns : (list : List ℕ) → Memory → List Chunks → List StepOutcome → Type 0
StepRuns list m [] [] = Unit {0}
StepRuns list m [] (o ∷ runs) = ⊥
StepRuns list m (c ∷ chunks) [] = ⊥
StepRuns list m (c ∷ chunks) (o ∷ runs) = StepContract list m c o × StepRuns list o.memory chunks runs

abbrev pub left_after : Memory → List StepOutcome → Memory
left_after m [] = m
left_after m (o ∷ runs) = left_after o.memory runs

-- the request bytes that they took, joined
unfoldable pub taken_requests : List Chunks → List StepOutcome → List ℕ
taken_requests [] runs = []
taken_requests (c ∷ chunks) [] = []
taken_requests (c ∷ chunks) (o ∷ runs) = take o.requests c.requests ++ taken_requests chunks runs

-- what they left of the captured responses
unfoldable pub left_over : (captured : List ℕ) → List StepOutcome → List ℕ
left_over captured [] = captured
left_over captured (o ∷ runs) = left_over (drop o.responses captured) runs

-- THE CHUNKS ARE CUT ANYWHERE: each chunk of responses is a beginning of what is left of them; the last one is all of it
pub record Beginning (left : List ℕ) (c : Chunks) : Type 0 where
  pub later : List ℕ
  pub is : left ≡ c.responses ++ later
  pub last : c.is_last ≡ true → later ≡ []

abbrev pub CutFrom : (captured : List ℕ) → List Chunks → List StepOutcome → Type 0
CutFrom captured [] runs = Unit {0}
CutFrom captured (c ∷ chunks) [] = Unit {0}
CutFrom captured (c ∷ chunks) (o ∷ runs) = Beginning captured c × CutFrom (drop o.responses captured) chunks runs

pub record Audited (list registry pending captured : List ℕ) (chunks : List Chunks) (runs : List StepOutcome) : Type 0 where
  -- the verdict at the end is the definition's on the uncut streams
  pub verdict : (let m = left_after (fresh_audit registry pending) runs in
      end_outcome m.progress m.pending (left_over captured runs) ≡ Some (audit list registry (taken_requests chunks runs) captured))
  -- connection, registry and counters, and so the bill, are those that the rules leave after the requests
  pub memory : (left_after (fresh_audit registry pending) runs).service ≡ memory_of (rules (judgement list) registry (taken_requests chunks runs)).state

abbrev pub AnySteps : Type 0
AnySteps = (list registry pending captured : List ℕ) (chunks : List Chunks) (runs : List StepOutcome)
    → StepRuns list (fresh_audit registry pending) chunks runs → CutFrom captured chunks runs → Audited list registry pending captured chunks runs
