-- THE CONTRACT OF A STEP: its equation, in terms of what the code returns and leaves.
use Rattle.std.specs.Prelude.{ℕ, ◌≡◌, List, Option, Some, None, Result, Ok, Err}
use Rattle.service.specs.Contract.{lent_memory}
use Rattle.audit.specs.Step.{Memory, Chunks, audit_memory, StepOutcome, ill_formed, step_outcome}
use Rattle.audit.specs.declared.Stepped.{Stepped}
use Rattle.service.specs.Refusals.{refusal_number}
use Rattle.audit.specs.declared.StepRefusal.{StepRefusal}
use Rattle.audit.specs.declared.StepRefusal.TheVariants.{IllFormed, Call}

-- the number of the refusal, if there is one: the auditor's own, or the call's
unfoldable pub refusal_of : Result (Unit {0}) StepRefusal → Option ℕ
refusal_of (Ok tt) = None
refusal_of (Err IllFormed) = Some ill_formed
refusal_of (Err (Call refusal)) = Some (refusal_number refusal)

-- what a step said and left
abbrev pub ran_step : Stepped → (connection registry pending journal : List ℕ) → StepOutcome
ran_step s connection registry pending journal = record {
  refusal = refusal_of s.code;
  requests = s.requests;
  responses = s.responses;
  memory = audit_memory (lent_memory connection registry s.counters) s.progress pending;
  journal = journal;
}

-- it is the definition's outcome
abbrev pub StepContract : (list : List ℕ) (before : Memory) → Chunks → StepOutcome → Type 0
StepContract list before chunks o = o ≡ step_outcome list before chunks
