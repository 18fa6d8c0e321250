-- What the auditor is lent by C, and answers, as numbers (document 02, "The auditor").
use Rattle.std.specs.Prelude.{ℕ, Bool, true, false, not, List, eqb, Option, Some, None}
use Rattle.counters.specs.declared.Counters.{Counters}
use Rattle.service.specs.Contract.{lent_memory}
use Rattle.audit.specs.Step.{Memory, audit_memory, progress_with, StepOutcome, ill_formed}
use Rattle.audit.specs.Contract.{refusal_of}
use Rattle.audit.specs.declared.Progress.{Progress}
use Rattle.audit.specs.declared.Stepped.{Stepped}
use Rattle.audit.specs.declared.Verdict.{Verdict}
use Rattle.audit.specs.declared.Verdict.TheVariants.{Accepted, Wrong}
use Rattle.abi.specs.declared.auditing.Audit.{Audit}
use Rattle.abi.specs.declared.auditing.Audited.{Audited}
use Rattle.abi.specs.declared.auditing.VerdictNumbers.{VerdictNumbers}

-- ---- how far an audit is

abbrev pub progress_of : Audit → Progress
progress_of a = progress_with a.number a.size a.place (not (eqb a.wrong 0))

unfoldable pub wrong_number : Bool → ℕ
wrong_number true = 1
wrong_number false = 0

abbrev pub audit_with : Progress → Counters → Audit
audit_with p counters = record { number = p.number; size = p.size; place = p.place; wrong = wrong_number p.is_wrong; counters = counters }

-- ---- a step

abbrev pub lent_audit : Audit → (connection registry pending : List ℕ) → Memory
lent_audit a connection registry pending = audit_memory (lent_memory connection registry a.counters) (progress_of a) pending

-- 0 for a step that is not refused
unfoldable pub refused_number : Option ℕ → ℕ
refused_number None = 0
refused_number (Some number) = number

abbrev pub stepped_numbers : Stepped → Audited
stepped_numbers s = record { code = refused_number (refusal_of s.code); requests = s.requests; responses = s.responses; audit = audit_with s.progress s.counters }

-- what a step says, and connection, registry, pending response and journal's buffer after it
abbrev pub stepped_with : StepOutcome → Audited × (List ℕ × (List ℕ × (List ℕ × List ℕ)))
stepped_with o = (
  record { code = refused_number o.refusal; requests = o.requests; responses = o.responses; audit = audit_with o.memory.progress o.memory.service.counters },
  (o.memory.service.connection, (o.memory.service.registry, (o.memory.pending, o.journal))),
)

-- ---- the end

abbrev pub verdict_with : (code response byte : ℕ) → VerdictNumbers
verdict_with code response byte = record { code = code; response = response; byte = byte }

-- 0 for `accepted`, 1 for a wrong byte of a response
unfoldable pub verdict_numbers : Option Verdict → VerdictNumbers
verdict_numbers None = verdict_with ill_formed 0 0
verdict_numbers (Some Accepted) = verdict_with 0 0 0
verdict_numbers (Some (Wrong response byte)) = verdict_with 1 response byte
