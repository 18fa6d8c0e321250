use Prim.Native.Nat.{ℕ}
use mathlib.Core.Path.{◌≡◌, ap, ◌∙◌}
use mathlib.Core.List.{List}
use Rattle.service.specs.Call as service
use Rattle.audit.specs.Step.{Memory, Chunks, audit_memory, step_outcome}
use Rattle.audit.specs.Contract.{ran_step, StepContract}
use Rattle.audit.specs.declared.Progress.{Progress}
use Rattle.audit.specs.declared.Stepped.{Stepped}
use Rattle.abi.specs.declared.auditing.Audited.{Audited}
use Rattle.abi.specs.Auditing.{stepped_numbers, stepped_with}
use borrow.Author.Rules.{rules}
use Rattle.abi.proofs.auditing.razidkot_audit_step.Goals as goal

-- what is ensured, from what `progress_of`, `step` and `number_stepped` ensure
numbered : (r : Audited) (s : Stepped) (p q : Progress) (connection registry pending journal list buffer : List ℕ) (m : service.Memory) (chunks : Chunks)
    → p ≡ q → StepContract list (audit_memory m p buffer) chunks (ran_step s connection registry pending journal) → r ≡ stepped_numbers s
    → (r, (connection, (registry, (pending, journal)))) ≡ stepped_with (step_outcome list (audit_memory m q buffer) chunks)
numbered r s p q connection registry pending journal list buffer m chunks e f g =
    ap (λ (x : Audited). (x, (connection, (registry, (pending, journal))))) g
    ∙ ap stepped_with (f ∙ ap (λ (x : Progress). step_outcome list (audit_memory m x buffer) chunks) e)

pub returns : goal.returns
returns c =
    let stepped = c in
    let progressed = stepped in
    numbered _ _ _ _ _ _ _ _ _ _ _ _ progressed.progress_of.ensures stepped.step.ensures c.number_stepped.ensures
