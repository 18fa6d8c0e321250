use mathlib.Core.Path.{◌≡◌, ap, ◌∙◌}
use Rattle.counters.specs.declared.Counters.{Counters}
use Rattle.audit.specs.declared.Progress.{Progress}
use Rattle.abi.specs.declared.auditing.Audit.{Audit}
use Rattle.abi.specs.Auditing.{audit_with}
use borrow.Author.Rules.{rules}
use Rattle.abi.proofs.auditing.razidkot_audit_begin.Goals as goal

made : (r : Audit) (p q : Progress) (k l : Counters) → r ≡ audit_with p k → k ≡ l → p ≡ q → r ≡ audit_with q l
made r p q k l e f g = e ∙ ap (λ (x : Counters). audit_with p x) f ∙ ap (λ (x : Progress). audit_with x l) g

pub returns : goal.returns
returns c = made _ _ _ _ _ c.with_counters.ensures c.zero_counters.ensures c.begin_audit.ensures
