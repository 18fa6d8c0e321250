use Rattle.std.proofs.Common.{Option}
use Prim.Native.Nat.{ℕ}
use mathlib.Core.Path.{◌≡◌, ap, ◌∙◌}
use mathlib.Core.List.{List}
use Rattle.audit.specs.Step.{end_outcome}
use Rattle.audit.specs.declared.Progress.{Progress}
use Rattle.abi.specs.declared.auditing.VerdictNumbers.{VerdictNumbers}
use Rattle.abi.specs.Auditing.{verdict_numbers}
use borrow.Author.Rules.{rules}
use Rattle.abi.proofs.auditing.razidkot_audit_end.Goals as goal
use Rattle.audit.specs.declared.Verdict.{Verdict}

ended : (r : VerdictNumbers) (e : Option Verdict) (p q : Progress) (pending rest : List ℕ) → r ≡ verdict_numbers e → e ≡ end_outcome p pending rest → p ≡ q
    → r ≡ verdict_numbers (end_outcome q pending rest)
ended r e p q pending rest f g h = f ∙ ap verdict_numbers (g ∙ ap (λ (x : Progress). end_outcome x pending rest) h)

pub returns : goal.returns
returns c = ended _ _ _ _ _ _ c.number_ending.ensures c.end_audit.ensures c.progress_of.ensures
