use mathlib.Core.Path.{◌≡◌, sym, ◌∙◌}
use mathlib.Core.Bool.{true, false}
use borrow.Author.Tests.{not-true, not-false}
use borrow.Author.Rules.{rules}
use Rattle.audit.specs.Step.{well_formed_progress, is_pending}
use Rattle.audit.proofs.StepLaws.{good, refused_step, compared_step_lem, called_step_lem}
use Rattle.audit.proofs.step.step.Goals as goal
use Rattle.audit.proofs.step.step.Goals.{Else-not-is_well_formed}

-- behind the first test the state is well formed
fine : (c : Else-not-is_well_formed) → (let a = c.args in well_formed_progress a.progress a.pending.now ≡ true)
fine c = let wf = c.is_well_formed in sym wf.ensures ∙ c.if-not-is_well_formed.false

pub returns-then-not-is_well_formed : goal.returns-then-not-is_well_formed
returns-then-not-is_well_formed c =
    let wf = c.is_well_formed in
    refused_step _ _ _ _ _ _ _ _ _ _ (sym wf.ensures ∙ c.if-not-is_well_formed.true) c.refuse.result c.refuse.ensures

pub compare-c-requires : goal.compare-c-requires
compare-c-requires c =
    let w = (goal.at.compare-c-requires c).Else-not-is_well_formed in
    fine w

pub returns-then-is_pending : goal.returns-then-is_pending
returns-then-is_pending c =
    let w = (goal.at.returns-then-is_pending c).Else-not-is_well_formed in
    compared_step_lem _ _ _ _ _ _ _ _ _ _ (fine w) (sym c.is_pending.ensures ∙ c.if-is_pending.true) c.compare-c.result c.after_comparing.result c.compare-c.ensures c.after_comparing.ensures

pub after_calling-requires : goal.after_calling-requires
after_calling-requires c =
    let w = (goal.at.after_calling-requires c).Else-not-is_well_formed in
    (good _ _ (fine w)).numbered

pub returns : goal.returns
returns c =
    let w = (goal.at.returns c).Else-not-is_well_formed in
    called_step_lem _ _ _ _ _ _ _ _ _ _ (fine w) (sym c.is_pending.ensures ∙ c.if-is_pending.false) c.call_by_value-o.result _ _ _ _ c.after_calling.result c.call_by_value-o.ensures c.after_calling.ensures
