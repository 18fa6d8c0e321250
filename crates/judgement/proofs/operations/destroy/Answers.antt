use mathlib.Core.Path.{◌≡◌, sym, ◌∙◌}
use mathlib.Core.Bool.{true}
use Rattle.keys.specs.Names.{legal_name, key_name_most}
use Rattle.judgement.specs.declared.Status.TheVariants.{PsaErrorNotPermitted, PsaErrorInvalidArgument, PsaErrorDoesNotExist}
use Rattle.judgement.proofs.SourceLaws.{at_none, at_below}
use Rattle.judgement.proofs.DecidedLaws.{refusal, clearing, bad_destroyed, none_destroyed, own_destroyed, listed_destroyed}
use Rattle.judgement.proofs.operations.destroy.Goals as goal
use Rattle.judgement.proofs.operations.destroy.Goals.{Else-not-is_legal}

legal : (c : Else-not-is_legal) → legal_name key_name_most c.args.name.now ≡ true
legal c = sym c.is_legal.ensures ∙ c.if-not-is_legal.false

pub returns-then-not-is_legal : goal.returns-then-not-is_legal
returns-then-not-is_legal c body =
    rw c.refused.ensures
    (refusal _ _ body PsaErrorInvalidArgument (bad_destroyed _ _ _ (sym c.is_legal.ensures ∙ c.if-not-is_legal.true)))

-- an own key
pub returns-in-Own : goal.returns-in-Own
returns-in-Own c body =
    let w = (goal.at.returns-in-Own c).Else-not-is_legal in
    let s = c.args in
    clearing _ _ body _ (at_below s.registry.now s.list.now s.line s.name.now _ c.find_key.ensures _ c.in-Own.is) (own_destroyed s.registry.now s.list.now s.line s.name.now _ c.find_key.ensures (legal w) _ c.in-Own.is)

-- one that we ship
pub returns-in-Listed : goal.returns-in-Listed
returns-in-Listed c body =
    let w = (goal.at.returns-in-Listed c).Else-not-is_legal in
    let s = c.args in
    rw c.refused-in-Listed.ensures
    (refusal _ _ body PsaErrorNotPermitted (listed_destroyed s.registry.now s.list.now s.line s.name.now _ c.find_key.ensures (legal w) _ c.in-Listed.is))

pub returns-in-Nothing : goal.returns-in-Nothing
returns-in-Nothing c body =
    let w = (goal.at.returns-in-Nothing c).Else-not-is_legal in
    let s = c.args in
    rw c.refused-in-Nothing.ensures
    (refusal _ _ body PsaErrorDoesNotExist
    (none_destroyed _ _ _ (legal w) (at_none s.registry.now s.list.now s.line s.name.now _ c.find_key.ensures c.in-Nothing.is)))
