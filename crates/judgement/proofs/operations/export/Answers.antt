use mathlib.Core.Path.{◌≡◌, refl, sym, ◌∙◌}
use mathlib.Core.Bool.{true}
use Rattle.keys.specs.Names.{legal_name, key_name_most}
use Rattle.registry.proofs.WellFormedLaws.{good_of}
use Rattle.judgement.specs.declared.Output.TheVariants.{Data}
use Rattle.judgement.specs.declared.Status.TheVariants.{PsaErrorNotPermitted, PsaErrorInvalidArgument, PsaErrorDoesNotExist}
use Rattle.judgement.proofs.SourceLaws.{at_none, at_safe}
use Rattle.judgement.proofs.DecidedLaws.{refusal, listing, bad_exported, none_exported, exported, not_exported, counting}
use Rattle.judgement.proofs.operations.export.Goals as goal
use Rattle.judgement.proofs.operations.export.Goals.{Else-not-is_legal}

legal : (c : Else-not-is_legal) → legal_name key_name_most c.args.name.now ≡ true
legal c = sym c.is_legal.ensures ∙ c.if-not-is_legal.false

pub returns-then-not-is_legal : goal.returns-then-not-is_legal
returns-then-not-is_legal c body =
    rw c.refused.ensures
    (refusal _ _ body PsaErrorInvalidArgument (bad_exported _ _ _ (sym c.is_legal.ensures ∙ c.if-not-is_legal.true)))

pub find_key-place-requires : goal.find_key-place-requires
find_key-place-requires c =
    ((good_of c.args.registry.now c.requires.0).size, c.requires.1, c.requires.2)

pub returns-in-Nothing : goal.returns-in-Nothing
returns-in-Nothing c body =
    let w = (goal.at.returns-in-Nothing c).Else-not-is_legal in
    let s = c.args in
    rw c.refused-in-Nothing.ensures
    (refusal _ _ body PsaErrorDoesNotExist
    (none_exported _ _ _ (legal w) (at_none s.registry.now s.list.now s.line s.name.now _ c.find_key-place.ensures c.in-Nothing.is)))

pub is_exportable-requires : goal.is_exportable-requires
is_exportable-requires c =
    (c.requires.0, c.requires.1, c.find_key-place.ensures.within)

pub returns-then-not-is_exportable : goal.returns-then-not-is_exportable
returns-then-not-is_exportable c body =
    let w = (goal.at.returns-then-not-is_exportable c).Else-not-is_legal in
    let s = c.args in
    rw c.refused-then-not-is_exportable.ensures
    (refusal _ _ body PsaErrorNotPermitted
    (not_exported s.registry.now s.list.now s.line s.name.now _ c.find_key-place.ensures (legal w) c.in_default.not-Nothing (sym c.is_exportable.ensures ∙ c.if-not-is_exportable.true)))

pub returns : goal.returns
returns c body =
    let w = (goal.at.returns c).Else-not-is_legal in
    let s = c.args in
    let at = c.find_key-place.ensures in
    let somewhere = c.in_default.not-Nothing in
    rw (c.counted.ensures, c.served.ensures, exported s.registry.now s.list.now s.line s.name.now _ at (legal w) somewhere (sym c.is_exportable.ensures ∙ c.if-not-is_exportable.false))
    (counting s.registry.now s.list.now s.line s.name.now _ at (legal w) somewhere body _
    (listing _ _ body (Data _) (at_safe s.registry.now s.list.now s.line s.name.now _ at) refl))
