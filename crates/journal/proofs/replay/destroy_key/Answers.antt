use mathlib.Core.Path.{sym, ap, ◌∙◌}
use mathlib.Core.List.{List}
use Prim.Native.Nat.{ℕ}
use Rattle.std.proofs.Common.{Ok}
use Rattle.std.proofs.lemmas.Result.{err_from_is_err_and}
use Rattle.registry.proofs.RegistryLaws.{slot_below}
use Rattle.journal.proofs.DoneLaws.{not_there, there, destroy_bad, destroy_none, destroy_done}
use Rattle.journal.proofs.replay.destroy_key.Goals as goal

pub returns-then-not-is_legal : goal.returns-then-not-is_legal
returns-then-not-is_legal c =
    destroy_bad c.args.registry.now c.args.line c.args.name.now _ (sym c.is_legal.ensures ∙ c.if-not-is_legal.true)

pub returns-in_err-slot : goal.returns-in_err-slot
returns-in_err-slot c =
    let p = err_from_is_err_and c.from_residual.result c.from_residual.ensures.1 in
    let (none, fault) = not_there c.find_slot.result (sym c.ok_or.ensures.value ∙ c.in_err-slot.was) in
    rw (p.1, p.2, fault)
    (destroy_none c.args.registry.now c.args.line c.args.name.now _ (sym c.is_legal.ensures ∙ c.if-not-is_legal.false) (sym c.find_slot.ensures ∙ none))

pub clear_slot-requires : goal.clear_slot-requires
clear_slot-requires c =
    (c.requires.0, c.requires.1, slot_below c.args.registry.now c.args.line c.args.name.now _ (sym c.find_slot.ensures ∙ there c.find_slot.result (sym c.ok_or.ensures.value ∙ c.in_ok-slot.was)))

pub returns : goal.returns
returns c =
    ap (λ (x : List ℕ). record { judged = Ok tt; registry = x }) c.clear_slot.ensures
    ∙ destroy_done c.args.registry.now c.args.line c.args.name.now _ (sym c.is_legal.ensures ∙ c.if-not-is_legal.false) _
    (sym c.find_slot.ensures ∙ there c.find_slot.result (sym c.ok_or.ensures.value ∙ c.in_ok-slot.was))
