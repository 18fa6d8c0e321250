use mathlib.Core.Path.{◌≡◌, sym, ap, ◌∙◌}
use mathlib.Core.Bool.{Bool, true, ◌&&◌}
use mathlib.Core.List.{List, []}
use Prim.Native.Nat.{ℕ}
use Rattle.std.proofs.Common.{Ok}
use Rattle.std.proofs.lemmas.Result.{err_from_is_err_and}
use Rattle.wire.proofs.TestLaws.{and_left, and_right}
use Rattle.keys.specs.Key.{Key, legal_bits}
use Rattle.registry.specs.code.Check.{key_from}
use Rattle.registry.proofs.SlotLaws.{short_name, short_data}
use Rattle.registry.proofs.RegistryLaws.{slot_below}
use Rattle.judgement.specs.Operations.{within_bounds}
use Rattle.judgement.proofs.ImportLaws.{Taken, bounded_legal}
use Rattle.journal.proofs.DoneLaws.{not_some, not_there, there, import_bad, import_taken, import_full, import_done}
use Rattle.journal.proofs.replay.import_key.Goals as goal

-- a key that is importable meets Import's rules
taken : (k : Key) (answer : Bool) → answer ≡ (within_bounds k && legal_bits k.bits) → answer ≡ true → Taken legal_bits k
taken k _ is holds =
    let both : within_bounds k && legal_bits k.bits ≡ true = sym is ∙ holds in
    record { bounds = and_left (within_bounds k) _ both; bits = and_right (within_bounds k) _ both }

pub returns-then-not-is_importable : goal.returns-then-not-is_importable
returns-then-not-is_importable c =
    let key : Key = key_from c.args.name.now c.args.bytes.now c.args.bits c.args.exported c.args.verified in
    import_bad c.args.registry.now c.args.line key _ (sym c.is_importable.ensures ∙ c.if-not-is_importable.true)

pub returns-then-is_some : goal.returns-then-is_some
returns-then-is_some c =
    let key : Key = key_from c.args.name.now c.args.bytes.now c.args.bits c.args.exported c.args.verified in
    import_taken c.args.registry.now c.args.line key _ (taken key _ c.is_importable.ensures c.if-not-is_importable.false) c.find_slot.result c.find_slot.ensures (sym c.is_some.ensures ∙ c.if-is_some.true)

pub returns-in_err-slot : goal.returns-in_err-slot
returns-in_err-slot c =
    let key : Key = key_from c.args.name.now c.args.bytes.now c.args.bits c.args.exported c.args.verified in
    let p = err_from_is_err_and c.from_residual.result c.from_residual.ensures.1 in
    let (none, fault) = not_there c.find_slot-2.result (sym c.ok_or.ensures.value ∙ c.in_err-slot.was) in
    rw (p.1, p.2, fault)
    (import_full c.args.registry.now c.args.line key _ (taken key _ c.is_importable.ensures c.if-not-is_importable.false)
    (sym c.find_slot.ensures ∙ not_some c.find_slot.result (sym c.is_some.ensures ∙ c.if-is_some.false)) (sym c.find_slot-2.ensures ∙ none))

pub fill_slot-requires : goal.fill_slot-requires
fill_slot-requires c =
    let key : Key = key_from c.args.name.now c.args.bytes.now c.args.bits c.args.exported c.args.verified in
    let t = taken key _ c.is_importable.ensures c.if-not-is_importable.false in
    let legal = bounded_legal key t.bounds t.bits in
    (c.requires.0, c.requires.1, slot_below c.args.registry.now c.args.line [] _ (sym c.find_slot-2.ensures ∙ there c.find_slot-2.result (sym c.ok_or.ensures.value ∙ c.in_ok-slot.was)), short_name key legal, short_data key legal)

pub returns : goal.returns
returns c =
    let key : Key = key_from c.args.name.now c.args.bytes.now c.args.bits c.args.exported c.args.verified in
    ap (λ (x : List ℕ). record { judged = Ok tt; registry = x }) c.fill_slot.ensures
    ∙ import_done c.args.registry.now c.args.line key _ (taken key _ c.is_importable.ensures c.if-not-is_importable.false)
    (sym c.find_slot.ensures ∙ not_some c.find_slot.result (sym c.is_some.ensures ∙ c.if-is_some.false)) _
    (sym c.find_slot-2.ensures ∙ there c.find_slot-2.result (sym c.ok_or.ensures.value ∙ c.in_ok-slot.was))
