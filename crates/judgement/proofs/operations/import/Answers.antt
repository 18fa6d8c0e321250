use Rattle.std.proofs.Common.{None}
use mathlib.Core.Path.{◌≡◌, sym, ◌∙◌}
use mathlib.Core.List.{List, []}
use Rattle.keys.specs.Key.{Key, import_bits}
use Rattle.registry.specs.Slots.{Entry}
use Rattle.registry.specs.Registry.{slots_of}
use Rattle.registry.proofs.RegistryLaws.{slot_below}
use Rattle.shipped.specs.Shipped.{keys_in}
use Rattle.lookup.specs.Lookup.{key_named}
use Rattle.lookup.specs.code.Places.{KeyAt}
use Rattle.lookup.specs.declared.Place.TheVariants.{Nothing}
use Rattle.judgement.specs.Operations.{perform_import}
use Rattle.messages.specs.Placed.{key_in}
use Rattle.judgement.specs.declared.Status.TheVariants.{PsaErrorInvalidArgument, PsaErrorNotSupported, PsaErrorAlreadyExists, PsaErrorInsufficientStorage}
use Rattle.judgement.proofs.SourceLaws.{at_none, at_source}
use Rattle.judgement.proofs.ImportLaws.{Taken, bounded_name, out_of_bounds, other_bits, name_taken, no_slot, imported}
use Rattle.judgement.proofs.DecidedLaws.{refusal, filling, key_parts}
use Rattle.judgement.proofs.operations.import.Goals as goal
use Rattle.judgement.proofs.operations.import.Goals.{After-find_key}

abbrev key : After-find_key → Key
key s = key_in s.args.body.now s.args.key

abbrev slots : After-find_key → List Entry
slots s = slots_of s.args.registry.now s.args.line

allowed : (c : After-find_key) → Taken import_bits (key c)
allowed c = record {
  bounds = sym c.is_within_bounds.ensures ∙ c.if-not-is_within_bounds.false;
  bits = sym c.are_import_bits.ensures ∙ c.if-not-are_import_bits.false;
}

-- the place of the key of that name
same : (c : After-find_key) → KeyAt c.args.registry.now c.args.list.now c.args.line (key c).name c.find_key.result
same c = rw c.of.ensures at c.find_key.ensures

new : (c : After-find_key) → c.find_key.result ≡ Nothing → key_named (key c).name (slots c) (keys_in c.args.list.now) ≡ None
new c e = at_none c.args.registry.now c.args.list.now c.args.line (key c).name _ (same c) e

pub returns-then-not-is_within_bounds : goal.returns-then-not-is_within_bounds
unfolding perform_import
returns-then-not-is_within_bounds c =
    rw c.refused.ensures
    (refusal _ _ _ PsaErrorInvalidArgument (out_of_bounds import_bits _ _ _ (sym c.is_within_bounds.ensures ∙ c.if-not-is_within_bounds.true)))

pub returns-then-not-are_import_bits : goal.returns-then-not-are_import_bits
unfolding perform_import
returns-then-not-are_import_bits c =
    rw c.refused-then-not-are_import_bits.ensures
    (refusal _ _ _ PsaErrorNotSupported
    (other_bits import_bits _ _ _
    (sym c.is_within_bounds.ensures ∙ c.if-not-is_within_bounds.false)
    (sym c.are_import_bits.ensures ∙ c.if-not-are_import_bits.true)))

pub returns-in_default : goal.returns-in_default
unfolding perform_import
returns-in_default c =
    let w = (goal.at.returns-in_default c).After-find_key in
    let s = c.args in
    let n = bounded_name (key w) (allowed w).bounds in
    rw c.refused-in_default.ensures
    (refusal _ _ _ PsaErrorAlreadyExists
    (name_taken import_bits _ _ _ (allowed w) _
    (at_source s.registry.now s.list.now s.line (key w).name _ (same w) c.in_default.not-Nothing n)))

pub returns-in_default-find_slot : goal.returns-in_default-find_slot
unfolding perform_import
returns-in_default-find_slot c =
    let w = (goal.at.returns-in_default-find_slot c).After-find_key in
    rw c.refused-in_default-find_slot.ensures
    (refusal _ _ _ PsaErrorInsufficientStorage
    (no_slot import_bits _ _ _ (allowed w) (new w c.in-Nothing.is) (sym c.find_slot.ensures ∙ c.in_default-find_slot.is)))

pub returns : goal.returns
unfolding perform_import
returns c =
    let w = (goal.at.returns c).After-find_key in
    let s = c.args in
    let e = sym c.find_slot.ensures ∙ c.in-Some.is in
    filling _ _ _ _ (slot_below s.registry.now s.line [] _ e) _
    (key_parts s.body.now s.key c.requires.3 (allowed w))
    (imported import_bits _ _ _ (allowed w) (new w c.in-Nothing.is) _ e)
