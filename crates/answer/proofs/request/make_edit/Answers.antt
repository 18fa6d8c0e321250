use Prim.Native.Nat.{ℕ, ◌<◌}
use mathlib.Core.Path.{◌≡◌, subst}
use native.Mathlib.Omega.{arith}
use lib.ListN.{length-take}
use Rattle.registry.specs.Registry.{slot_count, changed}
use Rattle.registry.specs.declared.Slot.{Slot}
use Rattle.messages.specs.declared.ask.KeyPlaces.{KeyPlaces}
use Rattle.judgement.specs.declared.Edit.{Edit}
use Rattle.judgement.specs.declared.Edit.TheVariants.{Fills}
use Rattle.judgement.specs.code.Decided.{KeyParts, change_of, SafeEdit}
use Rattle.answer.proofs.request.make_edit.Goals as goal

-- what is known of a slot to fill, and of the key in the body
fills : (n : ℕ) {e : Edit} {slot : Slot} {key : KeyPlaces} → e ≡ Fills slot key → SafeEdit n e → (slot.0 < slot_count) × KeyParts n key
fills n is safe = subst (SafeEdit n) is safe

pub of-requires : goal.of-requires
of-requires c = (fills _ c.in-Fills.is c.requires.2).1.within.0

pub of-requires-in-Fills : goal.of-requires-in-Fills
of-requires-in-Fills c = (fills _ c.in-Fills.is c.requires.2).1.within.1

pub overflow_cast-key : goal.overflow_cast-key
overflow_cast-key c = omega (arith, (fills _ c.in-Fills.is c.requires.2).1.bits)

pub fill_slot-requires : goal.fill_slot-requires
fill_slot-requires c =
    let f = fills _ c.in-Fills.is c.requires.2 in
    (c.requires.0, c.requires.1, f.0, rw (c.of.ensures, length-take) (omega (arith, f.1.name)), rw (c.of-in-Fills.ensures, length-take) (omega (arith, f.1.bytes)))

pub clear_slot-requires : goal.clear_slot-requires
clear_slot-requires c =
    (c.requires.0, c.requires.1, rw c.in-Clears.is at c.requires.2)

pub add_use-requires : goal.add_use-requires
add_use-requires c =
    (c.requires.0, c.requires.1, rw c.in-Uses.is at c.requires.2)

pub returns-in-Stays : goal.returns-in-Stays
unfolding changed change_of
returns-in-Stays c = rw c.in-Stays.is

pub returns-in-Fills : goal.returns-in-Fills
unfolding change_of
returns-in-Fills c = rw (c.in-Fills.is, ← c.of.ensures, ← c.of-in-Fills.ensures) c.fill_slot.ensures

pub returns-in-Clears : goal.returns-in-Clears
unfolding change_of
returns-in-Clears c = rw c.in-Clears.is c.clear_slot.ensures

pub returns-in-Uses : goal.returns-in-Uses
unfolding change_of
returns-in-Uses c = rw c.in-Uses.is c.add_use.ensures
