use Prim.Native.Nat.{ℕ, ◌<◌}
use mathlib.Core.Path.{◌≡◌, ap, subst}
use mathlib.Core.List.{List}
use native.Mathlib.Omega.{arith}
use lib.ListN.{length, length-take}
use Rattle.wire.specs.code.Wrote.{Wrote}
use Rattle.wire.proofs.BufferLaws.{wrote_none}
use Rattle.registry.specs.Registry.{slot_count}
use Rattle.registry.specs.declared.Slot.{Slot}
use Rattle.messages.specs.declared.ask.KeyPlaces.{KeyPlaces}
use Rattle.judgement.specs.declared.Edit.{Edit}
use Rattle.judgement.specs.declared.Edit.TheVariants.{Fills, Clears}
use Rattle.registry.proofs.WellFormedLaws.{good_of}
use Rattle.judgement.specs.code.Decided.{KeyParts, change_of, SafeEdit}
use Rattle.journal.specs.Record.{destroying, record_of}
use Rattle.journal.specs.Journalling.{record_for}
use Rattle.journal.specs.code.Written.{act_of_change}
use Rattle.journal.proofs.ChangeLaws.{name_short}
use Rattle.journal.proofs.record.write_record.Goals as goal

-- what is known of the key to import, and of the slot to clear
fills : (n : ℕ) {e : Edit} {slot : Slot} {key : KeyPlaces} → e ≡ Fills slot key → SafeEdit n e → KeyParts n key
fills n is safe = (subst (SafeEdit n) is safe).1

clears : (n : ℕ) {e : Edit} {slot : Slot} → e ≡ Clears slot → SafeEdit n e → slot.0 < slot_count
clears n is safe = subst (SafeEdit n) is safe

pub of-requires : goal.of-requires
of-requires c = (fills _ c.in-Fills.is c.requires.2).within.0

pub of-requires-in-Fills : goal.of-requires-in-Fills
of-requires-in-Fills c = (fills _ c.in-Fills.is c.requires.2).within.1

pub overflow_cast-key : goal.overflow_cast-key
overflow_cast-key c = omega (arith, (fills _ c.in-Fills.is c.requires.2).bits)

pub write_import-requires : goal.write_import-requires
write_import-requires c =
    let f = fills _ c.in-Fills.is c.requires.2 in
    (c.requires.1, rw (c.of.ensures, length-take) (omega (arith, f.name)), rw (c.of-in-Fills.ensures, length-take) (omega (arith, f.bytes)), c.requires.3)

pub name_there-requires : goal.name_there-requires
name_there-requires c =
    ((good_of c.args.registry.now c.requires.0).size, c.requires.1, clears _ c.in-Clears.is c.requires.2)

pub write_destroy-requires : goal.write_destroy-requires
write_destroy-requires c =
    (c.requires.1, omega (arith, ap length c.name_there.ensures, name_short c.args.registry.now c.args.line _ (clears _ c.in-Clears.is c.requires.2) c.requires.0 c.requires.1), c.requires.3)

pub returns-in-Stays : goal.returns-in-Stays
unfolding change_of act_of_change record_for
returns-in-Stays c = rw c.in-Stays.is (wrote_none c.args.out.now)

pub returns-in-Fills : goal.returns-in-Fills
unfolding change_of act_of_change record_for
returns-in-Fills c = rw c.in-Fills.is (rw (c.of.ensures, c.of-in-Fills.ensures) at c.write_import.ensures)

pub returns-in-Clears : goal.returns-in-Clears
unfolding change_of act_of_change record_for
returns-in-Clears c =
    rw c.in-Clears.is
    (subst (λ (name : List ℕ). Wrote (record_of (destroying c.args.line name)) c.args.out.now c.write_destroy.new.out c.write_destroy.result) c.name_there.ensures c.write_destroy.ensures)

pub returns-in-Uses : goal.returns-in-Uses
unfolding change_of act_of_change record_for
returns-in-Uses c = rw c.in-Uses.is (wrote_none c.args.out.now)
