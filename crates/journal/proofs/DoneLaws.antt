-- An import or a destroy carried out on a registry, the list of keys that we ship left aside, case by case.
use Rattle.std.proofs.Common.{Option, Some, None, is_some, ok_or, Ok, Err}
use mathlib.Core.Path.{◌≡◌, refl, sym, ap, ◌∙◌}
use mathlib.Core.Bool.{Bool, true, false, true≢false, false≢true, ◌&&◌}
use mathlib.Core.List.{List, []}
use Prim.Native.Nat.{ℕ}
use lib.ListN.{get_or}
use lib.Dec.{eqb}
use Rattle.keys.specs.Names.{legal_name, key_name_most}
use Rattle.keys.specs.Key.{Key, legal_bits}
use Rattle.messages.specs.Operations.{nothing}
use Rattle.registry.specs.Slots.{Entry, free, held}
use Rattle.registry.specs.Registry.{slot_named, Change, fill, clear, changed}
use Rattle.registry.specs.declared.Line.{Line}
use Rattle.registry.specs.declared.Slot.{Slot}
use Rattle.shipped.specs.Shipped.{listed_named}
use Rattle.lookup.specs.Lookup.{own, own_in, listed_in, key_named}
use Rattle.lookup.proofs.LookupLaws.{own_named, none_own}
use Rattle.judgement.specs.Status.{status_number}
use Rattle.judgement.specs.Operations.{Result, success, refuse, within_bounds, import_by, destroy_of, perform_destroy}
use Rattle.judgement.specs.declared.Status.{Status}
use Rattle.judgement.specs.declared.Status.TheVariants.{PsaErrorInvalidArgument, PsaErrorNotSupported, PsaErrorAlreadyExists, PsaErrorDoesNotExist, PsaErrorInsufficientStorage}
use Rattle.judgement.proofs.SourceLaws.{held_there}
use Rattle.judgement.proofs.ImportLaws.{bounded_name, Taken, out_of_bounds, other_bits, name_taken, no_slot, imported}
use Rattle.journal.specs.declared.Fault.{Fault}
use Rattle.journal.specs.declared.Fault.TheVariants.{NotAllowed}
use Rattle.journal.specs.code.Done.{Left, done_on}

-- ---- what is found, or else is not allowed

module _ {A : Type 0} where
  pub not_some : (o : Option A) → is_some o ≡ false → o ≡ None
  not_some None e = refl
  not_some (Some x) e = absurd (true≢false e)

  pub not_there : (o : Option A) {fault : Fault} → ok_or o NotAllowed ≡ Err fault → (o ≡ None) × (fault ≡ NotAllowed)
  not_there None e = (refl, cc)
  not_there (Some x) e = absurd (let p : ⊥ = cc in p)

  pub there : (o : Option A) {x : A} → ok_or o NotAllowed ≡ Ok x → o ≡ Some x
  there None e = cc
  there (Some y) e = cc

-- ---- which key a legal name stands for

module _ (name : List ℕ) (slots : List Entry) where
  pub name_free : slot_named name slots ≡ None → key_named name slots [] ≡ None
  name_free e = none_own name slots [] e ∙ (unfold listed_in listed_named in refl)

  pub name_held : legal_name key_name_most name ≡ true → (slot : Slot) → slot_named name slots ≡ Some slot
      → (key : Key) × (key_named name slots [] ≡ Some (own slot key))
  unfolding own_in
  name_held legal slot e = go (get_or slots slot.0 free) refl (own_named name slots [] slot e)
    where
      go : (entry : Entry) → get_or slots slot.0 free ≡ entry → key_named name slots [] ≡ own_in slot entry
          → (key : Key) × (key_named name slots [] ≡ Some (own slot key))
      go free q w = absurd (held_there name slots slot legal e q)
      go (held key) q w = (key, w)

-- ---- destroy

module _ (name : List ℕ) (slots : List Entry) where
  bad_destroyed : legal_name key_name_most name ≡ false → perform_destroy name slots [] ≡ refuse PsaErrorInvalidArgument
  unfolding perform_destroy
  bad_destroyed e = rw (e, perform_destroy)

  none_destroyed : legal_name key_name_most name ≡ true → key_named name slots [] ≡ None → perform_destroy name slots [] ≡ refuse PsaErrorDoesNotExist
  unfolding perform_destroy
  none_destroyed e w = rw (e, w, perform_destroy)

  own_destroyed : legal_name key_name_most name ≡ true → (slot : Slot) (key : Key) → key_named name slots [] ≡ Some (own slot key)
      → perform_destroy name slots [] ≡ success nothing (clear slot)
  unfolding perform_destroy destroy_of
  own_destroyed e slot key w = rw (e, w, perform_destroy)

-- ---- and what is left of the registry

module _ (g : List ℕ) (line : Line) where
  refused_done : (x : Result) (status : Status) → eqb (status_number status) 0 ≡ false → x ≡ refuse status
      → record { judged = Err NotAllowed; registry = g } ≡ done_on g line x
  unfolding done_on refuse
  refused_done x status z e =
      let w : record { judged = Err NotAllowed; registry = g } ≡ done_on g line (refuse status) = rw z in
      w ∙ ap (done_on g line) (sym e)

  success_done : (x : Result) (change : Change) → x ≡ success nothing change → record { judged = Ok tt; registry = changed g line change } ≡ done_on g line x
  unfolding done_on success status_number
  success_done x change e =
      let w : record { judged = Ok tt; registry = changed g line change } ≡ done_on g line (success nothing change) = refl in
      w ∙ ap (done_on g line) (sym e)

  module _ (name : List ℕ) (slots : List Entry) where
    abbrev destroyed : Left
    destroyed = done_on g line (perform_destroy name slots [])

    pub destroy_bad : legal_name key_name_most name ≡ false → record { judged = Err NotAllowed; registry = g } ≡ destroyed
    destroy_bad e = refused_done _ PsaErrorInvalidArgument (unfold status_number in refl) (bad_destroyed name slots e)

    pub destroy_none : legal_name key_name_most name ≡ true → slot_named name slots ≡ None → record { judged = Err NotAllowed; registry = g } ≡ destroyed
    destroy_none e w = refused_done _ PsaErrorDoesNotExist (unfold status_number in refl) (none_destroyed name slots e (name_free name slots w))

    pub destroy_done : legal_name key_name_most name ≡ true → (slot : Slot) → slot_named name slots ≡ Some slot
        → record { judged = Ok tt; registry = changed g line (clear slot) } ≡ destroyed
    destroy_done e slot w =
        let (key, there) = name_held name slots e slot w in
        success_done _ (clear slot) (own_destroyed name slots e slot key there)

  module _ (key : Key) (slots : List Entry) where
    abbrev done : Left
    done = done_on g line (import_by legal_bits key slots [])

    pub import_bad : within_bounds key && legal_bits key.bits ≡ false → record { judged = Err NotAllowed; registry = g } ≡ done
    import_bad e = go (within_bounds key) refl e
      where
        go : (t : Bool) → within_bounds key ≡ t → t && legal_bits key.bits ≡ false → record { judged = Err NotAllowed; registry = g } ≡ done
        go false w b = refused_done _ PsaErrorInvalidArgument (unfold status_number in refl) (out_of_bounds legal_bits slots [] key w)
        go true w b = refused_done _ PsaErrorNotSupported (unfold status_number in refl) (other_bits legal_bits slots [] key w b)

    module _ (t : Taken legal_bits key) where
      import_over : (slot : Slot) → slot_named key.name slots ≡ Some slot → record { judged = Err NotAllowed; registry = g } ≡ done
      import_over slot w =
          let (k, there) = name_held key.name slots (bounded_name key t.bounds) slot w in
          refused_done _ PsaErrorAlreadyExists (unfold status_number in refl) (name_taken legal_bits slots [] key t (own slot k) there)

      pub import_taken : (o : Option Slot) → o ≡ slot_named key.name slots → is_some o ≡ true → record { judged = Err NotAllowed; registry = g } ≡ done
      import_taken None w there = absurd (false≢true there)
      import_taken (Some slot) w there = import_over slot (sym w)

      module _ (w : slot_named key.name slots ≡ None) where
        pub import_full : slot_named [] slots ≡ None → record { judged = Err NotAllowed; registry = g } ≡ done
        import_full f = refused_done _ PsaErrorInsufficientStorage (unfold status_number in refl) (no_slot legal_bits slots [] key t (name_free key.name slots w) f)

        pub import_done : (slot : Slot) → slot_named [] slots ≡ Some slot → record { judged = Ok tt; registry = changed g line (fill slot key) } ≡ done
        import_done slot f = success_done _ (fill slot key) (imported legal_bits slots [] key t (name_free key.name slots w) slot f)
