-- Laws of Import, whatever its rule of bits is: how it ends, and what it knows of a key that it takes.
use Rattle.std.proofs.Common.{Option, Some, None}
use mathlib.Core.Path.{◌≡◌, refl}
use mathlib.Core.Bool.{Bool, true, false, and-true}
use mathlib.Core.List.{List, [], ◌∷◌}
use Prim.Native.Nat.{ℕ}
use lib.Dec.{eqb}
use Rattle.wire.proofs.TestLaws.{every_at}
use Rattle.keys.specs.Names.{legal_name, key_name_most}
use Rattle.keys.specs.Key.{Key, legal_data, legal_bits}
use Rattle.messages.specs.Operations.{nothing}
use Rattle.registry.specs.Slots.{Entry}
use Rattle.registry.specs.Registry.{slot_named, fill}
use Rattle.registry.specs.declared.Slot.{Slot}
use Rattle.registry.proofs.SlotLaws.{Legal}
use Rattle.shipped.specs.Shipped.{ListedKey}
use Rattle.lookup.specs.Lookup.{Source, key_named}
use Rattle.judgement.specs.Status.{status_number}
use Rattle.judgement.specs.Operations.{Result, success, refuse, within_bounds, place_key, import_by}
use Rattle.judgement.specs.declared.Status.{Status}
use Rattle.judgement.specs.declared.Status.TheVariants.{PsaErrorInvalidArgument, PsaErrorNotSupported, PsaErrorAlreadyExists, PsaErrorInsufficientStorage}
use Rattle.judgement.proofs.SourceLaws.{none_there}

-- ---- name and data

module _ (key : Key) where
  pub bad_name : legal_name key_name_most key.name ≡ false → within_bounds key ≡ false
  unfolding within_bounds
  bad_name n = rw n

  pub data_left : legal_name key_name_most key.name ≡ true → within_bounds key ≡ legal_data key.bytes
  unfolding within_bounds
  data_left n = rw n (and-true _)

  module _ (e : within_bounds key ≡ true) where
    abbrev bounds : List Bool
    bounds = legal_name key_name_most key.name ∷ legal_data key.bytes ∷ []

    pub bounded_name : legal_name key_name_most key.name ≡ true
    unfolding within_bounds
    bounded_name = every_at bounds 0 e

    pub bounded_legal : legal_bits key.bits ≡ true → Legal key
    unfolding within_bounds
    bounded_legal b = record { name = bounded_name; bytes = every_at bounds 1 e; bits = b }

-- ---- how it ends

-- the key is within bounds, and its bits are taken
pub record Taken (takes : ℕ → Bool) (key : Key) : Type 0 where
  pub bounds : within_bounds key ≡ true
  pub bits : takes key.bits ≡ true

module _ (takes : ℕ → Bool) (slots : List Entry) (keys : List ListedKey) (key : Key) where
  pub out_of_bounds : within_bounds key ≡ false → import_by takes key slots keys ≡ refuse PsaErrorInvalidArgument
  unfolding import_by
  out_of_bounds e = rw e

  pub other_bits : within_bounds key ≡ true → takes key.bits ≡ false → import_by takes key slots keys ≡ refuse PsaErrorNotSupported
  unfolding import_by
  other_bits e b = rw (e, b)

  module _ (t : Taken takes key) where
    pub name_taken : (source : Source) → key_named key.name slots keys ≡ Some source → import_by takes key slots keys ≡ refuse PsaErrorAlreadyExists
    unfolding import_by place_key
    name_taken source e = rw (t.bounds, t.bits, import_by, e, place_key)

    module _ (new : key_named key.name slots keys ≡ None) where
      pub no_slot : slot_named [] slots ≡ None → import_by takes key slots keys ≡ refuse PsaErrorInsufficientStorage
      unfolding import_by place_key
      no_slot e = rw (t.bounds, t.bits, import_by, new, e, place_key)

      pub imported : (slot : Slot) → slot_named [] slots ≡ Some slot → import_by takes key slots keys ≡ success nothing (fill slot key)
      unfolding import_by place_key
      imported slot e = rw (t.bounds, t.bits, import_by, new, e, place_key)

  -- it is refused with a status that has no output, or the key is new and fills a free slot
  pub import_ends : (P : Result → Type 0)
      → ((status : Status) → eqb (status_number status) 0 ≡ false → eqb (status_number status) 7 ≡ false → P (refuse status))
      → ((slot : Slot) → Taken takes key → key_named key.name slots keys ≡ None → slot_named [] slots ≡ Some slot → P (success nothing (fill slot key)))
      → P (import_by takes key slots keys)
  unfolding import_by place_key status_number
  import_ends P refused filled = first (within_bounds key) refl
    where
      fourth : Taken takes key → key_named key.name slots keys ≡ None → (f : Option Slot) → slot_named [] slots ≡ f → P (import_by takes key slots keys)
      fourth t n None e = rw (t.bounds, t.bits, import_by, n, e, place_key) (refused PsaErrorInsufficientStorage refl refl)
      fourth t n (Some slot) e = rw (t.bounds, t.bits, import_by, n, e, place_key) (filled slot t n e)

      third : Taken takes key → (o : Option Source) → key_named key.name slots keys ≡ o → P (import_by takes key slots keys)
      third t (Some source) e = rw (t.bounds, t.bits, import_by, e, place_key) (refused PsaErrorAlreadyExists refl refl)
      third t None e = fourth t e (slot_named [] slots) refl

      second : within_bounds key ≡ true → (t : Bool) → takes key.bits ≡ t → P (import_by takes key slots keys)
      second e false b = rw (e, b, import_by) (refused PsaErrorNotSupported refl refl)
      second e true b = third (record { bounds = e; bits = b }) (key_named key.name slots keys) refl

      first : (t : Bool) → within_bounds key ≡ t → P (import_by takes key slots keys)
      first false e = rw (e, import_by) (refused PsaErrorInvalidArgument refl refl)
      first true e = second e (takes key.bits) refl

  -- no own key has its name
  pub new_there : Taken takes key → key_named key.name slots keys ≡ None → slot_named key.name slots ≡ None
  new_there t n = none_there key.name slots keys (bounded_name key t.bounds) n
