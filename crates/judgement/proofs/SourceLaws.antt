-- Laws of the key that a name stands for, and of the place where it lies.
use Rattle.std.proofs.Common.{Option, Some, None}
use mathlib.Core.Path.{◌≡◌, refl, sym, ap, ◌∙◌, subst}
use mathlib.Core.Bool.{true, true≢false}
use mathlib.Core.List.{List, []}
use Prim.Native.Nat.{ℕ, ◌≤◌, ◌<◌}
use native.Mathlib.Omega.{arith}
use lib.ListN.{length, get_or}
use Rattle.wire.proofs.TestLaws.{some≢none}
use Rattle.keys.specs.Names.{legal_name, key_name_most}
use Rattle.keys.specs.Key.{Key, data_most}
use Rattle.keys.proofs.NameLaws.{legal_some}
use Rattle.keys.proofs.KeyLaws.{legal_data_lem}
use Rattle.registry.specs.Slots.{Entry, free, held, name_of}
use Rattle.registry.specs.Registry.{slot_count, slots_of, slot_named}
use Rattle.registry.specs.code.Check.{bytes_in}
use Rattle.registry.specs.declared.Line.{Line}
use Rattle.registry.specs.declared.Slot.{Slot}
use Rattle.registry.proofs.SlotLaws.{ShortEntry}
use Rattle.registry.proofs.RegistryLaws.{found_name}
use Rattle.shipped.specs.Shipped.{ListedKey, keys_in, listed_named}
use Rattle.wire.specs.declared.span.Span.{Span}
use Rattle.shipped.proofs.LegalLaws.{listed_legal}
use Rattle.lookup.specs.Lookup.{shipped_key, Source, own, listed, key_of, own_in, listed_in, key_named}
use Rattle.lookup.specs.code.Places.{Within, key_held, listed_at, key_at, source_at, SlotNamed, KeyAt}
use Rattle.lookup.specs.declared.Place.{Place}
use Rattle.lookup.specs.declared.Place.TheVariants.{Own, Listed, Nothing as Nowhere}
use Rattle.lookup.proofs.LookupLaws.{own_named, none_own, held_bytes, Alike, source_alike}
use Rattle.judgement.specs.code.Decided.{bytes_at, SafeOutput}
use Rattle.judgement.specs.declared.Output.TheVariants.{Data}

-- ---- the key that a name stands for

-- the slot that a legal name finds holds a key
pub held_there : (name : List ℕ) (slots : List Entry) (slot : Slot) → legal_name key_name_most name ≡ true → slot_named name slots ≡ Some slot
    → get_or slots slot.0 free ≡ free → ⊥
held_there name slots slot t e q =
    let None : [] ≡ name = sym (ap name_of q) ∙ found_name name slots slot e in
    let empty : length name ≡ 0 = sym (ap length None) in
    omega (arith, legal_some key_name_most name t)

module _ (name : List ℕ) (slots : List Entry) (keys : List ListedKey) where
  -- by the slot with the name, and by what it holds; else by the list
  by_name : (P : Option Source → Type 0)
      → ((slot : Slot) → slot_named name slots ≡ Some slot → get_or slots slot.0 free ≡ free → P None)
      → ((slot : Slot) (key : Key) → slot_named name slots ≡ Some slot → get_or slots slot.0 free ≡ held key → P (Some (own slot key)))
      → (slot_named name slots ≡ None → P (listed_in (listed_named name keys)))
      → P (key_named name slots keys)
  unfolding own_in
  by_name P f h m = go (slot_named name slots) refl
    where
      by_entry : (slot : Slot) → slot_named name slots ≡ Some slot → (entry : Entry) → get_or slots slot.0 free ≡ entry → P (own_in slot entry)
      by_entry slot e free q = f slot e q
      by_entry slot e (held key) q = h slot key e q

      go : (x : Option Slot) → slot_named name slots ≡ x → P (key_named name slots keys)
      go (Some slot) e = rw (own_named name slots keys slot e) (by_entry slot e (get_or slots slot.0 free) refl)
      go None e = rw (none_own name slots keys e) (m e)

  -- an own key lies in the slot with the name
  pub own_there : (slot : Slot) (key : Key) → key_named name slots keys ≡ Some (own slot key) → slot_named name slots ≡ Some slot
  unfolding listed_in
  own_there slot key e =
      by_name (λ o. o ≡ Some (own slot key) → slot_named name slots ≡ Some slot)
      (λ s at q w. absurd (some≢none (own slot key) (sym w)))
      (λ s k at q w. at ∙ ap Some (same_slot s k w))
      (λ at w. absurd (not_own (listed_named name keys) w)) e
    where
      same_slot : (s : Slot) (k : Key) → Some (own s k) ≡ Some (own slot key) → s ≡ slot
      same_slot s k w = cc

      not_own : (o : Option ListedKey) → listed_in o ≡ Some (own slot key) → ⊥
      not_own None w = true≢false cc
      not_own (Some k) w = true≢false cc

  pub own_held : (slot : Slot) (key : Key) → key_named name slots keys ≡ Some (own slot key) → get_or slots slot.0 free ≡ held key
  unfolding own_in
  own_held slot key e = go (get_or slots slot.0 free) (sym (own_named name slots keys slot (own_there slot key e)) ∙ e)
    where
      go : (entry : Entry) → own_in slot entry ≡ Some (own slot key) → entry ≡ held key
      go free w = absurd (some≢none (own slot key) (sym w))
      go (held k) w = let q : k ≡ key = cc in ap held q

  -- where a legal name stands for no key, no slot has it
  pub none_there : legal_name key_name_most name ≡ true → key_named name slots keys ≡ None → slot_named name slots ≡ None
  none_there t e =
      by_name (λ o. o ≡ None → slot_named name slots ≡ None)
      (λ s at q w. absurd (held_there name slots s t at q))
      (λ s k at q w. absurd (some≢none (own s k) w))
      (λ at w. at) e

-- ---- its data is short

abbrev ShortSource : Option Source → Type 0
ShortSource None = Unit {0}
ShortSource (Some source) = length (key_of source).bytes ≤ data_most

module _ (name : List ℕ) (slots : List Entry) (list : List ℕ) where
  listed_short : ShortSource (listed_in (listed_named name (keys_in list)))
  unfolding listed_in key_of shipped_key
  listed_short = go (listed_named name (keys_in list)) refl
    where
      go : (o : Option ListedKey) → listed_named name (keys_in list) ≡ o → ShortSource (listed_in o)
      go None e = tt
      go (Some key) e = legal_data_lem key.bytes (listed_legal list name key e)

  shipped_short : (key : Key) → key_named name slots (keys_in list) ≡ Some (listed key) → length key.bytes ≤ data_most
  unfolding key_of
  shipped_short key e =
      by_name name slots (keys_in list) (λ o. o ≡ Some (listed key) → length key.bytes ≤ data_most)
      (λ s at q w. absurd (some≢none (listed key) (sym w)))
      (λ s k at q w. absurd (not_listed s k w))
      (λ at w. subst ShortSource w listed_short) e
    where
      not_listed : (s : Slot) (k : Key) → Some (own s k) ≡ Some (listed key) → ⊥
      not_listed s k w = true≢false cc

  pub source_short : ((i : ℕ) → ShortEntry (get_or slots i free)) → (source : Source) → key_named name slots (keys_in list) ≡ Some source
      → length (key_of source).bytes ≤ data_most
  unfolding key_of
  source_short short source e =
      subst ShortSource e
      (by_name name slots (keys_in list) ShortSource
      (λ s at q. tt)
      (λ s k at q. subst ShortEntry q (short s.0))
      (λ at. listed_short))

-- ---- the key at a place

-- its data, of the slots and the list
pub bytes_at_lem : (registry list : List ℕ) (line : Line) (place : Place) → (key_at registry list line place).bytes ≡ bytes_at (slots_of registry line) list place
unfolding key_at key_held bytes_at shipped_key
bytes_at_lem registry list line (Own slot) = sym (held_bytes (get_or (slots_of registry line) slot.0 free))
bytes_at_lem registry list line (Listed span) = refl
bytes_at_lem registry list line Nowhere = refl

module _ (registry list : List ℕ) (line : Line) (name : List ℕ) (place : Place) (at : KeyAt registry list line name place) where
  abbrev slots : List Entry
  slots = slots_of registry line

  pub at_none : place ≡ Nowhere → key_named name slots (keys_in list) ≡ None
  unfolding source_at
  at_none e = sym at.source ∙ ap (source_at registry list line name) e

  pub at_below : (slot : Slot) → place ≡ Own slot → slot.0 < slot_count
  unfolding Within
  at_below slot e = subst (Within list) e at.within

  pub at_listed : (span : Span) → place ≡ Listed span → key_named name slots (keys_in list) ≡ Some (listed (listed_at name list span))
  unfolding source_at
  at_listed span e = sym at.source ∙ ap (source_at registry list line name) e

  pub at_own : (slot : Slot) → place ≡ Own slot → legal_name key_name_most name ≡ true
      → (key : Key) × (key_named name slots (keys_in list) ≡ Some (own slot key))
  unfolding source_at SlotNamed own_in
  at_own slot e t =
      go (get_or slots slot.0 free) refl (sym at.source ∙ ap (source_at registry list line name) e)
    where
      go : (entry : Entry) → get_or slots slot.0 free ≡ entry → key_named name slots (keys_in list) ≡ own_in slot entry
          → (key : Key) × (key_named name slots (keys_in list) ≡ Some (own slot key))
      go free q w = absurd (held_there name slots slot t (subst (SlotNamed registry line name) e at.slot) q)
      go (held key) q w = (key, w)

  -- the place is somewhere, and the name is legal
  module _ (n : place ≡ Nowhere → ⊥) (t : legal_name key_name_most name ≡ true) where
    source_there : (source : Source) × (source_at registry list line name place ≡ Some source)
    unfolding source_at SlotNamed own_in
    source_there = go place n at.slot
      where
        by_entry : (slot : Slot) → slot_named name slots ≡ Some slot → (entry : Entry) → get_or slots slot.0 free ≡ entry
            → (source : Source) × (own_in slot entry ≡ Some source)
        by_entry slot e free q = absurd (held_there name slots slot t e q)
        by_entry slot e (held key) q = (own slot key, refl)

        go : (p : Place) → (p ≡ Nowhere → ⊥) → SlotNamed registry line name p → (source : Source) × (source_at registry list line name p ≡ Some source)
        go (Own slot) m e = by_entry slot e (get_or slots slot.0 free) refl
        go (Listed span) m e = (listed (listed_at name list span), refl)
        go Nowhere m e = absurd (m refl)

    pub source : Source
    source = source_there.0

    pub at_source : key_named name slots (keys_in list) ≡ Some source
    unfolding source
    at_source = sym at.source ∙ source_there.1

    pub at_alike : Alike (key_at registry list line place) (key_of source)
    unfolding source
    at_alike = source_alike registry list line name source place source_there.1

  -- a key that is found in the list is short
  pub at_safe : SafeOutput list (Data place)
  unfolding source_at bytes_at bytes_in key_of shipped_key
  at_safe = (at.within, go place at.source)
    where
      go : (p : Place) → source_at registry list line name p ≡ key_named name slots (keys_in list) → length (bytes_at [] list p) ≤ data_most
      go (Own slot) e = omega arith
      go (Listed span) e = shipped_short name slots list (listed_at name list span) (sym e)
      go Nowhere e = omega arith
