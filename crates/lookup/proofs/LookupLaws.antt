-- Laws of the lookup: what a search finds is the key that the name stands for, and what a place says of it.
use Rattle.std.proofs.Common.{Option, Some, None}
use mathlib.Core.Path.{◌≡◌, refl, sym, ap, ◌∙◌}
use mathlib.Core.Bool.{Bool, true, false}
use mathlib.Core.List.{List, [], ◌∷◌}
use Prim.Native.Nat.{ℕ}
use lib.ListN.{get_or}
use Rattle.wire.specs.Choice.{when◌then◌else◌}
use Rattle.wire.specs.Lists.{same}
use Rattle.wire.proofs.TestLaws.{some≢none}
use Rattle.wire.proofs.ListLaws.{same_true}
use Rattle.keys.specs.Key.{Key}
use Rattle.registry.specs.Slots.{Entry, free, held}
use Rattle.registry.specs.Registry.{slots_of, slot_named}
use Rattle.registry.specs.code.Check.{bytes_in, bits_in, export_in, verify_in}
use Rattle.registry.specs.declared.Line.{Line}
use Rattle.registry.specs.declared.Slot.{Slot}
use Rattle.shipped.specs.Shipped.{ListedKey, keys_in, listed_named}
use Rattle.shipped.specs.code.Pairs.{part_at, data_found, data_of, Finds}
use Rattle.wire.specs.declared.span.Span.{Span}
use Rattle.lookup.specs.Lookup.{shipped_key, Source, own, listed, key_of, own_in, listed_in, key_named}
use Rattle.lookup.specs.code.Places.{listed_at, key_held, key_at, source_at}
use Rattle.lookup.specs.declared.Place.{Place}
use Rattle.lookup.specs.declared.Place.TheVariants.{Own, Listed, Nothing}

-- ---- the key that a name stands for

module _ (name : List ℕ) (slots : List Entry) (keys : List ListedKey) where
  pub own_named : (slot : Slot) → slot_named name slots ≡ Some slot → key_named name slots keys ≡ own_in slot (get_or slots slot.0 free)
  unfolding key_named
  own_named slot e = rw (key_named, e)

  pub none_own : slot_named name slots ≡ None → key_named name slots keys ≡ listed_in (listed_named name keys)
  unfolding key_named
  none_own e = rw (key_named, e)

-- the key that is found has the name
named_so : (name : List ℕ) (keys : List ListedKey) (key : ListedKey) → listed_named name keys ≡ Some key → key.name ≡ name
unfolding listed_named
named_so name [] key e = absurd (some≢none key (sym e))
named_so name (k ∷ keys) key e = go (λ f. named_so name keys key f) (same name k.name) refl e
  where
    go : (listed_named name keys ≡ Some key → key.name ≡ name) → (t : Bool) → same name k.name ≡ t
        → (when t then Some k else listed_named name keys) ≡ Some key → key.name ≡ name
    go rest true q f =
        let w : k ≡ key = cc in
        sym (same_true name k.name q ∙ ap (λ (x : ListedKey). x.name) w)
    go rest false q f = rest f

module _ (list name : List ℕ) where
  pub listed_there : (span : Span) → Finds list name (Some span) → listed_in (listed_named name (keys_in list)) ≡ Some (listed (listed_at name list span))
  unfolding listed_in data_found data_of
  listed_there span f = go (listed_named name (keys_in list)) refl f.bytes
    where
      go : (o : Option ListedKey) → listed_named name (keys_in list) ≡ o → Some (part_at list span) ≡ data_of o → listed_in o ≡ Some (listed (listed_at name list span))
      go None q e = absurd (some≢none (part_at list span) e)
      go (Some key) q e =
          let d : key.bytes ≡ part_at list span = cc in
          let n : key.name ≡ name = named_so name (keys_in list) key q in
          λ i. Some (listed (shipped_key (record { name = n i; bytes = d i })))

  pub listed_nowhere : Finds list name None → listed_in (listed_named name (keys_in list)) ≡ None
  unfolding listed_in data_found data_of
  listed_nowhere f = go (listed_named name (keys_in list)) f.bytes
    where
      go : (o : Option ListedKey) → None ≡ data_of o → listed_in o ≡ None
      go None e = refl
      go (Some key) e = absurd (some≢none key.bytes (sym e))

-- ---- what a slot says of its key

pub held_bytes : (entry : Entry) → bytes_in entry ≡ (key_held entry).bytes
unfolding bytes_in key_held
held_bytes free = refl
held_bytes (held key) = refl

pub held_bits : (entry : Entry) → bits_in entry ≡ (key_held entry).bits
unfolding bits_in key_held
held_bits free = refl
held_bits (held key) = refl

pub held_export : (entry : Entry) → export_in entry ≡ (key_held entry).export_allowed
unfolding export_in key_held
held_export free = refl
held_export (held key) = refl

pub held_verify : (entry : Entry) → verify_in entry ≡ (key_held entry).verify_allowed
unfolding verify_in key_held
held_verify free = refl
held_verify (held key) = refl

pub ruleset of_entries = (held_bytes, held_bits, held_export, held_verify)

-- ---- the key at a place is that of its source, its name left aside

pub record Alike (k l : Key) : Type 0 where
  pub bytes : k.bytes ≡ l.bytes
  pub bits : k.bits ≡ l.bits
  pub export_allowed : k.export_allowed ≡ l.export_allowed
  pub verify_allowed : k.verify_allowed ≡ l.verify_allowed

alike : (k l : Key) → k ≡ l → Alike k l
alike k l e = record {
  bytes = ap (λ (x : Key). x.bytes) e;
  bits = ap (λ (x : Key). x.bits) e;
  export_allowed = ap (λ (x : Key). x.export_allowed) e;
  verify_allowed = ap (λ (x : Key). x.verify_allowed) e;
}

module _ (registry list : List ℕ) (line : Line) (name : List ℕ) (source : Source) where
  own_alike : (slot : Slot) (entry : Entry) → own_in slot entry ≡ Some source → Alike (key_held entry) (key_of source)
  unfolding own_in key_held key_of
  own_alike slot free e = absurd (some≢none source (sym e))
  own_alike slot (held key) e = let w : own slot key ≡ source = cc in alike key (key_of source) (ap key_of w)

  pub source_alike : (p : Place) → source_at registry list line name p ≡ Some source → Alike (key_at registry list line p) (key_of source)
  unfolding source_at key_at key_of shipped_key
  source_alike (Own slot) e = own_alike slot (get_or (slots_of registry line) slot.0 free) e
  source_alike (Listed span) e =
      let w : listed (listed_at name list span) ≡ source = cc in
      let k : listed_at name list span ≡ key_of source = ap key_of w in
      record {
        bytes = ap (λ (x : Key). x.bytes) k;
        bits = ap (λ (x : Key). x.bits) k;
        export_allowed = ap (λ (x : Key). x.export_allowed) k;
        verify_allowed = ap (λ (x : Key). x.verify_allowed) k;
      }
  source_alike Nothing e = absurd (some≢none source (sym e))
