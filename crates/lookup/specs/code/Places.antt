-- A key by the place where it lies, in the reading copy's terms.
use Rattle.std.specs.Prelude.{ℕ, ◌+◌, ◌≤◌, ◌<◌, ◌≡◌, false, List, [], length, get_or, Option, Some, None}
use Rattle.keys.specs.Key.{Key}
use Rattle.registry.specs.Slots.{Entry, free, held}
use Rattle.registry.specs.Registry.{slot_count, slots_of, slot_named}
use Rattle.registry.specs.declared.Line.{Line}
use Rattle.shipped.specs.Shipped.{keys_in}
use Rattle.shipped.specs.code.Pairs.{part_at}
use Rattle.wire.specs.declared.span.Span.{Span}
use Rattle.lookup.specs.Lookup.{shipped_key, Source, listed, own_in, key_named}
use Rattle.lookup.specs.declared.Place.{Place}
use Rattle.lookup.specs.declared.Place.TheVariants.{Own, Listed, Nothing}

-- the slot, and the part of the list, that there are
unfoldable pub Within : (list : List ℕ) → Place → Type 0
Within list (Own slot) = slot.0 < slot_count
Within list (Listed span) = span.start + span.len ≤ length list
Within list Nothing = Unit {0}

-- a key whose data lies in the list
abbrev pub listed_at : (name list : List ℕ) → Span → Key
listed_at n list span = shipped_key (record { name = n; bytes = part_at list span })

unfoldable pub key_held : Entry → Key
key_held (held key) = key
key_held free = record { name = []; bytes = []; bits = 0; export_allowed = false; verify_allowed = false }

-- the key at a place, its name left aside
unfoldable pub key_at : (registry list : List ℕ) → Line → Place → Key
key_at registry list line (Own slot) = key_held (get_or (slots_of registry line) slot.0 free)
key_at registry list line (Listed span) = listed_at [] list span
key_at registry list line Nothing = key_held free

-- who holds the key with this name that lies at a place
unfoldable pub source_at : (registry list : List ℕ) → Line → (name : List ℕ) → Place → Option Source
source_at registry list line name (Own slot) = own_in slot (get_or (slots_of registry line) slot.0 free)
source_at registry list line name (Listed span) = Some (listed (listed_at name list span))
source_at registry list line name Nothing = None

-- a slot was found by the name, so that it is free only for the empty one
unfoldable pub SlotNamed : (registry : List ℕ) → Line → (name : List ℕ) → Place → Type 0
SlotNamed registry line name (Own slot) = slot_named name (slots_of registry line) ≡ Some slot
SlotNamed registry line name (Listed span) = Unit {0}
SlotNamed registry line name Nothing = Unit {0}

-- the key with the name lies at the place
pub record KeyAt (registry list : List ℕ) (line : Line) (name : List ℕ) (place : Place) : Type 0 where
  pub source : source_at registry list line name place ≡ key_named name (slots_of registry line) (keys_in list)
  pub within : Within list place
  pub slot : SlotNamed registry line name place
