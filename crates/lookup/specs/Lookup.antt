-- Which key a name stands for: the application's own, else one that we ship (document 02, "Keys we ship").
use Rattle.std.specs.Prelude.{ℕ, true, List, get_or, Option, Some, None}
use Rattle.keys.specs.Key.{Key}
use Rattle.registry.specs.Slots.{Entry, free, held}
use Rattle.registry.specs.Registry.{slot_named}
use Rattle.registry.specs.declared.Slot.{Slot}
use Rattle.rsa_key.specs.Key.{modulus_bits}
use Rattle.shipped.specs.Shipped.{ListedKey, listed_named}

-- a listed key as it is used: both uses are allowed, and its bits are its modulus's
unfoldable pub shipped_key : ListedKey → Key
shipped_key key = record {
  name = key.name;
  bytes = key.bytes;
  bits = modulus_bits key.bytes;
  export_allowed = true;
  verify_allowed = true;
}

-- who holds a key: a slot of the application, or the list
pub data Source : Type 0 where
  own : Slot → Key → Source
  listed : Key → Source

unfoldable pub key_of : Source → Key
key_of (own slot key) = key
key_of (listed key) = key

-- a slot found by a legal name is held; the empty name finds a free one, which holds no key
unfoldable pub own_in : Slot → Entry → Option Source
own_in slot free = None
own_in slot (held key) = Some (own slot key)

unfoldable pub listed_in : Option ListedKey → Option Source
listed_in None = None
listed_in (Some key) = Some (listed (shipped_key key))

-- among the application's own first, then in the list
unfoldable pub key_named : (name : List ℕ) (slots : List Entry) (keys : List ListedKey) → Option Source
key_named name slots keys = elim (slot_named name slots) [
  | Some slot ↦ own_in slot (get_or slots slot.0 free)
  | None ↦ listed_in (listed_named name keys)
]
