-- A slot: the key that it holds, its bytes, and which bytes are a slot ("Roster, registry, connection, tally"); how often its key
-- was used (document 02, "Use per key").
use Rattle.std.specs.Prelude.{ℕ, ◌+◌, ◌-◌, Bool, true, false, ◌||◌, List, [], ◌∷◌, ◌++◌, length, get_or, take, drop, replicate, leb, ltb, eqb}
use Rattle.wire.specs.Choice.{when◌then◌else◌}
use Rattle.wire.specs.Lists.{all, every, is_zero, padded, put}
use Rattle.wire.specs.Numbers.{little_endian_of, field}
use Rattle.keys.specs.Key.{Key, data_most, legal_data, legal_bits}
use Rattle.keys.specs.Names.{key_name_most, legal_name}
use Rattle.registry.specs.Names.{name_in}

pub data Entry : Type 0 where
  free : Entry
  held : Key → Entry

-- a free slot has the empty name
abbrev pub name_of : Entry → List ℕ
name_of free = []
name_of (held key) = key.name

-- ---- its bytes, and where each part lies

-- the name's length, the name, the data's length, the data, bits, the two flags, and the count of uses; unused bytes are zero
abbrev pub data_length_at : ℕ
data_length_at = 1 + key_name_most

abbrev pub data_at : ℕ
data_at = data_length_at + 2

abbrev pub bits_at : ℕ
bits_at = data_at + data_most

abbrev pub export_at : ℕ
export_at = bits_at + 2

abbrev pub verify_at : ℕ
verify_at = export_at + 1

abbrev pub uses_at : ℕ
uses_at = verify_at + 1

abbrev pub slot_size : ℕ
slot_size = uses_at + 4

abbrev pub flag : Bool → ℕ
flag true = 1
flag false = 0

-- of a key that was not used yet
unfoldable pub key_bytes : Key → List ℕ
key_bytes key =
    (length key.name ∷ [])
    ++ padded key_name_most key.name
    ++ little_endian_of 2 (length key.bytes)
    ++ padded data_most key.bytes
    ++ little_endian_of 2 key.bits
    ++ (flag key.export_allowed ∷ [])
    ++ (flag key.verify_allowed ∷ [])
    ++ little_endian_of 4 0

unfoldable pub slot_bytes : Entry → List ℕ
slot_bytes free = replicate slot_size 0
slot_bytes (held key) = key_bytes key

abbrev pub data_in : List ℕ → List ℕ
data_in slot = take (field data_length_at 2 slot) (drop data_at slot)

abbrev pub key_in : List ℕ → Key
key_in slot = record {
  name = name_in slot;
  bytes = data_in slot;
  bits = field bits_at 2 slot;
  export_allowed = eqb (get_or slot export_at 0) 1;
  verify_allowed = eqb (get_or slot verify_at 0) 1;
}

unfoldable pub slot_of : List ℕ → Entry
slot_of slot = when eqb (get_or slot 0 0) 0 then free else held (key_in slot)

-- ---- how often its key was used: served Export and verify requests

abbrev pub uses_in : List ℕ → ℕ
uses_in slot = field uses_at 4 slot

-- a count stays here
abbrev pub uses_most : ℕ
uses_most = 4294967295

-- one use more
unfoldable pub used : ℕ → ℕ
used uses = when ltb uses uses_most then uses + 1 else uses

-- the slot's other bytes stay
unfoldable pub used_slot : List ℕ → List ℕ
used_slot slot = put slot uses_at (little_endian_of 4 (used (uses_in slot)))

-- ---- well formed: all zero, or a key that a registry may hold, flags of 0 or 1, unused bytes zero, and any count

-- the bytes behind a name for which there are `most`
abbrev pub behind_name : (most : ℕ) → List ℕ → List ℕ
behind_name most block = take (most - get_or block 0 0) (drop (1 + get_or block 0 0) block)

abbrev pub behind_data : List ℕ → List ℕ
behind_data slot = take (data_most - field data_length_at 2 slot) (drop (data_at + field data_length_at 2 slot) slot)

abbrev pub key_tests : List ℕ → List Bool
key_tests slot =
    legal_name key_name_most (name_in slot)
    ∷ all is_zero (behind_name key_name_most slot)
    ∷ legal_data (data_in slot)
    ∷ all is_zero (behind_data slot)
    ∷ legal_bits (field bits_at 2 slot)
    ∷ leb (get_or slot export_at 0) 1
    ∷ leb (get_or slot verify_at 0) 1
    ∷ []

unfoldable pub well_formed_slot : List ℕ → Bool
well_formed_slot slot = all is_zero slot || every (key_tests slot)
