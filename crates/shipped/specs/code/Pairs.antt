-- A list of keys, as the code reads it, in the reading copy's terms.
use Rattle.std.specs.Prelude.{ℕ, ◌+◌, ◌≤◌, ◌≡◌, Bool, ◌&&◌, List, [], ◌∷◌, length, take, drop, eqb, Option, Some, None}
use Rattle.wire.specs.Choice.{when◌then◌else◌}
use Rattle.wire.specs.Lists.{every}
use Rattle.keys.specs.Names.{legal_name, key_name_most}
use Rattle.records.specs.Records.{record_length, value_in, record_in, is_whole}
use Rattle.shipped.specs.Shipped.{ListedKey, data_tests, keys_in, listed_named}
use Rattle.wire.specs.declared.span.Span.{Span}

-- ---- the pair that bytes begin with

-- a whole record with a legal name, or with legal data
unfoldable pub is_name : (bytes : List ℕ) → Bool
is_name bytes = is_whole bytes && every (eqb (record_in bytes).tag 1 ∷ legal_name key_name_most (record_in bytes).value ∷ [])

unfoldable pub is_data : (bytes : List ℕ) → Bool
is_data bytes = is_whole bytes && every (data_tests (record_in bytes))

-- the length of that record
unfoldable pub name_length : (bytes : List ℕ) → Option ℕ
name_length bytes = when is_name bytes then Some (record_length bytes) else None

unfoldable pub data_length : (bytes : List ℕ) → Option ℕ
data_length bytes = when is_data bytes then Some (record_length bytes) else None

-- the data's record, behind the name's
abbrev pub behind : (bytes : List ℕ) → List ℕ
behind bytes = drop (record_length bytes) bytes

unfoldable pub is_pair : (bytes : List ℕ) → Bool
is_pair bytes = is_name bytes && is_data (behind bytes)

-- how long the two records are together
unfoldable pub pair_size : (bytes : List ℕ) → ℕ
pair_size bytes = record_length bytes + record_length (behind bytes)

unfoldable pub pair_length : (bytes : List ℕ) → Option ℕ
pair_length bytes = when is_pair bytes then Some (pair_size bytes) else None

abbrev pub key_in : (bytes : List ℕ) → ListedKey
key_in bytes = record { name = value_in bytes; bytes = value_in (behind bytes) }

-- ---- what a search finds

-- the part of the list at a span
abbrev pub part_at : (list : List ℕ) → Span → List ℕ
part_at list span = take span.len (drop span.start list)

unfoldable pub data_found : (list : List ℕ) → Option Span → Option (List ℕ)
data_found list (Some span) = Some (part_at list span)
data_found list None = None

unfoldable pub data_of : Option ListedKey → Option (List ℕ)
data_of (Some key) = Some key.bytes
data_of None = None

unfoldable pub place_end : Option Span → ℕ
place_end (Some span) = span.start + span.len
place_end None = 0

-- the part at the place is the data of the key with the name, and lies within the list
pub record Finds (list name : List ℕ) (found : Option Span) : Type 0 where
  pub bytes : data_found list found ≡ data_of (listed_named name (keys_in list))
  pub within : place_end found ≤ length list
