-- The list of keys that we ship: which lists are good, and the keys of one (document 02, "Keys we ship").
use Rattle.std.specs.Prelude.{ℕ, Bool, List, [], ◌∷◌, ◌++◌, map, length, ltb, eqb, Option, Some, None, is_some}
use Rattle.wire.specs.Choice.{when◌then◌else◌}
use Rattle.wire.specs.Lists.{every, same}
use Rattle.keys.specs.Key.{legal_data}
use Rattle.keys.specs.Names.{legal_name, key_name_most, is_new}
use Rattle.records.specs.Records.{Record, Step, next, stop, read_records}

pub record ListedKey : Type 0 where
  pub name : List ℕ
  pub bytes : List ℕ  -- document 01's data

abbrev pub names_of : List ListedKey → List (List ℕ)
names_of keys = map (λ key. key.name) keys

-- "at most 64 pairs"
abbrev pub listed_most : ℕ
listed_most = 64

-- ---- the file: tag 1 name, tag 2 data, in pairs

-- what was read: whole pairs, or these and a name whose data is to follow
pub data Pairs : Type 0 where
  whole : List ListedKey → Pairs
  named : List ListedKey → (name : List ℕ) → Pairs

-- a key's name as in document 01, distinct from those before it
abbrev pub name_tests : List ListedKey → Record → List Bool
name_tests keys r =
    eqb r.tag 1
    ∷ legal_name key_name_most r.value
    ∷ is_new r.value (names_of keys)
    ∷ ltb (length keys) listed_most
    ∷ []

-- and its data
abbrev pub data_tests : Record → List Bool
data_tests r = eqb r.tag 2 ∷ legal_data r.value ∷ []

unfoldable pub pair_step : Pairs → Record → Step Pairs (Option (List ListedKey))
pair_step (whole keys) r = when every (name_tests keys r) then next (named keys r.value) else stop None
pair_step (named keys n) r =
    when every (data_tests r) then next (whole (keys ++ (record { name = n; bytes = r.value } ∷ []))) else stop None

unfoldable pub pairs_done : Pairs → Option (List ListedKey)
pairs_done (whole keys) = Some keys
pairs_done (named keys n) = None

-- the keys of a list, none for a bad one
unfoldable pub list_of : (list : List ℕ) → Option (List ListedKey)
list_of list = read_records None pair_step pairs_done list (whole [])

-- any other list is C6
unfoldable pub well_formed_list : (list : List ℕ) → Bool
well_formed_list list = is_some (list_of list)

-- ---- the search by name

unfoldable pub keys_in : (list : List ℕ) → List ListedKey
keys_in list = elim (list_of list) [
  | Some keys ↦ keys
  | None ↦ []
]

unfoldable pub listed_named : (name : List ℕ) → List ListedKey → Option ListedKey
listed_named n [] = None
listed_named n (key ∷ keys) = when same n key.name then Some key else listed_named n keys
