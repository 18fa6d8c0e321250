-- Names of keys and of applications, and where a name stands among others ("Roster, registry, connection, tally").
use Rattle.std.specs.Prelude.{ℕ, ◌+◌, Bool, true, ◌&&◌, List, [], ◌∷◌, get_or, take, drop}
use Rattle.wire.specs.Choice.{when◌then◌else◌}
use Rattle.wire.specs.Lists.{same}
use Rattle.keys.specs.Names.{is_new}

-- the name at the beginning of a block of bytes: its length in one byte, then the name
abbrev pub name_in : List ℕ → List ℕ
name_in block = take (get_or block 0 0) (drop 1 block)

-- the number of the first name that is x, counted from i; behind the last where none is
unfoldable pub index_from : List ℕ → List (List ℕ) → (i : ℕ) → ℕ
index_from x [] i = i
index_from x (y ∷ ys) i = when same x y then i else index_from x ys (i + 1)

-- no name but the empty one stands twice
unfoldable pub distinct : List (List ℕ) → Bool
distinct [] = true
distinct ([] ∷ names) = distinct names
distinct ((b ∷ name) ∷ names) = is_new (b ∷ name) names && distinct names
