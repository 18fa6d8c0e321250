-- The mark of a name, by which most names are told apart.
use Rattle.std.specs.Prelude.{ℕ, ◌+◌, ◌-◌, ◌*◌, ◌/◌, ◌≡◌, List, map, length, take, get_or, ltb, eqb}
use Rattle.wire.specs.Choice.{when◌then◌else◌}
use Rattle.keys.specs.code.Marks.{mixed, four_words}
use Rattle.shipped.specs.Shipped.{ListedKey, names_of, listed_most}

-- first byte, middle and last
unfoldable pub three_bytes : (s : List ℕ) → ℕ
three_bytes s =
    when eqb (length s) 0 then 0 else get_or s 0 0 + 256 * get_or s (length s / 2) 0 + 65536 * get_or s (length s - 1) 0

-- a word at each of four places, or the first 16 bytes and the last
unfoldable pub mark_of : (name : List ℕ) → ℕ
mark_of name =
    let n = length name in
    let last = n - 4 in
    let third = (last + 2) / 3 in
    when ltb n 4 then three_bytes name
    else when ltb n 16 then four_words name 0 third (last - third) last
    else mixed (four_words name 0 4 8 12) (four_words name (n - 16) (n - 12) (n - 8) last)

-- the first of the marks are those of the keys' names
pub record Marked (keys : List ListedKey) (marks : List ℕ) : Type 0 where
  pub room : length marks ≡ listed_most
  pub first : take (length keys) marks ≡ map mark_of (names_of keys)
