-- Names of applications and of keys ("Operations and their fields"; "Roster, registry, connection, tally").
use Rattle.std.specs.Prelude.{ℕ, Bool, not, ◌&&◌, List, [], ◌∷◌, length, leb}
use Rattle.wire.specs.Lists.{all, every, same}

abbrev pub application_name_most : ℕ
application_name_most = 64

abbrev pub key_name_most : ℕ
key_name_most = 32

abbrev pub is_name_byte : ℕ → Bool
is_name_byte x = leb 0x21 x && leb x 0x7E

-- 1 to `most` bytes, each 0x21 to 0x7E
unfoldable pub legal_name : (most : ℕ) → List ℕ → Bool
legal_name most name = every (leb 1 (length name) ∷ leb (length name) most ∷ all is_name_byte name ∷ [])

-- none of the names is x
abbrev pub is_new : List ℕ → List (List ℕ) → Bool
is_new x ys = all (λ y. not (same x y)) ys
