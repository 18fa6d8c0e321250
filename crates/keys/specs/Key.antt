-- A key, and what may be one ("Operations and their fields").
use Rattle.std.specs.Prelude.{ℕ, ◌%◌, Bool, List, [], ◌∷◌, length, leb, eqb}
use Rattle.wire.specs.Lists.{every, one_of}

pub record Key : Type 0 where
  pub name : List ℕ
  pub bytes : List ℕ  -- document 01's data
  pub bits : ℕ
  pub export_allowed : Bool
  pub verify_allowed : Bool

abbrev pub data_most : ℕ
data_most = 600

unfoldable pub legal_data : List ℕ → Bool
legal_data bytes = every (leb 1 (length bytes) ∷ leb (length bytes) data_most ∷ [])

-- 1,024 to 4,096 in multiples of 8: what a registry and a record of the journal may hold
abbrev pub bits_least : ℕ
bits_least = 1024

abbrev pub bits_most : ℕ
bits_most = 4096

unfoldable pub legal_bits : ℕ → Bool
legal_bits bits = every (leb bits_least bits ∷ leb bits bits_most ∷ eqb (bits % 8) 0 ∷ [])

-- what Import takes (document 02, "No more odd key lengths")
unfoldable pub import_bits : ℕ → Bool
import_bits bits = one_of (2048 ∷ 3072 ∷ 4096 ∷ []) bits
