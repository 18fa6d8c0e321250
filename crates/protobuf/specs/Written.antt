-- The fields of a body that is written ("Operations and their fields", Writing).
use Rattle.std.specs.Prelude.{ℕ, zero, suc, ◌+◌, ◌*◌, ◌/◌, ◌%◌, length, ltb, eqb}
use mathlib.Core.List.{List, [], ◌∷◌, ◌++◌, flat_map}
use Rattle.wire.specs.Choice.{when◌then◌else◌}

-- the shortest varint, of at most `more` bytes behind the first
unfoldable pub varint_within : (more n : ℕ) → List ℕ
varint_within zero n = n ∷ []
varint_within (suc more) n = when ltb n 128 then n ∷ [] else (n % 128 + 128) ∷ varint_within more (n / 128)

-- of a number below 2^64
unfoldable pub varint : ℕ → List ℕ
varint n = varint_within 9 n

-- a number: wire type 0; 0 is left out
unfoldable pub number_field : (number value : ℕ) → List ℕ
number_field number value = when eqb value 0 then [] else varint (8 * number) ++ varint value

-- bytes: wire type 2; none are left out
unfoldable pub bytes_field : (number : ℕ) → List ℕ → List ℕ
bytes_field number [] = []
bytes_field number (b ∷ bytes) = varint (8 * number + 2) ++ (varint (length (b ∷ bytes)) ++ (b ∷ bytes))

-- a packed list of numbers: their varints, joined, as one field
unfoldable pub packed_field : (number : ℕ) → List ℕ → List ℕ
packed_field number values = bytes_field number (flat_map varint values)
