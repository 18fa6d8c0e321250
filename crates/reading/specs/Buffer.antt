-- A buffer that a call is lent, and what it writes there.
use Rattle.std.specs.Prelude.{ℕ, List, [], ◌∷◌, length, take, eqb}
use Rattle.wire.specs.Choice.{when◌then◌else◌}
use Rattle.wire.specs.Lists.{over}

pub record Written : Type 0 where
  pub count : ℕ
  pub buffer : List ℕ  -- as it is left

-- the bytes become the first of the buffer, and the others stay
unfoldable pub written : (bytes buffer : List ℕ) → Written
written bytes buffer = record { count = length bytes; buffer = over bytes buffer }

-- as many first bytes of the buffer as were written
unfoldable pub bytes_of : Written → List ℕ
bytes_of w = take w.count w.buffer

-- they as one, if any were
unfoldable pub as_one : Written → List (List ℕ)
as_one w = when eqb w.count 0 then [] else bytes_of w ∷ []
