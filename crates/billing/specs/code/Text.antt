-- What the writers of the bill's text do with a lent buffer.
use Rattle.std.specs.Prelude.{ℕ, ◌+◌, ◌≤◌, ◌≡◌, List, [], ◌∷◌, length, eqb}
use Rattle.wire.specs.Choice.{when◌then◌else◌}
use Rattle.wire.specs.Lists.{put}
use Rattle.billing.specs.Ascii.{ascii}
use Rattle.billing.specs.Bill.{decimal, text_line}

-- text was written into d from `at` on, which is now e; it ends at r
pub record Placed (text d e : List ℕ) (at r : ℕ) : Type 0 where
  pub ends : r ≡ at + length text
  pub fits : r ≤ length d
  pub bytes : e ≡ put d at text

-- the line of a status with this number, where its count isn't 0
unfoldable pub refused_line : (number n : ℕ) → List ℕ
refused_line number n = when eqb n 0 then [] else text_line (ascii "refused") (decimal number ∷ decimal n ∷ [])
