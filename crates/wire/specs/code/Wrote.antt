-- What a writer does with the buffer that it is lent.
use Rattle.std.specs.Prelude.{ℕ, ◌≡◌, List, length}
use Rattle.wire.specs.Lists.{over}

-- s was written over the front of d, which is now e; r says how many bytes
pub record Wrote (s d e : List ℕ) (r : ℕ) : Type 0 where
  pub count : r ≡ length s
  pub bytes : e ≡ over s d
