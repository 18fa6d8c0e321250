-- What is claimed of a stream that is handed over in chunks: types, no proof.
use Rattle.std.specs.Prelude.{ℕ, ◌≡◌, Bool, true, length, leb}
use mathlib.Core.List.{List, flatten}
use Rattle.wire.specs.Lists.{all}
use Rattle.reading.specs.Calls.{Call, CallsOutcome, taken_stream}
use Rattle.reading.specs.Claims.{none_refused}

-- every chunk has at most so many bytes
abbrev pub within : (most : ℕ) → List (List ℕ) → Bool
within most chunks = all (λ chunk. leb (length chunk) most) chunks

-- what a caller did that hands over what is left of a chunk again
pub record TakenWhole {Memory Lent Code Given : Type 0} (chunks : List (List ℕ)) (calls : List (Call Lent)) (o : CallsOutcome Memory Code Given) : Type 0 where
  pub never_refused : none_refused o.answers ≡ true
  pub whole : taken_stream calls o.answers ≡ flatten chunks
