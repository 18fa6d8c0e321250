-- Numbers by which most names are told apart.
use Rattle.std.specs.Prelude.{ℕ, ◌+◌, ◌*◌, ◌%◌, Bool, not, List, eqb}
use Rattle.wire.specs.Numbers.{field}

unfoldable pub mixed : (a b : ℕ) → ℕ
mixed a b = (a * 2654435761 + b) % 4294967296

unfoldable pub four_words : (s : List ℕ) (a b c d : ℕ) → ℕ
four_words s a b c d = mixed (mixed (field a 4 s) (field b 4 s)) (mixed (field c 4 s) (field d 4 s))

abbrev pub differs_from : (mark m : ℕ) → Bool
differs_from mark m = not (eqb mark m)
