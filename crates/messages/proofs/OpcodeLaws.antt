-- Laws of a number that is one of some.
use Prim.Native.Nat.{ℕ}
use mathlib.Core.Path.{◌≡◌, refl, sym, ap, ◌∙◌}
use mathlib.Core.Bool.{Bool, ◌||◌, or_assoc}
use mathlib.Core.List.{List, [], ◌∷◌, ◌++◌}
use lib.Dec.{eqb}
use Rattle.wire.specs.Lists.{one_of}

pub one_of_append : (xs ys : List ℕ) (n : ℕ) → one_of (xs ++ ys) n ≡ one_of xs n || one_of ys n
unfolding one_of
one_of_append [] ys n = refl
one_of_append (x ∷ xs) ys n = ap (λ (t : Bool). eqb n x || t) (one_of_append xs ys n) ∙ sym (or_assoc (eqb n x) (one_of xs n) (one_of ys n))
