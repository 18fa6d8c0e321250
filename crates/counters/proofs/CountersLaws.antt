-- Laws of the counters: the largest of some.
use Prim.Native.Nat.{ℕ, zero, suc, ◌+◌, ◌≤◌, ◌<◌, max}
use mathlib.Core.Path.{◌≡◌}
use mathlib.Core.List.{List, [], ◌∷◌}
use native.Mathlib.Numerals.{add-one}
use native.Mathlib.Omega.{arith}
use borrow.Author.Tests.{ltb-true, lt-ltb}
use lib.ListN.{length, get_or, drop, drop_of_length-le}
use lib.Seq.{drop-cons}
use lib.Dec.{ltb}
use Rattle.wire.proofs.TestLaws.{both}
use Rattle.counters.specs.Counters.{maximum}

-- ---- the largest of a list

pub maximum_next : (l : List ℕ) (i : ℕ) → i < length l → maximum (drop i l) ≡ max (get_or l i 0) (maximum (drop (i + 1) l))
unfolding maximum
maximum_next l i h = rw (drop-cons l i 0 h, add-one)

pub maximum_end : (l : List ℕ) (i : ℕ) → length l ≤ i → maximum (drop i l) ≡ 0
unfolding maximum
maximum_end l i h = rw (drop_of_length-le l h)

pub at_most_maximum : (l : List ℕ) (i : ℕ) → get_or l i 0 ≤ maximum l
unfolding maximum
at_most_maximum [] i = omega arith
at_most_maximum (n ∷ l) zero = omega arith
at_most_maximum (n ∷ l) (suc i) = omega (arith, at_most_maximum l i)

-- two numbers that are above k together
pub above_both : (k a b : ℕ) → (k < a → k < b) → (k < b → k < a) → ltb k a ≡ ltb k b
above_both k a b f g = both (ltb k a) (ltb k b) (λ t. lt-ltb k b (f (ltb-true k a t))) (λ t. lt-ltb k a (g (ltb-true k b t)))
