-- Laws of how many first bytes are alike.
use mathlib.Core.Path.{◌≡◌, refl}
use Prim.Native.Nat.{ℕ, suc, ◌+◌, ◌≤◌, ◌<◌}
use mathlib.Core.Bool.{Bool, true, false}
use mathlib.Core.List.{List, [], ◌∷◌}
use native.Mathlib.Omega.{arith}
use native.Mathlib.Numerals.{add-one}
use borrow.Author.Tests.{eq-eqb, ne_eqb}
use lib.ListN.{length, drop, get_or, drop_of_length-le}
use lib.Seq.{drop-cons}
use lib.Dec.{eqb}
use Rattle.wire.specs.Choice.{when◌then◌else◌}
use Rattle.audit.specs.Audit.{alike}

-- ---- byte by byte

pub alike_nil : (xs : List ℕ) → alike xs [] ≡ 0
unfolding alike
alike_nil [] = refl
alike_nil (x ∷ xs) = refl

pub alike_same : (x : ℕ) (xs ys : List ℕ) → alike (x ∷ xs) (x ∷ ys) ≡ suc (alike xs ys)
unfolding alike
alike_same x xs ys = rw (eq-eqb x x refl)

pub alike_other : (x y : ℕ) (xs ys : List ℕ) → (x ≡ y → ⊥) → alike (x ∷ xs) (y ∷ ys) ≡ 0
unfolding alike
alike_other x y xs ys h = rw (ne_eqb x y h)

-- ---- the loop: i bytes are alike, and the rests decide

module _ (xs ys : List ℕ) (i : ℕ) where
  pub all_alike : length xs ≤ i → alike (drop i xs) (drop i ys) ≡ 0
  unfolding alike
  all_alike h = rw (drop_of_length-le xs h)

  pub no_more : length ys ≤ i → alike (drop i xs) (drop i ys) ≡ 0
  no_more h = rw (drop_of_length-le ys h) (alike_nil (drop i xs))

  pub differs : i < length xs → i < length ys → (get_or xs i 0 ≡ get_or ys i 0 → ⊥) → alike (drop i xs) (drop i ys) ≡ 0
  differs h k e = rw (drop-cons xs i 0 h, drop-cons ys i 0 k) (alike_other (get_or xs i 0) (get_or ys i 0) (drop (suc i) xs) (drop (suc i) ys) e)

  pub one_more : i < length xs → i < length ys → get_or xs i 0 ≡ get_or ys i 0 → alike (drop i xs) (drop i ys) ≡ suc (alike (drop (i + 1) xs) (drop (i + 1) ys))
  one_more h k e = rw (add-one, drop-cons xs i 0 h, drop-cons ys i 0 k, e) (alike_same (get_or ys i 0) (drop (suc i) xs) (drop (suc i) ys))

-- ---- no more than there are

either_way : (t : Bool) {n m : ℕ} → n ≤ m → (when t then suc n else 0) ≤ suc m
either_way true h = omega arith
either_way false h = omega arith

pub alike_left : (xs ys : List ℕ) → alike xs ys ≤ length xs
unfolding alike
alike_left [] ys = omega arith
alike_left (x ∷ xs) [] = omega arith
alike_left (x ∷ xs) (y ∷ ys) = either_way (eqb x y) (alike_left xs ys)

pub alike_right : (xs ys : List ℕ) → alike xs ys ≤ length ys
unfolding alike
alike_right [] ys = omega arith
alike_right (x ∷ xs) [] = omega arith
alike_right (x ∷ xs) (y ∷ ys) = either_way (eqb x y) (alike_right xs ys)
