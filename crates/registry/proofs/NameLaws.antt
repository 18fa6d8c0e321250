-- Laws of names: where one is found, and that another name put into a list of distinct ones keeps them distinct.
use mathlib.Core.Path.{◌≡◌, refl, sym, ap₂, ◌∙◌}
use mathlib.Core.Bool.{Bool, true, false, true≢false, not, ◌&&◌}
use mathlib.Core.List.{List, [], ◌∷◌, ◌++◌}
use Prim.Native.Nat.{ℕ, zero, suc, ◌+◌, ◌-◌, ◌≤◌, ◌<◌}
use native.Mathlib.Omega.{arith}
use borrow.Author.Tests.{ne_eqb, not-true}
use lib.ListN.{length, get_or, set}
use lib.Dec.{eqb}
use Rattle.wire.specs.Choice.{when◌then◌else◌}
use Rattle.wire.specs.Lists.{all, same}
use Rattle.wire.proofs.TestLaws.{and_left, and_right}
use Rattle.wire.proofs.ListLaws.{same_comm, all_append, all_set}
use Rattle.keys.specs.Names.{is_new}
use Rattle.registry.specs.Names.{index_from, distinct}

-- ---- the index of a name

index_from_lem : (x : List ℕ) (ys : List (List ℕ)) (i : ℕ) → i ≤ index_from x ys i
unfolding index_from
index_from_lem x [] i = omega arith
index_from_lem x (y ∷ ys) i = go (index_from_lem x ys (i + 1)) (same x y)
  where
    go : i + 1 ≤ index_from x ys (i + 1) → (t : Bool) → i ≤ (when t then i else index_from x ys (i + 1))
    go r true = omega arith
    go r false = omega arith

-- the name at the index is x
pub index_same : (x : List ℕ) (ys : List (List ℕ)) (i : ℕ) → index_from x ys i < i + length ys → same x (get_or ys (index_from x ys i - i) []) ≡ true
unfolding index_from
index_same x [] i h = absurd (let z : ⊥ = omega arith in z)
index_same x (y ∷ ys) i h = go (λ u. index_same x ys (i + 1) u) (same x y) refl h
  where
    go : (index_from x ys (i + 1) < i + 1 + length ys → same x (get_or ys (index_from x ys (i + 1) - (i + 1)) []) ≡ true)
        → (t : Bool) → same x y ≡ t → (when t then i else index_from x ys (i + 1)) < i + suc (length ys)
        → same x (get_or (y ∷ ys) ((when t then i else index_from x ys (i + 1)) - i) []) ≡ true
    go r true e u = let z : i - i ≡ 0 = omega arith in rw z e
    go r false e u =
        let z : index_from x ys (i + 1) - i ≡ suc (index_from x ys (i + 1) - (i + 1)) = omega (arith, index_from_lem x ys (i + 1)) in
        rw z (r (omega arith))

pub index_none : (x : List ℕ) (ys : List (List ℕ)) (i : ℕ) → i + length ys ≤ index_from x ys i → is_new x ys ≡ true
unfolding index_from
index_none x [] i h = refl
index_none x (y ∷ ys) i h = go (λ u. index_none x ys (i + 1) u) (same x y) h
  where
    go : (i + 1 + length ys ≤ index_from x ys (i + 1) → is_new x ys ≡ true) → (t : Bool)
        → i + suc (length ys) ≤ (when t then i else index_from x ys (i + 1)) → not t && is_new x ys ≡ true
    go r true u = absurd (let z : ⊥ = omega arith in z)
    go r false u = r (omega arith)

-- ---- distinct names

-- x, unless it is empty, is none of the names
abbrev pub lone : List ℕ → List (List ℕ) → Bool
lone [] ys = true
lone (a ∷ x) ys = is_new (a ∷ x) ys

pub distinct_cons : (x : List ℕ) (xs : List (List ℕ)) → distinct (x ∷ xs) ≡ lone x xs && distinct xs
unfolding distinct
distinct_cons [] xs = refl
distinct_cons (a ∷ x) xs = refl

pub lone_empty : (x : List ℕ) (ys : List (List ℕ)) → length x ≡ 0 → lone x ys ≡ true
lone_empty [] ys e = refl
lone_empty (a ∷ x) ys e = absurd (let z : ⊥ = omega arith in z)

pub lone_named : (x : List ℕ) (ys : List (List ℕ)) → (length x ≡ 0 → ⊥) → lone x ys ≡ is_new x ys
lone_named [] ys h = absurd (h refl)
lone_named (a ∷ x) ys h = refl

pub lone_absent : (y : List ℕ) (xs : List (List ℕ)) → is_new y xs ≡ true → lone y xs ≡ true
lone_absent [] xs e = refl
lone_absent (a ∷ y) xs e = e

-- y is none of the names, seen from each of them
abbrev pub Apart : List ℕ → List (List ℕ) → Type 0
Apart y [] = Unit {0}
Apart y (x ∷ xs) = (lone x (y ∷ []) ≡ true) × Apart y xs

pub apart_empty : (xs : List (List ℕ)) → Apart [] xs
apart_empty [] = tt
apart_empty ([] ∷ xs) = (refl, apart_empty xs)
apart_empty ((a ∷ x) ∷ xs) = (refl, apart_empty xs)

pub apart_absent : (y : List ℕ) (xs : List (List ℕ)) → is_new y xs ≡ true → Apart y xs
apart_absent y [] e = tt
apart_absent y (x ∷ xs) e = (
  go x (same_comm x y ∙ not-true (same y x) (and_left (not (same y x)) (is_new y xs) e)),
  apart_absent y xs (and_right (not (same y x)) (is_new y xs) e),
)
  where
    go : (x : List ℕ) → same x y ≡ false → lone x (y ∷ []) ≡ true
    go [] q = refl
    go (a ∷ x) q = rw q

lone_tail : (y x : List ℕ) (xs : List (List ℕ)) → lone y (x ∷ xs) ≡ true → lone y xs ≡ true
lone_tail [] x xs e = refl
lone_tail (a ∷ y) x xs e = and_right (not (same (a ∷ y) x)) (is_new (a ∷ y) xs) e

lone_set : (x y : List ℕ) (xs : List (List ℕ)) (k : ℕ) → lone x xs ≡ true → lone x (y ∷ []) ≡ true → lone x (set xs k y) ≡ true
lone_set [] y xs k e h = refl
lone_set (a ∷ x) y xs k e h = all_set (λ z. not (same (a ∷ x) z)) xs k y e (and_left (not (same (a ∷ x) y)) true h)

lone_snoc : (x y : List ℕ) (xs : List (List ℕ)) → lone x xs ≡ true → lone x (y ∷ []) ≡ true → lone x (xs ++ (y ∷ [])) ≡ true
lone_snoc [] y xs e h = refl
lone_snoc (a ∷ x) y xs e h = all_append (λ z. not (same (a ∷ x) z)) xs (y ∷ []) e h

module _ (x : List ℕ) (xs : List (List ℕ)) (e : distinct (x ∷ xs) ≡ true) where
  distinct_lone : lone x xs ≡ true
  distinct_lone = and_left (lone x xs) (distinct xs) (sym (distinct_cons x xs) ∙ e)

  distinct_tail : distinct xs ≡ true
  distinct_tail = and_right (lone x xs) (distinct xs) (sym (distinct_cons x xs) ∙ e)

pub distinct_set : (y : List ℕ) (xs : List (List ℕ)) (k : ℕ) → lone y xs ≡ true → Apart y xs → distinct xs ≡ true → distinct (set xs k y) ≡ true
distinct_set y [] k l a e = e
distinct_set y (x ∷ xs) zero l a e = distinct_cons y xs ∙ ap₂ ◌&&◌ (lone_tail y x xs l) (distinct_tail x xs e)
distinct_set y (x ∷ xs) (suc k) l a e =
    distinct_cons x (set xs k y)
    ∙ ap₂ ◌&&◌ (lone_set x y xs k (distinct_lone x xs e) a.0) (distinct_set y xs k (lone_tail y x xs l) a.1 (distinct_tail x xs e))

pub distinct_snoc : (xs : List (List ℕ)) (x : List ℕ) → distinct xs ≡ true → Apart x xs → distinct (xs ++ (x ∷ [])) ≡ true
unfolding distinct
distinct_snoc [] [] e a = refl
distinct_snoc [] (b ∷ x) e a = refl
distinct_snoc (y ∷ xs) x e a =
    distinct_cons y (xs ++ (x ∷ [])) ∙ ap₂ ◌&&◌ (lone_snoc y x xs (distinct_lone y xs e) a.0) (distinct_snoc xs x (distinct_tail y xs e) a.1)

-- empty names behind distinct ones
pub distinct_empty : (xs : List (List ℕ)) → all (λ x. eqb (length x) 0) xs ≡ true → distinct xs ≡ true
unfolding distinct
distinct_empty [] e = refl
distinct_empty ([] ∷ xs) e = distinct_empty xs e
distinct_empty ((a ∷ x) ∷ xs) e = absurd (let z : ⊥ = true≢false (sym (and_left (eqb (suc (length x)) 0) _ e) ∙ ne_eqb (suc (length x)) 0 (λ q. (let w : ⊥ = omega arith in w))) in z)
