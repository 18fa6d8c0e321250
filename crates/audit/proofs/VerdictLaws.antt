-- Laws of the verdict: what is compared from a place on, accepted exactly, and one byte changed, lost or added.
use mathlib.Core.Path.{◌≡◌, refl, sym, ap, ap₂, ◌∙◌}
use Prim.Native.Nat.{ℕ, zero, suc, ◌+◌, ◌≤◌, ◌<◌}
use mathlib.Core.Bool.{Bool, true, false, true≢false}
use mathlib.Core.List.{List, [], ◌∷◌, ◌++◌, flatten, append_assoc, append-nil}
use native.Mathlib.Omega.{arith}
use borrow.Author.Tests.{lt-ltb, le-ltb, ltb-true, ltb-false, eqb-true}
use lib.ListN.{length, take, drop, length-append, take-append-drop}
use lib.Seq.{length-take-le, take-length, drop-append_seam, drop-append-add}
use lib.Dec.{eqb, ltb}
use Rattle.reading.proofs.ReaderLaws.{decide}
use Rattle.audit.specs.Audit.{alike, compared}
use Rattle.audit.specs.declared.Verdict.{Verdict}
use Rattle.audit.specs.declared.Verdict.TheVariants.{Accepted, Wrong}
use Rattle.audit.proofs.AlikeLaws.{alike_same, alike_left}

-- ---- what is alike

-- the first p bytes are alike, and the rests decide
pub alike_front : (xs ys : List ℕ) (p : ℕ) → p ≤ length xs → alike xs (take p xs ++ ys) ≡ alike (drop p xs) ys + p
alike_front xs ys zero h = let e : alike xs ys ≡ alike xs ys + 0 = omega arith in e
alike_front [] ys (suc p) h = absurd (omega arith)
alike_front (x ∷ xs) ys (suc p) h =
    let ih = alike_front xs ys p (omega arith) in
    let e : suc (alike xs (take p xs ++ ys)) ≡ alike (drop p xs) ys + suc p = omega (arith, ih) in
    alike_same x xs (take p xs ++ ys) ∙ e

pub alike_whole : (xs ys : List ℕ) → alike xs (xs ++ ys) ≡ length xs
unfolding alike
alike_whole [] ys = refl
alike_whole (x ∷ xs) ys = alike_same x xs (xs ++ ys) ∙ ap suc (alike_whole xs ys)

module _ (x y : ℕ) (xs ys : List ℕ) where
  alike_yes : eqb x y ≡ true → alike (x ∷ xs) (y ∷ ys) ≡ suc (alike xs ys)
  unfolding alike
  alike_yes e = rw e

  alike_no : eqb x y ≡ false → alike (x ∷ xs) (y ∷ ys) ≡ 0
  unfolding alike
  alike_no e = rw e

-- as many first bytes are the same
pub alike_take : (xs ys : List ℕ) → take (alike xs ys) ys ≡ take (alike xs ys) xs
unfolding alike
alike_take [] ys = refl
alike_take (x ∷ xs) [] = refl
alike_take (x ∷ xs) (y ∷ ys) = decide (eqb x y)
    (λ e.
    ap (λ (n : ℕ). take n (y ∷ ys)) (alike_yes x y xs ys e)
    ∙ ap₂ (λ (a : ℕ) (l : List ℕ). a ∷ l) (sym (eqb-true x y e)) (alike_take xs ys)
    ∙ sym (ap (λ (n : ℕ). take n (x ∷ xs)) (alike_yes x y xs ys e)))
    (λ e. ap (λ (n : ℕ). take n (y ∷ ys)) (alike_no x y xs ys e) ∙ sym (ap (λ (n : ℕ). take n (x ∷ xs)) (alike_no x y xs ys e)))

-- behind them there is no byte, or one that differs: also with bytes behind, unless the list was too short
pub alike_stops : (xs ys later : List ℕ) → (length ys ≤ alike xs ys → later ≡ []) → alike (drop (alike xs ys) xs) (drop (alike xs ys) (ys ++ later)) ≡ 0
unfolding alike
alike_stops [] ys later h = refl
alike_stops (x ∷ xs) [] later h = rw (h (omega arith))
alike_stops (x ∷ xs) (y ∷ ys) later h = decide (eqb x y)
    (λ e.
    let z = alike_yes x y xs ys e in
    ap (λ (n : ℕ). alike (drop n (x ∷ xs)) (drop n (y ∷ (ys ++ later)))) z ∙ alike_stops xs ys later (λ l. h (omega (arith, z, l))))
    (λ e. ap (λ (n : ℕ). alike (drop n (x ∷ xs)) (drop n (y ∷ (ys ++ later)))) (alike_no x y xs ys e) ∙ alike_no x y xs (ys ++ later) e)

-- ---- what is compared

pub compared_wrong : (k : ℕ) (r : List ℕ) (rs : List (List ℕ)) (captured : List ℕ) (n : ℕ) → alike r captured ≡ n → n < length r → compared k (r ∷ rs) captured ≡ Wrong k n
unfolding compared
compared_wrong k r rs captured n e h = rw (e, lt-ltb n (length r) h)

pub compared_on : (k : ℕ) (r : List ℕ) (rs : List (List ℕ)) (captured : List ℕ) (n : ℕ) → alike r captured ≡ n → length r ≤ n
    → compared k (r ∷ rs) captured ≡ compared (suc k) rs (drop n captured)
unfolding compared
compared_on k r rs captured n e h = rw (e, le-ltb n (length r) h)

-- responses that are right are passed
pub compared_front : (before more : List (List ℕ)) (k : ℕ) (rest : List ℕ) → compared k (before ++ more) (flatten before ++ rest) ≡ compared (k + length before) more rest
unfolding flatten
compared_front [] more k rest = ap (λ (n : ℕ). compared n more rest) (let e : k ≡ k + 0 = omega arith in e)
compared_front (r ∷ before) more k rest =
    ap (λ (x : List ℕ). compared k (r ∷ (before ++ more)) x) (append_assoc r (flatten before) rest)
    ∙ compared_on k r (before ++ more) (r ++ (flatten before ++ rest)) (length r) (alike_whole r (flatten before ++ rest)) (omega arith)
    ∙ ap (λ (x : List ℕ). compared (suc k) (before ++ more) x) (drop-append_seam r (flatten before ++ rest))
    ∙ compared_front before more (suc k) rest
    ∙ ap (λ (n : ℕ). compared n more rest) (let e : suc k + length before ≡ k + suc (length before) = omega arith in e)

-- the next one is passed up to the place p
pub compared_place : (k p : ℕ) (r : List ℕ) (rs : List (List ℕ)) (rest : List ℕ) (n : ℕ) → p ≤ length r → alike (drop p r) rest ≡ n → p + n < length r
    → compared k (r ∷ rs) (take p r ++ rest) ≡ Wrong k (p + n)
compared_place k p r rs rest n h e l = compared_wrong k r rs (take p r ++ rest) (p + n) (let a = alike_front r rest p h in omega (arith, a, e)) l

pub compared_past : (k p : ℕ) (r : List ℕ) (rs : List (List ℕ)) (rest : List ℕ) (n : ℕ) → p ≤ length r → alike (drop p r) rest ≡ n → length r ≤ p + n
    → compared k (r ∷ rs) (take p r ++ rest) ≡ compared (suc k) rs (drop n rest)
compared_past k p r rs rest n h e l =
    compared_on k r rs (take p r ++ rest) (p + n) (let a = alike_front r rest p h in omega (arith, a, e)) l
    ∙ ap (compared (suc k) rs) (ap (λ (x : ℕ). drop (x + n) (take p r ++ rest)) (sym (length-take-le p r h)) ∙ drop-append-add (take p r) rest n)

-- ---- accepted exactly

abbrev is_accepted : Verdict → Bool
is_accepted Accepted = true
is_accepted (Wrong k n) = false

wrong≢accepted : (k n : ℕ) → Wrong k n ≡ Accepted → ⊥
wrong≢accepted k n e = true≢false (sym (ap is_accepted e))

pub accepted_right : (rs : List (List ℕ)) (k : ℕ) → compared k rs (flatten rs) ≡ Accepted
unfolding compared
accepted_right rs k =
    ap (compared k rs) (sym (append-nil (flatten rs))) ∙ ap (λ (x : List (List ℕ)). compared k x (flatten rs ++ [])) (sym (append-nil rs)) ∙ compared_front rs [] k []

pub accepted_only : (rs : List (List ℕ)) (k : ℕ) (captured : List ℕ) → compared k rs captured ≡ Accepted → captured ≡ flatten rs
unfolding compared flatten
accepted_only [] k [] e = refl
accepted_only [] k (b ∷ captured) e = absurd (wrong≢accepted k 0 e)
accepted_only (r ∷ rs) k captured e = decide (ltb (alike r captured) (length r))
    (λ t. absurd (wrong≢accepted k (alike r captured) (sym (compared_wrong k r rs captured (alike r captured) refl (ltb-true _ _ t)) ∙ e)))
    (λ t.
    let long : length r ≤ alike r captured = ltb-false _ _ t in
    let n : alike r captured ≡ length r = (let a = alike_left r captured in omega arith) in
    let rest = accepted_only rs (suc k) (drop (alike r captured) captured) (sym (compared_on k r rs captured (alike r captured) refl long) ∙ e) in
    sym (take-append-drop (alike r captured) captured)
    ∙ ap (λ (x : List ℕ). x ++ drop (alike r captured) captured) (alike_take r captured ∙ ap (λ (m : ℕ). take m r) n ∙ take-length r)
    ∙ ap (λ (x : List ℕ). r ++ x) rest)

-- ---- one byte changed, lost or added

abbrev head_of : List ℕ → ℕ
head_of [] = 0
head_of (x ∷ xs) = x

pub changed : (xs ys : List ℕ) (b c : ℕ) → xs ++ (b ∷ ys) ≡ xs ++ (c ∷ ys) → b ≡ c
changed xs ys b c e =
    ap head_of (sym (drop-append_seam xs (b ∷ ys)) ∙ ap (drop (length xs)) e ∙ drop-append_seam xs (c ∷ ys))

pub not_longer : (xs ys : List ℕ) (b : ℕ) → xs ++ ys ≡ xs ++ (b ∷ ys) → ⊥
not_longer xs ys b e =
    let l = ap length e in
    let p = length-append xs ys in
    let q = length-append xs (b ∷ ys) in
    omega arith
