-- Where the auditor is in the two streams, what a step makes of it, and that the verdict there is the definition's.
use mathlib.Core.Path.{◌≡◌, refl, sym, ap, ap₂, ◌∙◌, subst}
use Prim.Native.Nat.{ℕ, suc, ◌+◌, ◌-◌, ◌≤◌, ◌<◌}
use mathlib.Core.Bool.{Bool, true, false, ◌||◌, not, true≢false}
use mathlib.Core.List.{List, [], ◌∷◌, ◌++◌, flatten, append_assoc, append-nil}
use native.Mathlib.Omega.{arith}
use borrow.Author.Tests.{lt-ltb, le-ltb, ltb-true, ltb-false, eqb-false, not-true}
use lib.ListN.{length, take, drop, length-append, length-drop, take-append-drop}
use lib.Seq.{length-take-le, take_all, take-add, drop_at, drop-drop, take-append-le}
use lib.Dec.{eqb, ltb}
use Rattle.wire.proofs.TestLaws.{and_left, and_right}
use Rattle.reading.specs.Buffer.{Written, bytes_of, as_one}
use Rattle.reading.proofs.ReaderLaws.{decide}
use Rattle.audit.specs.Audit.{alike, compared}
use Rattle.audit.specs.Step.{progress_with, is_pending, left_of, is_found, advanced, after_call, verdict_at}
use Rattle.audit.specs.declared.Progress.{Progress}
use Rattle.audit.specs.declared.Verdict.TheVariants.{Accepted, Wrong}
use Rattle.audit.proofs.AlikeLaws.{alike_left, alike_right}
use Rattle.audit.proofs.VerdictLaws.{alike_take, alike_stops, compared_front, compared_place, compared_past}
use Rattle.audit.proofs.StepLaws.{Good, length_left, verdict_inside, verdict_behind, verdict_accepted}

-- the rules gave `responses` so far, and `rest` is left of the captured bytes
pub data Where (responses : List (List ℕ)) (captured rest : List ℕ) (p : Progress) (pending : List ℕ) : Type 0 where
  -- every response is compared
  between : p.is_wrong ≡ false → p.place ≡ p.size → p.number ≡ length responses → captured ≡ flatten responses ++ rest → Where responses captured rest p pending
  -- the last one is not whole
  inside : p.is_wrong ≡ false → p.place < p.size → (before : List (List ℕ)) → responses ≡ before ++ (take p.size pending ∷ []) → p.number ≡ suc (length before)
      → captured ≡ flatten before ++ (take p.place (take p.size pending) ++ rest) → Where responses captured rest p pending
  -- a wrong byte was found
  found : p.is_wrong ≡ true → (before : List (List ℕ)) (response : List ℕ) (after : List (List ℕ)) → responses ≡ before ++ (response ∷ after)
      → p.number ≡ suc (length before) → p.place < length response → captured ≡ flatten before ++ (take p.place response ++ rest)
      → alike (drop p.place response) rest ≡ 0 → Where responses captured rest p pending

-- ---- THE VERDICT there

ends : (k : ℕ) (rest : List ℕ) → length rest ≤ 0 → compared k [] rest ≡ Accepted
unfolding compared
ends k [] h = refl
ends k (b ∷ rest) h = absurd (omega (arith, h))

runs_on : (k : ℕ) (rest : List ℕ) → 0 < length rest → compared k [] rest ≡ Wrong k 0
unfolding compared
runs_on k [] h = absurd (omega (arith, h))
runs_on k (b ∷ rest) h = refl

-- of responses that are all right
front : (responses more : List (List ℕ)) (captured rest : List ℕ) → captured ≡ flatten responses ++ rest
    → compared 1 (responses ++ more) captured ≡ compared (1 + length responses) more rest
front responses more captured rest e = ap (compared 1 (responses ++ more)) e ∙ compared_front responses more 1 rest

module _ (p : Progress) (pending : List ℕ) (g : Good p pending) where
  abbrev left : List ℕ
  left = left_of p pending

  -- what is left of the response
  left_is : drop p.place (take p.size pending) ≡ left
  left_is =
      let e : p.size ≡ p.place + (p.size - p.place) = omega (arith, g.placed) in
      ap (drop p.place) (ap (λ (n : ℕ). take n pending) e ∙ take-add p.place (p.size - p.place) pending)
      ∙ drop_at (take p.place pending) left p.place (length-take-le p.place pending (omega (arith, g.placed, g.held)))

  whole_is : length (take p.size pending) ≡ p.size
  whole_is = length-take-le p.size pending g.held

  module _ (responses : List (List ℕ)) (captured rest : List ℕ) where
    abbrev n : ℕ
    n = alike left rest

    verdict_between : p.is_wrong ≡ false → p.place ≡ p.size → p.number ≡ length responses → captured ≡ flatten responses ++ rest
        → verdict_at p pending rest ≡ compared 1 responses captured
    verdict_between w s k e =
        let z = length_left p pending g in
        let a = alike_left left rest in
        let by : compared 1 responses captured ≡ compared (1 + length responses) [] rest
        = ap (λ (x : List (List ℕ)). compared 1 x captured) (sym (append-nil responses)) ∙ front responses [] captured rest e in
        decide (ltb n (length rest))
        (λ t.
        let h : n < length rest = ltb-true _ _ t in
        sym (verdict_behind p pending rest n w refl (omega (arith, z, s)) h)
        ∙ ap (λ (i : ℕ). Wrong i 0) (let i : p.number + 1 ≡ 1 + length responses = omega (arith, k) in i)
        ∙ sym (by ∙ runs_on (1 + length responses) rest (omega (arith, h))))
        (λ t.
        let h : length rest ≤ n = ltb-false _ _ t in
        sym (verdict_accepted p pending rest n w refl (omega (arith, z, s)) h)
        ∙ sym (by ∙ ends (1 + length responses) rest (omega (arith, h, a, z, s))))

    module _ (w : p.is_wrong ≡ false) (before : List (List ℕ)) (r : responses ≡ before ++ (take p.size pending ∷ [])) (k : p.number ≡ suc (length before))
        (e : captured ≡ flatten before ++ (take p.place (take p.size pending) ++ rest)) where
      abbrev response : List ℕ
      response = take p.size pending

      by_front : compared 1 responses captured ≡ compared (1 + length before) (response ∷ []) (take p.place response ++ rest)
      by_front = ap (λ (x : List (List ℕ)). compared 1 x captured) r ∙ front before (response ∷ []) captured (take p.place response ++ rest) e

      same : alike (drop p.place response) rest ≡ n
      same = ap (λ (x : List ℕ). alike x rest) left_is

      placed : p.place ≤ length response
      placed = omega (arith, whole_is, g.placed)

      verdict_in : n < length left → verdict_at p pending rest ≡ compared 1 responses captured
      verdict_in h =
          let z = length_left p pending g in
          sym (verdict_inside p pending rest n w refl h)
          ∙ ap (λ (i : ℕ). Wrong i (p.place + n)) (let i : p.number ≡ 1 + length before = omega (arith, k) in i)
          ∙ sym (by_front ∙ compared_place (1 + length before) p.place response [] rest n placed same (omega (arith, h, z, whole_is, g.placed)))

      by_past : length left ≤ n → compared 1 responses captured ≡ compared (suc (1 + length before)) [] (drop n rest)
      by_past h =
          let z = length_left p pending g in
          by_front ∙ compared_past (1 + length before) p.place response [] rest n placed same (omega (arith, h, z, whole_is, g.placed))

      verdict_past : length left ≤ n → verdict_at p pending rest ≡ compared 1 responses captured
      verdict_past l =
          let d = length-drop n rest in
          decide (ltb n (length rest))
          (λ t.
          let h : n < length rest = ltb-true _ _ t in
          sym (verdict_behind p pending rest n w refl l h)
          ∙ ap (λ (i : ℕ). Wrong i 0) (let i : p.number + 1 ≡ suc (1 + length before) = omega (arith, k) in i)
          ∙ sym (by_past l ∙ runs_on (suc (1 + length before)) (drop n rest) (omega (arith, h, d))))
          (λ t.
          let h : length rest ≤ n = ltb-false _ _ t in
          sym (verdict_accepted p pending rest n w refl l h)
          ∙ sym (by_past l ∙ ends (suc (1 + length before)) (drop n rest) (omega (arith, h, d))))

    verdict_found : p.is_wrong ≡ true → (before : List (List ℕ)) (response : List ℕ) (after : List (List ℕ)) → responses ≡ before ++ (response ∷ after)
        → p.number ≡ suc (length before) → p.place < length response → captured ≡ flatten before ++ (take p.place response ++ rest)
        → alike (drop p.place response) rest ≡ 0 → verdict_at p pending rest ≡ compared 1 responses captured
    unfolding verdict_at
    verdict_found w before response after r k h e z =
        let by : compared 1 responses captured ≡ Wrong (1 + length before) (p.place + 0)
        = ap (λ (x : List (List ℕ)). compared 1 x captured) r ∙ front before (response ∷ after) captured (take p.place response ++ rest) e
        ∙ compared_place (1 + length before) p.place response after rest 0 (omega (arith, h)) z (omega (arith, h)) in
        rw w (ap₂ Wrong (let i : p.number ≡ 1 + length before = omega (arith, k) in i) (let i : p.place ≡ p.place + 0 = omega arith in i) ∙ sym by)

    pub verdict_is : Where responses captured rest p pending → verdict_at p pending rest ≡ compared 1 responses captured
    verdict_is (between w s k e) = verdict_between w s k e
    verdict_is (inside w s before r k e) = decide (ltb n (length left)) (λ t. verdict_in w before r k e (ltb-true _ _ t)) (λ t. verdict_past w before r k e (ltb-false _ _ t))
    verdict_is (found w before response after r k h e z) = verdict_found w before response after r k h e z

-- ---- BYTES COMPARED

flatten_snoc : (before : List (List ℕ)) (r : List ℕ) → flatten (before ++ (r ∷ [])) ≡ flatten before ++ r
unfolding flatten
flatten_snoc [] r = append-nil r
flatten_snoc (x ∷ before) r = ap (λ (l : List ℕ). x ++ l) (flatten_snoc before r) ∙ sym (append_assoc x (flatten before) r)

other : (a b : Bool) → a ≡ false → a || b ≡ true → b ≡ true
other false b h e = e
other true b h e = absurd (true≢false h)

found_inside : (n l here : ℕ) (is_last : Bool) → is_found n l here is_last ≡ true → n < l
unfolding is_found
found_inside n l here is_last e = ltb-true n l (and_left (ltb n l) (ltb n here || is_last) e)

found_last : (n l here : ℕ) (is_last : Bool) → is_found n l here is_last ≡ true → here ≤ n → is_last ≡ true
unfolding is_found
found_last n l here is_last e h = other (ltb n here) is_last (le-ltb n here h) (and_right (ltb n l) (ltb n here || is_last) e)

module _ (p : Progress) (pending : List ℕ) (g : Good p pending) (responses : List (List ℕ)) (captured rest : List ℕ)
    (chunk later : List ℕ) (is_last : Bool) (cut : rest ≡ chunk ++ later) (last : is_last ≡ true → later ≡ [])
    (before : List (List ℕ)) (r : responses ≡ before ++ (take p.size pending ∷ [])) (k : p.number ≡ suc (length before))
    (e : captured ≡ flatten before ++ (take p.place (take p.size pending) ++ rest)) where
  abbrev remaining : List ℕ
  remaining = left_of p pending

  abbrev whole : List ℕ
  whole = take p.size pending

  abbrev m : ℕ
  m = alike remaining chunk

  in_size : p.place + m ≤ p.size
  in_size = omega (arith, length_left p pending g, alike_left remaining chunk, g.placed)

  -- the bytes that are alike go over to those that were compared
  moved : captured ≡ flatten before ++ (take (p.place + m) whole ++ drop m rest)
  moved =
      let a : take m rest ≡ take m (drop p.place whole)
      = ap (take m) cut ∙ take-append-le m chunk later (alike_right remaining chunk) ∙ alike_take remaining chunk ∙ ap (take m) (sym (left_is p pending g)) in
      e
      ∙ ap (λ (x : List ℕ). flatten before ++ x)
      (ap (λ (x : List ℕ). take p.place whole ++ x) (sym (take-append-drop m rest) ∙ ap (λ (x : List ℕ). x ++ drop m rest) a)
      ∙ sym (append_assoc (take p.place whole) (take m (drop p.place whole)) (drop m rest))
      ∙ ap (λ (x : List ℕ). x ++ drop m rest) (sym (take-add p.place m whole)))

  stops : is_found m (length remaining) (length chunk) is_last ≡ true → alike (drop (p.place + m) whole) (drop m rest) ≡ 0
  stops f =
      ap₂ alike (sym (drop-drop m p.place whole) ∙ ap (drop m) (left_is p pending g)) (ap (drop m) cut)
      ∙ alike_stops remaining chunk later (λ h. last (found_last m (length remaining) (length chunk) is_last f h))

  abbrev after : Bool → Progress
  after t = advanced p m t

  pub compared_where : (t : Bool) → is_found m (length remaining) (length chunk) is_last ≡ t → Where responses captured (drop m rest) (after t) pending
  compared_where true f =
      found refl before whole [] r k
      (omega (arith, found_inside m (length remaining) (length chunk) is_last f, length_left p pending g, whole_is p pending g, g.placed)) moved (stops f)
  compared_where false f = decide (ltb (p.place + m) p.size)
      (λ t. inside refl (ltb-true _ _ t) before r k moved)
      (λ t.
      let full : p.size ≤ p.place + m = ltb-false _ _ t in
      between refl (omega (arith, full, in_size)) (omega (arith, k, ap length r, length-append before (whole ∷ [])))
      (moved
      ∙ ap (λ (x : List ℕ). flatten before ++ (x ++ drop m rest)) (take_all (p.place + m) whole (omega (arith, full, whole_is p pending g)))
      ∙ sym (append_assoc (flatten before) whole (drop m rest))
      ∙ ap (λ (x : List ℕ). x ++ drop m rest) (sym (ap flatten r ∙ flatten_snoc before whole))))

-- ---- A CALL

pub pending_inside : (p : Progress) → is_pending p ≡ true → p.place < p.size
unfolding is_pending
pending_inside p e = ltb-true _ _ (and_right (not p.is_wrong) (ltb p.place p.size) e)

pub pending_right : (p : Progress) → is_pending p ≡ true → p.is_wrong ≡ false
unfolding is_pending
pending_right p e = not-true p.is_wrong (and_left (not p.is_wrong) (ltb p.place p.size) e)

not_between : (p : Progress) → is_pending p ≡ false → p.is_wrong ≡ false → p.place < p.size → ⊥
unfolding is_pending
not_between p idle w h = true≢false (rw (w, lt-ltb _ _ h) at idle)

pub stays_wrong : (p : Progress) (written : ℕ) → p.is_wrong ≡ true → p ≡ after_call p written
unfolding after_call
stays_wrong p written w = rw w

pub stays : (p : Progress) (written : ℕ) → p.is_wrong ≡ false → eqb written 0 ≡ true → p ≡ after_call p written
unfolding after_call
stays p written w z = rw (w, z)

pub next : (p : Progress) (written : ℕ) → p.is_wrong ≡ false → eqb written 0 ≡ false → progress_with (p.number + 1) written 0 false ≡ after_call p written
unfolding after_call
next p written w z = rw (w, z)

pub positive : (n : ℕ) → eqb n 0 ≡ false → 0 < n
positive n z = decide (ltb 0 n) (λ t. ltb-true 0 n t) (λ t. absurd (eqb-false n 0 z (omega (arith, ltb-false 0 n t))))

none_written : (w : Written) → eqb w.count 0 ≡ true → as_one w ≡ []
unfolding as_one
none_written w z = rw z

one_written : (w : Written) → eqb w.count 0 ≡ false → as_one w ≡ take w.count w.buffer ∷ []
unfolding as_one bytes_of
one_written w z = rw z

module _ (p : Progress) (pending : List ℕ) (responses : List (List ℕ)) (captured rest : List ℕ) (idle : is_pending p ≡ false) (w : Written) where
  pub called_where : Where responses captured rest p pending → Where (responses ++ as_one w) captured rest (after_call p w.count) w.buffer
  called_where (inside x s before r k e) = absurd (not_between p idle x s)
  called_where (found x before response after r k h e z) =
      subst (λ (q : Progress). Where (responses ++ as_one w) captured rest q w.buffer) (stays_wrong p w.count x)
      (found x before response (after ++ as_one w) (ap (λ (l : List (List ℕ)). l ++ as_one w) r ∙ append_assoc before (response ∷ after) (as_one w)) k h e z)
  called_where (between x s k e) = decide (eqb w.count 0)
      (λ z.
      subst (λ (q : Progress). Where (responses ++ as_one w) captured rest q w.buffer) (stays p w.count x z)
      (subst (λ (l : List (List ℕ)). Where l captured rest p w.buffer) (sym (ap (λ (l : List (List ℕ)). responses ++ l) (none_written w z) ∙ append-nil responses))
      (between x s k e)))
      (λ z.
      subst (λ (q : Progress). Where (responses ++ as_one w) captured rest q w.buffer) (next p w.count x z)
      (inside refl (positive w.count z) responses (ap (λ (l : List (List ℕ)). responses ++ l) (one_written w z)) (omega (arith, k)) e))
