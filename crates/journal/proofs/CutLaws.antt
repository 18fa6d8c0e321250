-- The uncut reader on records: whole, in part, cut at any byte, and refused.
use Rattle.std.proofs.Common.{Some}
use mathlib.Core.Path.{◌≡◌, refl, sym, ap, ap₂, ◌∙◌}
use mathlib.Core.Bool.{Bool, true, false, true≢false}
use mathlib.Core.List.{List, [], ◌∷◌, ◌++◌, append_assoc, append-nil, flatten}
use Prim.Native.Nat.{ℕ, suc, ◌+◌, ◌-◌, ◌≤◌, ◌<◌}
use native.Mathlib.Omega.{arith}
use borrow.Author.Tests.{le-leb, lt-leb, leb-true, leb-false, eqb-true, eq-eqb}
use lib.ListN.{length, take, drop, length-append, length-drop, take-append-drop}
use lib.Seq.{take-nil, take-append-le, take-append-add, length-take-le}
use lib.Dec.{leb}
use Rattle.wire.specs.Lists.{all}
use Rattle.wire.specs.Numbers.{field}
use Rattle.wire.proofs.TestLaws.{and_left, and_right, some≢none}
use Rattle.wire.proofs.NumberLaws.{field_append}
use Rattle.reading.specs.Reader.{Reading, read}
use Rattle.reading.proofs.ReaderLaws.{decide, read_byte, read_append}
use Rattle.journal.specs.Record.{sealed_length, is_whole}
use Rattle.journal.specs.declared.Fault.{Fault}
use Rattle.journal.specs.Replay.{Judged, good, bad, judge_record}
use Rattle.journal.specs.Reader.{Kept, reading, stopped, after_record, after_byte, journal}
use Rattle.journal.specs.File.{is_record, after_all, whole_in}

-- ---- when bytes have a record whole

module _ (x : List ℕ) (r : is_record x ≡ true) where
  told : sealed_length x ≡ length x
  unfolding is_record
  told = eqb-true _ _ r

  pub some_bytes : 0 < length x
  some_bytes = omega (arith, told)

  whole : is_whole x ≡ true
  unfolding is_whole
  whole = rw (le-leb 3 (length x) (omega (arith, told)), le-leb (sealed_length x) (length x) (omega (arith, told)))

  unfinished : (ys zs : List ℕ) → ys ++ zs ≡ x → 0 < length zs → is_whole ys ≡ false
  unfolding is_whole
  unfinished ys zs e h = go (leb 3 (length ys)) refl
    where
      go : (t : Bool) → leb 3 (length ys) ≡ t → is_whole ys ≡ false
      go false q = rw (q, is_whole)
      go true q =
          let long : 3 ≤ length ys = leb-true _ _ q in
          let same : field 1 2 x ≡ field 1 2 ys = ap (field 1 2) (sym e) ∙ field_append 1 2 ys zs long in
          let sum = ap length (sym e) ∙ length-append ys zs in
          let more : length ys < sealed_length ys = omega (arith, told) in
          rw (q, lt-leb _ _ more, is_whole)

-- bytes behind a whole record leave it whole
whole_more : (ys zs : List ℕ) → is_whole ys ≡ true → is_whole (ys ++ zs) ≡ true
unfolding is_whole
whole_more ys zs e =
    let long : 3 ≤ length ys = leb-true _ _ (and_left (leb 3 (length ys)) _ e) in
    let fits : sealed_length ys ≤ length ys = leb-true _ _ (and_right (leb 3 (length ys)) _ e) in
    let same : field 1 2 (ys ++ zs) ≡ field 1 2 ys = field_append 1 2 ys zs long in
    let sum = length-append ys zs in
    rw (le-leb 3 (length (ys ++ zs)) (omega arith), le-leb (sealed_length (ys ++ zs)) (length (ys ++ zs)) (omega arith))

-- the record that stands first
pub record FirstRecord (file : List ℕ) : Type 0 where
  pub bytes : List ℕ
  pub behind : List ℕ
  pub parts : file ≡ bytes ++ behind
  pub is : is_record bytes ≡ true

pub first_record : (file : List ℕ) → is_whole file ≡ true → FirstRecord file
unfolding is_whole is_record
first_record file e =
    let fits : sealed_length file ≤ length file = leb-true _ _ (and_right (leb 3 (length file)) _ e) in
    let x : List ℕ = take (sealed_length file) file in
    let long : length x ≡ sealed_length file = length-take-le (sealed_length file) file fits in
    let same : field 1 2 file ≡ field 1 2 x
    = ap (field 1 2) (sym (take-append-drop (sealed_length file) file)) ∙ field_append 1 2 x (drop (sealed_length file) file) (omega arith) in
    record {
      bytes = x;
      behind = drop (sealed_length file) file;
      parts = sym (take-append-drop (sealed_length file) file);
      is = eq-eqb (sealed_length x) (length x) (omega arith);
    }

-- ---- reading one record, whole or in part

pub read_then : (s : Kept) (xs ys : List ℕ) → (read journal s (xs ++ ys)).kept ≡ (read journal (read journal s xs).kept ys).kept
read_then s xs ys = ap (λ (a : Reading Kept Fault). a.kept) (read_append journal s xs ys)

module _ (g : List ℕ) (k : ℕ) where
  on : (h : List ℕ) (b : ℕ) (xs : List ℕ)
      → (read journal (reading g k h) (b ∷ xs)).kept ≡ (read journal (after_byte (reading g k h) (h ++ (b ∷ []))).kept xs).kept
  on h b xs = ap (λ (a : Reading Kept Fault). a.kept) (read_byte journal (reading g k h) b xs refl)

  takes : (h : List ℕ) (b : ℕ) (xs : List ℕ)
      → (read journal (reading g k h) (b ∷ xs)).taken ≡ suc (read journal (after_byte (reading g k h) (h ++ (b ∷ []))).kept xs).taken
  takes h b xs = ap (λ (a : Reading Kept Fault). a.taken) (read_byte journal (reading g k h) b xs refl)

  held_on : (h h' : List ℕ) → is_whole h' ≡ false → (after_byte (reading g k h) h').kept ≡ reading g k h'
  unfolding after_byte
  held_on h h' e = rw (e, after_byte)

  judged_on : (h h' : List ℕ) → is_whole h' ≡ true → (after_byte (reading g k h) h').kept ≡ (after_record g k h' (judge_record g h')).kept
  unfolding after_byte
  judged_on h h' e = rw (e, after_byte)

  -- bytes that are no whole record are held
  pub read_held : (h xs : List ℕ) → is_whole (h ++ xs) ≡ false → (read journal (reading g k h) xs).kept ≡ reading g k (h ++ xs)
  unfolding read
  read_held h [] u = ap (reading g k) (sym (append-nil h))
  read_held h (b ∷ xs) u =
      let next : List ℕ = h ++ (b ∷ []) in
      let e : next ++ xs ≡ h ++ (b ∷ xs) = append_assoc h (b ∷ []) xs in
      on h b xs
      ∙ ap (λ (s : Kept). (read journal s xs).kept)
      (held_on h next (decide (is_whole next) (λ w. absurd (true≢false (sym (whole_more next xs w) ∙ ap is_whole e ∙ u))) (λ v. v)))
      ∙ read_held next xs (ap is_whole e ∙ u)
      ∙ ap (reading g k) e

  module _ (x : List ℕ) (r : is_record x ≡ true) where
    -- a part of it is held
    pub read_part : (h xs zs : List ℕ) → h ++ (xs ++ zs) ≡ x → 0 < length zs → (read journal (reading g k h) xs).kept ≡ reading g k (h ++ xs)
    unfolding read
    read_part h [] zs e p = ap (reading g k) (sym (append-nil h))
    read_part h (b ∷ xs) zs e p =
        let next : List ℕ = h ++ (b ∷ []) in
        let e' : next ++ (xs ++ zs) ≡ x = append_assoc h (b ∷ []) (xs ++ zs) ∙ e in
        let more : 0 < length (xs ++ zs) = omega (arith, length-append xs zs) in
        on h b xs
        ∙ ap (λ (s : Kept). (read journal s xs).kept) (held_on h next (unfinished x r next (xs ++ zs) e' more))
        ∙ read_part next xs zs e' p
        ∙ ap (reading g k) (append_assoc h (b ∷ []) xs)

    -- and it is judged with its last byte
    read_rest : (h xs : List ℕ) → h ++ xs ≡ x → 0 < length xs → (read journal (reading g k h) xs).kept ≡ (after_record g k x (judge_record g x)).kept
    unfolding read
    read_rest h [] e p = absurd (omega arith)
    read_rest h (b ∷ []) e p =
        on h b []
        ∙ judged_on h (h ++ (b ∷ [])) (ap is_whole e ∙ whole x r)
        ∙ ap (λ (y : List ℕ). (after_record g k y (judge_record g y)).kept) e
    read_rest h (b ∷ c ∷ xs) e p =
        let next : List ℕ = h ++ (b ∷ []) in
        let e' : next ++ (c ∷ xs) ≡ x = append_assoc h (b ∷ []) (c ∷ xs) ∙ e in
        on h b (c ∷ xs)
        ∙ ap (λ (s : Kept). (read journal s (c ∷ xs)).kept) (held_on h next (unfinished x r next (c ∷ xs) e' (omega arith)))
        ∙ read_rest next (c ∷ xs) e' (omega arith)

    -- no byte of it is left
    read_bytes : (h xs : List ℕ) → h ++ xs ≡ x → 0 < length xs → (read journal (reading g k h) xs).taken ≡ length xs
    unfolding read
    read_bytes h [] e p = absurd (omega arith)
    read_bytes h (b ∷ []) e p = takes h b []
    read_bytes h (b ∷ c ∷ xs) e p =
        let next : List ℕ = h ++ (b ∷ []) in
        let e' : next ++ (c ∷ xs) ≡ x = append_assoc h (b ∷ []) (c ∷ xs) ∙ e in
        takes h b (c ∷ xs)
        ∙ ap (λ (s : Kept). suc (read journal s (c ∷ xs)).taken) (held_on h next (unfinished x r next (c ∷ xs) e' (omega arith)))
        ∙ ap suc (read_bytes next (c ∷ xs) e' (omega arith))

    pub record_taken : (read journal (reading g k []) x).taken ≡ length x
    record_taken = read_bytes [] x refl (some_bytes x r)

    read_record : (read journal (reading g k []) x).kept ≡ (after_record g k x (judge_record g x)).kept
    read_record = read_rest [] x refl (some_bytes x r)

    pub read_good : (after : List ℕ) → judge_record g x ≡ good after → (read journal (reading g k []) x).kept ≡ reading after (k + length x) []
    unfolding after_record
    read_good after e = read_record ∙ ap (λ (j : Judged). (after_record g k x j).kept) e

    pub read_bad : (fault : Fault) → judge_record g x ≡ bad fault → (read journal (reading g k []) x).kept ≡ stopped g k fault
    unfolding after_record
    read_bad fault e = read_record ∙ ap (λ (j : Judged). (after_record g k x j).kept) e

-- ---- record after record

good_first : (g x : List ℕ) (records : List (List ℕ)) (last : List ℕ) → after_all g (x ∷ records) ≡ Some last
    → {P : Type 0} → ((after : List ℕ) → judge_record g x ≡ good after → after_all after records ≡ Some last → P) → P
unfolding after_all
good_first g x records last e {P} f = go (judge_record g x) refl
  where
    go : (j : Judged) → judge_record g x ≡ j → P
    go (good after) q = f after q (rw (q, after_all) at e)
    go (bad fault) q = absurd (some≢none last (sym (rw (q, after_all) at e)))

-- all of them
pub read_all : (g : List ℕ) (k : ℕ) (records : List (List ℕ)) (last : List ℕ) → all is_record records ≡ true → after_all g records ≡ Some last
    → (read journal (reading g k []) (flatten records)).kept ≡ reading last (k + length (flatten records)) []
unfolding flatten
read_all g k [] last r e = unfold read after_all in (let same : g ≡ last = cc in ap₂ (λ (a : List ℕ) (n : ℕ). reading a n []) same (omega arith))
read_all g k (x ∷ records) last r e =
    good_first g x records last e
    (λ after q rest.
    read_then (reading g k []) x (flatten records)
    ∙ ap (λ (s : Kept). (read journal s (flatten records)).kept) (read_good g k x (and_left _ _ r) after q)
    ∙ read_all after (k + length x) records last (and_right (is_record x) _ r) rest
    ∙ ap (λ (n : ℕ). reading last n []) (let n = length-append x (flatten records) in omega arith))

-- the first n bytes: what is read of them, from a registry g and k bytes before
pub record FirstBytes (g : List ℕ) (k n : ℕ) (records : List (List ℕ)) : Type 0 where
  pub after : List ℕ
  pub held : List ℕ
  pub replayed : after_all g (whole_in n records) ≡ Some after
  pub parts : take n (flatten records) ≡ flatten (whole_in n records) ++ held
  pub reads : (read journal (reading g k []) (take n (flatten records))).kept ≡ reading after (k + length (flatten (whole_in n records))) held

pub first_bytes : (g : List ℕ) (k n : ℕ) (records : List (List ℕ)) (last : List ℕ) → all is_record records ≡ true → after_all g records ≡ Some last → FirstBytes g k n records
unfolding flatten whole_in after_all
first_bytes g k n [] last r e = record {
  after = g;
  held = [];
  replayed = refl;
  parts = take-nil n;
  reads = ap (λ (l : List ℕ). (read journal (reading g k []) l).kept) (take-nil n) ∙ (unfold read in ap (λ (m : ℕ). reading g m []) (omega arith));
}
first_bytes g k n (x ∷ records) last r e = good_first g x records last e
    (λ after q rest. decide (leb (length x) n) (inside after q (first_bytes after (k + length x) (n - length x) records last (and_right (is_record x) _ r) rest)) (within))
  where
    record_x : is_record x ≡ true
    record_x = and_left _ _ r

    inside : (after : List ℕ) → judge_record g x ≡ good after → FirstBytes after (k + length x) (n - length x) records → leb (length x) n ≡ true → FirstBytes g k n (x ∷ records)
    inside after q ih t =
        let fits : length x ≤ n = leb-true _ _ t in
        let m : ℕ = n - length x in
        let ws : List (List ℕ) = whole_in m records in
        let whole_in : whole_in n (x ∷ records) ≡ x ∷ ws = rw (t, whole_in) in
        let front : take n (x ++ flatten records) ≡ x ++ take m (flatten records)
        = ap (λ (j : ℕ). take j (x ++ flatten records)) (let z : n ≡ length x + m = omega arith in z) ∙ take-append-add x (flatten records) m in
        record {
          after = ih.after;
          held = ih.held;
          replayed = rw whole_in (rw (q, after_all) ih.replayed);
          parts = rw whole_in (front ∙ ap (λ (l : List ℕ). x ++ l) ih.parts ∙ sym (append_assoc x (flatten ws) ih.held));
          reads = rw whole_in
              (ap (λ (l : List ℕ). (read journal (reading g k []) l).kept) front
              ∙ read_then (reading g k []) x (take m (flatten records))
              ∙ ap (λ (s : Kept). (read journal s (take m (flatten records))).kept) (read_good g k x record_x after q)
              ∙ ih.reads
              ∙ ap (λ (j : ℕ). reading ih.after j ih.held) (let z = length-append x (flatten ws) in omega arith));
        }

    within : leb (length x) n ≡ false → FirstBytes g k n (x ∷ records)
    within t =
        let short : n < length x = leb-false _ _ t in
        let whole_in : whole_in n (x ∷ records) ≡ [] = rw (t, whole_in) in
        let front : take n (x ++ flatten records) ≡ take n x = take-append-le n x (flatten records) (omega arith) in
        record {
          after = g;
          held = take n x;
          replayed = rw whole_in refl;
          parts = rw whole_in front;
          reads = rw whole_in
              (ap (λ (l : List ℕ). (read journal (reading g k []) l).kept) front
              ∙ read_part g k x record_x [] (take n x) (drop n x) (take-append-drop n x) (omega (arith, length-drop n x))
              ∙ ap (λ (j : ℕ). reading g j (take n x)) (omega arith));
        }
