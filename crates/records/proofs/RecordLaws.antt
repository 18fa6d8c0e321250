-- Laws of a file of records: when one is whole, the plain equations of `read_records`, what holds of every state that is reached,
-- and a file behind another.
use mathlib.Core.Path.{◌≡◌, refl, sym, ap, ap₂, ◌∙◌}
use mathlib.Core.Bool.{Bool, true, false, not, ◌||◌}
use mathlib.Core.List.{List, [], ◌∷◌, ◌++◌}
use Prim.Native.Nat.{ℕ, zero, suc, ◌+◌, ◌-◌, ◌≤◌, ◌<◌}
use native.Mathlib.Omega.{arith}
use native.Mathlib.Decide.{dec_lt}
use borrow.Author.Tests.{lt-ltb, le-ltb, lt-leb, le-leb, ltb-false, not-true}
use lib.Dec.{ltb, leb}
use lib.ListN.{length, take, drop, length-append, length-drop}
use lib.Seq.{drop-drop, drop-append-le, take-append_seam, length-take-le}
use Rattle.wire.specs.Choice.{when◌then◌else◌}
use Rattle.wire.specs.Numbers.{field}
use Rattle.wire.specs.Scan.{Turn, out, follow, scan_from, scan_at}
use Rattle.wire.proofs.TestLaws.{or_right}
use Rattle.wire.proofs.ListLaws.{part_of_part}
use Rattle.wire.proofs.NumberLaws.{field_append}
use Rattle.wire.proofs.ScanLaws.{TurnAhead, TurnHas, scan_end, scan_on, scan-has}
use Rattle.records.specs.Records.{Record, record_length, value_in, record_in, is_whole, Step, next, stop, turn_by, record_turn, read_records}

-- ---- a whole record

not_ltb : (m n : ℕ) → not (ltb m n) ≡ leb n m
not_ltb m n =
    elim (dec_lt m n) [
      | yes l ↦ rw (lt-ltb m n l, lt-leb n m l)
      | no l ↦ let h : n ≤ m = omega arith in rw (le-ltb m n h, le-leb n m h)
    ]

module _ (bytes : List ℕ) where
  pub whole_short : length bytes < 3 → is_whole bytes ≡ false
  unfolding is_whole
  whole_short h = rw (lt-ltb _ _ h)

  pub whole_fit : record_length bytes ≤ length bytes → is_whole bytes ≡ true
  unfolding is_whole
  whole_fit h =
      let three : 3 ≤ length bytes = omega arith in
      rw (le-ltb _ _ three, le-ltb _ _ h)

  pub whole_tested : 3 ≤ length bytes → is_whole bytes ≡ leb (record_length bytes) (length bytes)
  unfolding is_whole
  whole_tested h = rw (le-ltb _ _ h) (not_ltb (length bytes) (record_length bytes))

  pub whole_room : is_whole bytes ≡ true → record_length bytes ≤ length bytes
  unfolding is_whole
  whole_room e =
      let short : Bool = ltb (length bytes) 3 in
      let cut : Bool = ltb (length bytes) (record_length bytes) in
      ltb-false _ _ (or_right short cut (not-true (short || cut) e))

pub value_length : (bytes : List ℕ) → is_whole bytes ≡ true → length (value_in bytes) ≡ field 1 2 bytes
value_length bytes e = length-take-le (field 1 2 bytes) (drop 3 bytes) (omega (arith, whole_room bytes e, length-drop 3 bytes))

-- a record that ends within x is as long by x alone
pub room_front : (x rest : List ℕ) → record_length (x ++ rest) ≤ length x → record_length x ≤ length x
room_front x rest h = omega (arith, h, field_append 1 2 x rest (omega (arith, h)))

-- bytes behind a whole record do not matter to it
module _ (x rest : List ℕ) (room : record_length x ≤ length x) where
  pub size_append : field 1 2 (x ++ rest) ≡ field 1 2 x
  size_append = field_append 1 2 x rest (omega arith)

  pub record_append : record_in (x ++ rest) ≡ record_in x
  record_append =
      let value : value_in (x ++ rest) ≡ value_in x
      = ap (λ (n : ℕ). take n (drop 3 (x ++ rest))) size_append
      ∙ sym (part_of_part (field 1 2 x) 3 (length x) (x ++ rest) room)
      ∙ ap (λ (l : List ℕ). take (field 1 2 x) (drop 3 l)) (take-append_seam x rest) in
      let tag : field 0 1 (x ++ rest) ≡ field 0 1 x = field_append 0 1 x rest (omega arith) in
      λ i. record { tag = tag i; value = value i }

  pub whole_append : is_whole (x ++ rest) ≡ true
  whole_append = whole_fit (x ++ rest) (omega (arith, size_append, length-append x rest))

-- ---- the equations of `read_records`

abbrev pub after_step : {S A : Type 0} → Step S A → (S → A) → A
after_step (next state) rest = rest state
after_step (stop answer) rest = answer

-- what a step leaves has P of the state, or Q of the answer
abbrev pub StepHas : {S A : Type 0} → (S → Type 0) → (A → Type 0) → Step S A → Type 0
StepHas P Q (next state) = P state
StepHas P Q (stop answer) = Q answer

module _ {S A : Type 0} (cut : A) (step : S → Record → Step S A) (done : S → A) where
  abbrev turn : (file : List ℕ) → ℕ → S → Turn S A
  turn file at state = record_turn cut step state at (drop at file)

  by_ahead : (at n : ℕ) (t : Step S A) → TurnAhead at (turn_by t (at + (3 + n)))
  by_ahead at n (next state) = omega arith
  by_ahead at n (stop answer) = tt

  turn_ahead : (file : List ℕ) (at : ℕ) (state : S) → TurnAhead at (turn file at state)
  unfolding record_turn
  turn_ahead file at state = go (is_whole (drop at file))
    where
      go : (t : Bool) → TurnAhead at (when t then turn_by (step state (record_in (drop at file))) (at + record_length (drop at file)) else out cut)
      go true = by_ahead at (field 1 2 (drop at file)) (step state (record_in (drop at file)))
      go false = tt

  pub records_empty : (state : S) → read_records cut step done [] state ≡ done state
  unfolding read_records
  records_empty state = scan_end (turn []) done 0 0 state (omega arith)

  -- the rest of a file, read as a file
  module _ (file : List ℕ) (k : ℕ) where
    by_rest : (f g : ℕ → S → A) → ((at : ℕ) (state : S) → f (k + at) state ≡ g at state) → (t : Step S A) (p q : ℕ) → p ≡ k + q → follow (turn_by t p) f ≡ follow (turn_by t q) g
    by_rest f g ih (next state) p q e = ap (λ (at : ℕ). f at state) e ∙ ih q state
    by_rest f g ih (stop answer) p q e = refl

    turn_rest : (f g : ℕ → S → A) → ((at : ℕ) (state : S) → f (k + at) state ≡ g at state) → (at : ℕ) (state : S)
        → follow (turn file (k + at) state) f ≡ follow (turn (drop k file) at state) g
    unfolding record_turn
    turn_rest f g ih at state =
        ap (λ (x : List ℕ). follow (record_turn cut step state (k + at) x) f) (sym (drop-drop at k file))
        ∙ go (drop at (drop k file)) (is_whole (drop at (drop k file)))
      where
        go : (x : List ℕ) (t : Bool)
            → follow (when t then turn_by (step state (record_in x)) (k + at + record_length x) else out cut) f
            ≡ follow (when t then turn_by (step state (record_in x)) (at + record_length x) else out cut) g
        go x true = by_rest f g ih (step state (record_in x)) (k + at + record_length x) (at + record_length x) (omega arith)
        go x false = refl

    test_rest : (at : ℕ) → ltb (k + at) (length file) ≡ ltb at (length (drop k file))
    test_rest at =
        let d = length-drop k file in
        elim (dec_lt (k + at) (length file)) [
          | yes l ↦ lt-ltb _ _ l ∙ sym (lt-ltb at (length (drop k file)) (omega arith))
          | no l ↦ le-ltb (k + at) (length file) (omega arith) ∙ sym (le-ltb at (length (drop k file)) (omega arith))
        ]

    from_rest : (n at : ℕ) (state : S) → scan_from (turn file) done (length file) n (k + at) state ≡ scan_from (turn (drop k file)) done (length (drop k file)) n at state
    unfolding scan_from
    from_rest zero at state = refl
    from_rest (suc n) at state =
        ap₂ (λ (t : Bool) (a : A). when t then a else done state) (test_rest at)
        (turn_rest (scan_from (turn file) done (length file) n) (scan_from (turn (drop k file)) done (length (drop k file)) n) (λ at' state'. from_rest n at' state') at state)

    scan_rest : (state : S) → scan_at (turn file) done (length file) k state ≡ read_records cut step done (drop k file) state
    unfolding scan_at read_records
    scan_rest state =
        let n : length file - k ≡ length (drop k file) - 0 = omega (arith, length-drop k file) in
        let e : k ≡ k + 0 = omega arith in
        ap₂ (λ (fuel at : ℕ). scan_from (turn file) done (length file) fuel at state) n e ∙ from_rest (length (drop k file) - 0) 0 state

  module _ (file : List ℕ) (state : S) where
    first : 0 < length file → read_records cut step done file state ≡ follow (turn file 0 state) (scan_at (turn file) done (length file))
    unfolding read_records
    first h = scan_on (turn file) done (length file) (turn_ahead file) 0 state h

    pub records_cut : 0 < length file → is_whole file ≡ false → read_records cut step done file state ≡ cut
    unfolding record_turn
    records_cut h e = first h ∙ rw (record_turn, e)

    on_by : (t : Step S A) (k n : ℕ) → k ≡ n
        → follow (turn_by t k) (scan_at (turn file) done (length file)) ≡ after_step t (read_records cut step done (drop n file))
    on_by (next state') k n e = ap (λ (at : ℕ). scan_at (turn file) done (length file) at state') e ∙ scan_rest file n state'
    on_by (stop answer) k n e = refl

    pub records_on : is_whole file ≡ true
        → read_records cut step done file state ≡ after_step (step state (record_in file)) (read_records cut step done (drop (record_length file) file))
    unfolding record_turn
    records_on e =
        first (omega (arith, whole_room file e))
        ∙ rw (record_turn, e) (on_by (step state (record_in file)) (0 + record_length file) (record_length file) (omega arith))

  -- what holds of the state at each record, and of each answer, holds of the file's
  module _ (P : S → Type 0) (Q : A → Type 0) (none : Q cut) (end : (state : S) → P state → Q (done state)) (more : (state : S) (r : Record) → P state → StepHas P Q (step state r)) where
    turn_has : (file : List ℕ) (at : ℕ) (state : S) → P state → TurnHas (λ at state. P state) Q (turn file at state)
    unfolding record_turn
    turn_has file at state h = go (is_whole (drop at file))
      where
        by : (t : Step S A) (n : ℕ) → StepHas P Q t → TurnHas (λ at state. P state) Q (turn_by t n)
        by (next state') n g = g
        by (stop answer) n g = g

        go : (t : Bool) → TurnHas (λ at state. P state) Q (when t then turn_by (step state (record_in (drop at file))) (at + record_length (drop at file)) else out cut)
        go true = by (step state (record_in (drop at file))) (at + record_length (drop at file)) (more state (record_in (drop at file)) h)
        go false = none

    pub records_have : (file : List ℕ) (state : S) → P state → Q (read_records cut step done file state)
    unfolding read_records
    records_have file state h = scan-has (turn file) done (length file) (λ at state. P state) Q (λ at state g. end state g) (turn_has file) 0 state h

  -- a file behind another: where the first one's answer tells its last state, the second is read from there
  module _ (answer : A) (last : S) (whole : cut ≡ answer → ⊥) (told : (state : S) → done state ≡ answer → state ≡ last) (goes : (state : S) (r : Record) → step state r ≡ stop answer → ⊥) where
    module _ (x y : List ℕ) (state : S) (long : 0 < length x)
        (shorter : (z : List ℕ) (state' : S) → length z < length x → read_records cut step done z state' ≡ answer → read_records cut step done (z ++ y) state' ≡ read_records cut step done y last)
        (e : read_records cut step done x state ≡ answer) where
      append_by : is_whole x ≡ true → (t : Step S A) → step state (record_in x) ≡ t
          → after_step t (read_records cut step done (drop (record_length x) x ++ y)) ≡ read_records cut step done y last
      append_by w (stop a) s =
          let q : a ≡ answer = sym (records_on x state w ∙ rw s) ∙ e in
          absurd (goes state (record_in x) (s ∙ ap stop q))
      append_by w (next state') s =
          shorter (drop (record_length x) x) state' (omega (arith, long, length-drop (record_length x) x)) (sym (records_on x state w ∙ rw s) ∙ e)

      append_step : read_records cut step done (x ++ y) state ≡ read_records cut step done y last
      append_step = go (is_whole x) refl
        where
          go : (t : Bool) → is_whole x ≡ t → read_records cut step done (x ++ y) state ≡ read_records cut step done y last
          go false w = absurd (whole (sym (records_cut x state long w) ∙ e))
          go true w =
              let room = whole_room x w in
              let rest : drop (record_length (x ++ y)) (x ++ y) ≡ drop (record_length x) x ++ y
              = ap (λ (k : ℕ). drop (3 + k) (x ++ y)) (size_append x y room) ∙ drop-append-le (record_length x) x y room in
              records_on (x ++ y) state (whole_append x y room)
              ∙ ap₂ (λ (r : Record) (l : List ℕ). after_step (step state r) (read_records cut step done l)) (record_append x y room) rest
              ∙ append_by w (step state (record_in x)) refl

    append_empty : (x y : List ℕ) (state : S) → length x ≤ 0 → read_records cut step done x state ≡ answer
        → read_records cut step done (x ++ y) state ≡ read_records cut step done y last
    append_empty [] y state h e = ap (read_records cut step done y) (told state (sym (records_empty state) ∙ e))
    append_empty (b ∷ x) y state h e = absurd (omega arith)

    append_within : (n : ℕ) (x y : List ℕ) (state : S) → length x ≤ n → read_records cut step done x state ≡ answer
        → read_records cut step done (x ++ y) state ≡ read_records cut step done y last
    append_within zero x y state h e = append_empty x y state h e
    append_within (suc n) x y state h e =
        elim (dec_lt 0 (length x)) [
          | yes l ↦ append_step x y state l (λ z state' less f. append_within n z y state' (omega arith) f) e
          | no l ↦ append_empty x y state (omega arith) e
        ]

    pub records_append : (x y : List ℕ) (state : S) → read_records cut step done x state ≡ answer
        → read_records cut step done (x ++ y) state ≡ read_records cut step done y last
    records_append x y state e = append_within (length x) x y state (omega arith) e
