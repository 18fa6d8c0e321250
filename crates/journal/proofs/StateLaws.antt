-- A state in memory, clause by clause, and written.
use Rattle.std.proofs.Common.{None, Ok, Err}
use mathlib.Core.Path.{◌≡◌, sym, ap, ◌∙◌}
use mathlib.Core.Bool.{Bool, true, false, not, and-true}
use mathlib.Core.List.{List, [], ◌∷◌, ◌++◌}
use Prim.Native.Nat.{ℕ, ◌+◌, ◌-◌, ◌≤◌, ◌<◌}
use native.Mathlib.Omega.{arith}
use borrow.Author.Tests.{le-leb, lt-leb, leb-true, eqb-true, eq-eqb, ne_eqb}
use borrow.Rule.Slice.PartMut.{put_mid}
use lib.ListN.{length, take, drop, get_or, set, replicate, drop_of_length-le, length-drop}
use lib.Dec.{leb, eqb}
use lib.Seq.{drop-drop}
use Rattle.wire.specs.Lists.{all, is_zero}
use Rattle.wire.specs.Numbers.{little_endian_of, field}
use Rattle.wire.proofs.TestLaws.{not_across, every_at}
use Rattle.wire.proofs.ListLaws.{drop_zeros}
use Rattle.wire.proofs.PutLaws.{length_put}
use Rattle.wire.proofs.BufferLaws.{put_mid_lem, lent}
use Rattle.journal.specs.declared.Progress.{Progress}
use Rattle.journal.specs.Compact.{front_most, file_most, is_begun_whole}
use Rattle.journal.specs.Memory.{kept_at, count_at, front_at, state_size, state_head, state_bytes, well_formed_state, fresh_state, begin_state}
use Rattle.journal.specs.declared.state.BeginRefusal.TheVariants.{WrongSize}
use Rattle.journal.specs.code.Done.{compact_with, progress_between}

-- ---- well formed or not

module _ (m : List ℕ) where
  abbrev kept : ℕ
  kept = field kept_at 8 m

  abbrev count : ℕ
  count = field count_at 8 m

  pub state_size_lem : (length m ≡ state_size → ⊥) → false ≡ well_formed_state m
  unfolding well_formed_state
  state_size_lem h = rw (ne_eqb (length m) state_size h)

  module _ (size : length m ≡ state_size) where
    pub state_fault : 3 < get_or m 0 0 → false ≡ well_formed_state m
    unfolding well_formed_state
    state_fault h = rw (eq-eqb (length m) state_size size, lt-leb (get_or m 0 0) 3 h)

    module _ (f : get_or m 0 0 ≤ 3) where
      pub state_far : file_most < kept + count → false ≡ well_formed_state m
      unfolding well_formed_state
      state_far h = rw (eq-eqb (length m) state_size size, le-leb (get_or m 0 0) 3 f, lt-leb (kept + count) file_most h)

      module _ (k : kept + count ≤ file_most) where
        pub state_whole : is_begun_whole count (drop front_at m) ≡ true → false ≡ well_formed_state m
        unfolding well_formed_state
        state_whole w = rw (eq-eqb (length m) state_size size, le-leb (get_or m 0 0) 3 f, le-leb (kept + count) file_most k, w)

        module _ (w : is_begun_whole count (drop front_at m) ≡ false) where
          pub state_zeros : all is_zero (drop (front_at + count) m) ≡ well_formed_state m
          unfolding well_formed_state
          state_zeros =
              rw (eq-eqb (length m) state_size size, le-leb (get_or m 0 0) 3 f, le-leb (kept + count) file_most k, w) (sym (and-true (all is_zero (drop (front_at + count) m))))

          pub state_full : front_most ≤ count → true ≡ well_formed_state m
          state_full h =
              let none : drop (front_at + count) m ≡ [] = drop_of_length-le m (let x : length m ≤ front_at + count = omega arith in x) in
              sym (ap (all is_zero) none) ∙ state_zeros

  -- what is told by a well-formed one
  pub record Told : Type 0 where
    pub size : length m ≡ state_size
    pub fault : get_or m 0 0 ≤ 3
    pub within : kept + count ≤ file_most
    pub begun : is_begun_whole count (drop front_at m) ≡ false
    pub zeros : all is_zero (drop (front_at + count) m) ≡ true

  pub told : well_formed_state m ≡ true → Told
  unfolding well_formed_state
  told e = record {
    size = eqb-true _ _ (every_at tests 0 e);
    fault = leb-true _ _ (every_at tests 1 e);
    within = leb-true _ _ (every_at tests 2 e);
    begun = not_across _ _ (every_at tests 3 e);
    zeros = every_at tests 4 e;
  }
    where
      tests : List Bool
      tests =
          eqb (length m) state_size
          ∷ leb (get_or m 0 0) 3
          ∷ leb (kept + count) file_most
          ∷ not (is_begun_whole count (drop front_at m))
          ∷ all is_zero (drop (front_at + count) m)
          ∷ []

-- ---- written

module _ (p : Progress) where
  abbrev head : List ℕ
  head = state_head p.fault p.kept p.count p.register

  -- part by part
  pub stored : (m : List ℕ) (code : ℕ) (kept count register : List ℕ) → length m ≡ state_size
      → code ≡ p.fault → kept ≡ little_endian_of 8 p.kept → count ≡ little_endian_of 8 p.count → register ≡ little_endian_of 4 p.register
      → put_mid 17 4 (put_mid 9 8 (put_mid 1 8 (set m 0 code) kept) count) register ≡ state_bytes (compact_with [] p (drop front_at m))
  unfolding state_bytes little_endian_of
  stored [] code kept count register size f k c r = absurd (let x : ⊥ = omega (arith, size) in x)
  stored (x ∷ m) code kept count register size f k c r =
      rw (f, k, c, r) (ap (λ (l : List ℕ). head ++ l) (ap (drop 4) (drop-drop 8 8 m) ∙ drop-drop 4 16 m))

-- ---- a fresh one

pub begun_not : (m : List ℕ) → (length m ≡ state_size → ⊥) → record { answer = Err WrongSize; state = m } ≡ begin_state m
unfolding begin_state
begun_not m h = rw (ne_eqb (length m) state_size h)

pub begun_fresh : (m cleared after : List ℕ) → length m ≡ state_size → cleared ≡ replicate (length m) 0
    → after ≡ state_bytes (compact_with [] (progress_between 0 0) (drop front_at cleared))
    → record { answer = Ok tt; state = after } ≡ begin_state m
unfolding begin_state fresh_state
begun_fresh m cleared after size c e =
    let front : drop front_at cleared ≡ replicate front_most 0
    = ap (drop front_at) (c ∙ ap (λ (n : ℕ). replicate n 0) size) ∙ drop_zeros front_at state_size in
    rw (eq-eqb (length m) state_size size)
    (ap (λ (l : List ℕ). record { answer = Ok tt; state = l })
    (e ∙ ap (λ (l : List ℕ). state_bytes (compact_with [] (progress_between 0 0) l)) front))

-- ---- the front, lent

module _ (m : List ℕ) (size : length m ≡ state_size) where
  pub front_long : length (take (length m - front_at) (drop front_at m)) ≡ front_most
  front_long = ap length (lent front_at m) ∙ length-drop front_at m ∙ (let x : length m - front_at ≡ front_most = omega arith in x)

  pub stored_long : (v : List ℕ) → length v ≡ front_most → length (put_mid front_at (length m - front_at) m v) ≡ state_size
  stored_long v long =
      ap length (put_mid_lem m v front_at (length m - front_at) (let x : length v ≡ length m - front_at = omega arith in x))
      ∙ length_put m front_at v (omega arith) ∙ size
