-- A chunk read byte by byte: what the rest gives is what the whole gives.
use mathlib.Core.Path.{◌≡◌, refl, sym, ap, ◌∙◌}
use mathlib.Core.Bool.{true, false}
use mathlib.Core.List.{List, [], ◌∷◌}
use Prim.Native.Nat.{ℕ, suc, ◌+◌, ◌≤◌, ◌<◌}
use native.Mathlib.Omega.{arith}
use native.Mathlib.Nat.{zero-add}
use native.Mathlib.Numerals.{add-one}
use lib.ListN.{length, drop, get_or, drop_of_length-le}
use lib.Seq.{drop-cons}
use Rattle.reading.specs.Reader.{Reading, read}
use Rattle.reading.proofs.ReaderLaws.{read_byte, read_past}
use Rattle.journal.specs.declared.Fault.{Fault}
use Rattle.journal.specs.Compact.{file_most, Compact, with_byte, compact_step, has_ended, compact_journal}
use Rattle.journal.proofs.StepLaws.{not_ended, step_within}

module _ (s₀ : Compact) (chunk : List ℕ) where
  abbrev whole : Reading Compact Fault
  whole = read compact_journal s₀ chunk

  -- i bytes of the chunk are taken, and s is kept
  pub record Part (s : Compact) (i : ℕ) : Type 0 where
    pub left : i ≤ length chunk
    pub within : s.kept + s.count ≤ file_most
    pub kept_is : (read compact_journal s (drop i chunk)).kept ≡ whole.kept
    pub taken_is : i + (read compact_journal s (drop i chunk)).taken ≡ whole.taken

  pub part_none : s₀.kept + s₀.count ≤ file_most → Part s₀ 0
  part_none h = record { left = omega arith; within = h; kept_is = refl; taken_is = zero-add whole.taken }

  module _ (s : Compact) (i : ℕ) (p : Part s i) where
    pub part_again : i < length chunk → has_ended s.fault s.kept s.count ≡ false → (after : Compact)
        → after ≡ (compact_step (with_byte s (get_or chunk i 0))).kept → Part after (i + 1)
    part_again more e after q =
        let b : ℕ = get_or chunk i 0 in
        let on : drop i chunk ≡ b ∷ drop (i + 1) chunk = drop-cons chunk i 0 more ∙ ap (λ (n : ℕ). b ∷ drop n chunk) (sym (add-one i)) in
        let reads = ap (read compact_journal s) on ∙ read_byte compact_journal s b (drop (i + 1) chunk) e in
        let same : read compact_journal after (drop (i + 1) chunk) ≡ read compact_journal (compact_step (with_byte s b)).kept (drop (i + 1) chunk)
        = ap (λ (t : Compact). read compact_journal t (drop (i + 1) chunk)) q in
        let t : (read compact_journal s (drop i chunk)).taken ≡ suc (read compact_journal (compact_step (with_byte s b)).kept (drop (i + 1) chunk)).taken
        = ap (λ (a : Reading Compact Fault). a.taken) reads in
        record {
          left = omega arith;
          within = (let w = step_within s b (not_ended s.fault s.kept s.count e) in omega (arith, ap (λ (t : Compact). t.kept + t.count) q));
          kept_is = ap (λ (a : Reading Compact Fault). a.kept) same ∙ sym (ap (λ (a : Reading Compact Fault). a.kept) reads) ∙ p.kept_is;
          taken_is = omega (arith, t, ap (λ (a : Reading Compact Fault). a.taken) same, p.taken_is);
        }

    pub part_ended : has_ended s.fault s.kept s.count ≡ true → (s ≡ whole.kept) × (i ≡ whole.taken)
    part_ended e =
        let past = read_past compact_journal s (drop i chunk) e in
        (sym (ap (λ (a : Reading Compact Fault). a.kept) past) ∙ p.kept_is, omega (arith, ap (λ (a : Reading Compact Fault). a.taken) past, p.taken_is))

    pub part_end : length chunk ≤ i → (s ≡ whole.kept) × (length chunk ≡ whole.taken)
    unfolding read
    part_end h =
        let none : drop i chunk ≡ [] = drop_of_length-le chunk h in
        (sym (ap (λ (l : List ℕ). (read compact_journal s l).kept) none) ∙ p.kept_is, omega (arith, ap (λ (l : List ℕ). (read compact_journal s l).taken) none, p.taken_is, p.left))
