-- The journal's reader in lent memory: what a call can meet, stored and loaded, and what the cut theorem asks for.
use Rattle.std.proofs.Common.{None}
use mathlib.Core.Path.{◌≡◌, refl, sym, ap, ap₂, ◌∙◌}
use mathlib.Core.Bool.{true, false, not}
use mathlib.Core.List.{List, [], ◌∷◌, ◌++◌}
use Prim.Native.Nat.{ℕ, zero, suc, ◌+◌, ◌-◌, ◌≤◌, ◌<◌}
use native.Mathlib.Omega.{arith}
use lib.ListN.{length, drop, get_or, set, replicate, length-replicate, length-set, length-drop}
use lib.Seq.{drop-drop}
use lib.Dec.{ltb, eqb}
use Rattle.wire.specs.Choice.{first_of}
use Rattle.wire.specs.Lists.{all, is_zero}
use Rattle.wire.specs.Numbers.{little_endian_of, field}
use Rattle.wire.proofs.TestLaws.{either}
use Rattle.wire.proofs.ListLaws.{all_drop, all_zeros}
use Rattle.wire.proofs.NumberLaws.{field_back}
use Rattle.registry.specs.WellFormed.{well_formed_registry}
use Rattle.reading.specs.Reader.{Step}
use Rattle.reading.specs.Claims.{Sound}
use Rattle.crc.specs.Crc.{shift_byte, residue}
use Rattle.journal.specs.declared.Fault.{Fault}
use Rattle.journal.specs.declared.Fault.TheVariants.{WrongCrc, WrongLayout, NotAllowed}
use Rattle.journal.specs.Replay.{fault_number, Judged, good, bad}
use Rattle.journal.specs.Compact.{front_most, file_most, Compact, between, front_then, with_byte, is_begun_whole, judge_begun, compact_record, compact_step, has_ended, compact_journal}
use Rattle.journal.specs.Memory.{kept_at, count_at, register_at, front_at, state_size, state_bytes, compact_in, well_formed_state, read_refusal, journal_layout, refusal}
use Rattle.journal.proofs.KeptLaws.{GoodIf, act_good}
use Rattle.journal.proofs.StepLaws.{begun_short, not_ended}
use Rattle.journal.proofs.StateLaws.{state_zeros, told}

-- ---- what a call can meet

pub record Reachable (s : Compact) : Type 0 where
  pub fault : s.fault ≤ 3
  pub within : s.kept + s.count ≤ file_most
  pub begun : is_begun_whole s.count s.front ≡ false
  pub long : length s.front ≡ front_most
  pub zeros : all is_zero (drop s.count s.front) ≡ true
  pub good : well_formed_registry s.registry ≡ true

fault_small : (fault : Fault) → fault_number fault ≤ 3
unfolding fault_number
fault_small WrongCrc = omega arith
fault_small WrongLayout = omega arith
fault_small NotAllowed = omega arith

between_reachable : (g : List ℕ) (fault kept : ℕ) → fault ≤ 3 → kept ≤ file_most → well_formed_registry g ≡ true → Reachable (between g fault kept)
between_reachable g fault kept f k w = record {
  fault = f;
  within = omega arith;
  begun = sym (begun_short 0 (replicate front_most 0) (omega arith));
  long = length-replicate {A = ℕ} front_most 0;
  zeros = all_zeros front_most;
  good = w;
}

drop_set : (l : List ℕ) (i b : ℕ) → drop (suc i) (set l i b) ≡ drop (suc i) l
drop_set [] i b = refl
drop_set (x ∷ l) zero b = refl
drop_set (x ∷ l) (suc i) b = drop_set l i b

module _ (s : Compact) (b : ℕ) (r : Reachable s) (e : has_ended s.fault s.kept s.count ≡ false) where
  abbrev t : Compact
  t = with_byte s b

  below : s.kept + s.count < file_most
  below = not_ended s.fault s.kept s.count e

  front_long : length (front_then s.front s.count b) ≡ front_most
  unfolding front_then
  front_long = either (λ (l : List ℕ). length l ≡ front_most) (ltb s.count front_most) (λ _. length-set s.front s.count b ∙ r.long) (λ _. r.long)

  next_zeros : all is_zero (drop (suc s.count) s.front) ≡ true
  next_zeros = ap (λ (n : ℕ). all is_zero (drop n s.front)) (let z : suc s.count ≡ s.count + 1 = omega arith in z) ∙ ap (all is_zero) (sym (drop-drop 1 s.count s.front)) ∙ all_drop is_zero 1 (drop s.count s.front) r.zeros

  front_zeros : all is_zero (drop (s.count + 1) (front_then s.front s.count b)) ≡ true
  unfolding front_then
  front_zeros =
      ap (λ (n : ℕ). all is_zero (drop n (front_then s.front s.count b))) (let z : s.count + 1 ≡ suc s.count = omega arith in z)
      ∙ either (λ (l : List ℕ). all is_zero (drop (suc s.count) l) ≡ true) (ltb s.count front_most)
      (λ _. ap (all is_zero) (drop_set s.front s.count b) ∙ next_zeros) (λ _. next_zeros)

  judged_good : GoodIf (judge_begun s.registry (shift_byte s.register b) (front_then s.front s.count b))
  unfolding judge_begun
  judged_good = either GoodIf (not (eqb (shift_byte s.register b) residue)) (λ _. unfold GoodIf in tt) (λ _. act_good s.registry r.good _)

  record_reachable : (j : Judged) → GoodIf j → Reachable (compact_record t j).kept
  unfolding compact_record GoodIf with_byte
  record_reachable (good after) ok = between_reachable after 0 (s.kept + (s.count + 1)) (omega arith) (omega (arith, below)) ok
  record_reachable (bad fault) ok = between_reachable s.registry (fault_number fault) s.kept (fault_small fault) (omega (arith, below)) r.good

  pub goes_on : Reachable (compact_step t).kept
  unfolding compact_step with_byte
  goes_on =
      either (λ (x : Step Compact Fault). Reachable x.kept) (is_begun_whole (s.count + 1) (front_then s.front s.count b))
      (λ _. record_reachable (judge_begun s.registry (shift_byte s.register b) (front_then s.front s.count b)) judged_good)
      (λ u. record { fault = r.fault; within = omega (arith, below); begun = u; long = front_long; zeros = front_zeros; good = r.good })

-- ---- a state that is stored and loaded again

module _ (s : Compact) where
  abbrev bytes : List ℕ
  bytes = state_bytes s

  from_kept : drop kept_at bytes ≡ little_endian_of 8 s.kept ++ (little_endian_of 8 s.count ++ (little_endian_of 4 s.register ++ s.front))
  unfolding state_bytes little_endian_of
  from_kept = refl

  from_count : drop count_at bytes ≡ little_endian_of 8 s.count ++ (little_endian_of 4 s.register ++ s.front)
  unfolding state_bytes little_endian_of
  from_count = refl

  from_register : drop register_at bytes ≡ little_endian_of 4 s.register ++ s.front
  unfolding state_bytes little_endian_of
  from_register = refl

  from_front : drop front_at bytes ≡ s.front
  unfolding state_bytes little_endian_of
  from_front = refl

  fault_back : get_or bytes 0 0 ≡ s.fault
  unfolding state_bytes
  fault_back = refl

  kept_back : field kept_at 8 bytes ≡ s.kept
  kept_back = field_back kept_at 7 s.kept bytes _ from_kept

  count_back : field count_at 8 bytes ≡ s.count
  count_back = field_back count_at 7 s.count bytes _ from_count

  pub state_back : compact_in s.registry bytes ≡ s
  unfolding compact_in
  state_back = λ i. record {
    registry = s.registry;
    fault = fault_back i;
    kept = kept_back i;
    count = count_back i;
    register = field_back register_at 3 s.register bytes s.front from_register i;
    front = from_front i;
  }

  state_long : length s.front ≡ front_most → length bytes ≡ state_size
  unfolding state_bytes little_endian_of
  state_long h = omega (arith, h)

  pub state_good : Reachable s → well_formed_state bytes ≡ true
  state_good r =
      sym (state_zeros bytes (state_long r.long) (omega (arith, fault_back, r.fault)) (omega (arith, kept_back, count_back, r.within))
      (ap₂ is_begun_whole count_back from_front ∙ r.begun))
      ∙ ap (λ (n : ℕ). all is_zero (drop (front_at + n) bytes)) count_back
      ∙ ap (all is_zero) (sym (drop_drop_front s.count) ∙ ap (drop s.count) from_front)
      ∙ r.zeros
    where
      drop_drop_front : (n : ℕ) → drop n (drop front_at bytes) ≡ drop (front_at + n) bytes
      drop_drop_front n = drop-drop n front_at bytes

-- ---- what the cut theorem asks of a reader

pub accepted : (s : Compact) → Reachable s → read_refusal s.registry (state_bytes s) ≡ None
unfolding read_refusal first_of
accepted s r = rw (r.good, state_good s r)

pub sound : (registry : List ℕ) → well_formed_registry registry ≡ true → Sound compact_journal (between registry 0 0) journal_layout refusal (λ _. true) Reachable
sound registry w = record {
  begins = between_reachable registry 0 0 (omega arith) (omega arith) w;
  goes_on = λ s b r e. goes_on s b r e;
  loads = λ s r. state_back s;
  accepts = λ s call r _. accepted s r;
}

-- ---- a well-formed memory holds a state that a call can meet

pub reachable_in : (registry state : List ℕ) → well_formed_registry registry ≡ true → well_formed_state state ≡ true → Reachable (compact_in registry state)
unfolding compact_in
reachable_in registry state w e =
    let t = told state e in
    let n : ℕ = field count_at 8 state in
    record {
      fault = t.fault;
      within = t.within;
      begun = t.begun;
      long = length-drop front_at state ∙ (let x : length state - front_at ≡ front_most = omega (arith, t.size) in x);
      zeros = ap (all is_zero) (drop-drop n front_at state) ∙ t.zeros;
      good = w;
    }
