-- One byte of the compact reader, case by case.
use Rattle.std.proofs.Common.{Option, Some, None, Result, Ok, Err, refl}
use mathlib.Core.Path.{◌≡◌, sym, ap, ◌∙◌}
use mathlib.Core.Bool.{Bool, true, false, not}
use mathlib.Core.List.{List}
use Prim.Native.Nat.{ℕ, ◌+◌, ◌-◌, ◌≤◌, ◌<◌}
use native.Mathlib.Omega.{arith}
use borrow.Author.Tests.{le-leb, lt-leb, leb-false, le-ltb, lt-ltb, eq-eqb, ne_eqb}
use lib.ListN.{length, take, drop, get_or, set}
use lib.Dec.{leb, eqb}
use Rattle.wire.specs.Numbers.{field}
use Rattle.wire.proofs.NumberLaws.{field_byte}
use Rattle.wire.proofs.TestLaws.{or_right, either}
use Rattle.reading.specs.Reader.{Step}
use Rattle.records.specs.Records.{Record, record_in}
use Rattle.crc.specs.Crc.{shift_byte, residue}
use Rattle.journal.specs.declared.Fault.{Fault}
use Rattle.journal.specs.declared.Fault.TheVariants.{WrongCrc, WrongLayout, NotAllowed}
use Rattle.journal.specs.declared.Progress.{Progress}
use Rattle.journal.specs.Record.{Act, value_most, act_in}
use Rattle.journal.specs.Replay.{fault_number, Judged, good, bad, judge_act}
use Rattle.journal.specs.Compact.{front_most, file_most, Compact, between, front_then, with_byte, is_begun_whole, act_in_front, judge_begun, compact_record, compact_step, has_ended}
use Rattle.journal.specs.code.Done.{Left, left_by, fault_code, compact_with}

-- ---- whether the record is whole

pub begun_short : (count : ℕ) (front : List ℕ) → count < 3 → false ≡ is_begun_whole count front
unfolding is_begun_whole
begun_short count front h = rw (lt-leb 3 count h)

pub begun_told : (count : ℕ) (front : List ℕ) (n : ℕ) → 3 ≤ count → n ≡ field 1 2 front → leb (3 + n + 4) count ≡ is_begun_whole count front
unfolding is_begun_whole
begun_told count front n h e = rw (le-leb 3 count h) (ap (λ (k : ℕ). leb (3 + k + 4) count) e)

-- ---- a whole record, judged

module _ (g : List ℕ) (register : ℕ) (front : List ℕ) where
  abbrev judged : Left
  judged = left_by g (judge_begun g register front)

  pub judge_crc : (register ≡ residue → ⊥) → record { judged = Err WrongCrc; registry = g } ≡ judged
  unfolding judge_begun left_by
  judge_crc h = rw (ne_eqb register residue h)

  module _ (same : register ≡ residue) where
    judge_act_lem : judge_begun g register front ≡ judge_act g (act_in_front front)
    unfolding judge_begun
    judge_act_lem = rw (eq-eqb register residue same)

    pub judge_long : value_most < field 1 2 front → record { judged = Err WrongLayout; registry = g } ≡ judged
    unfolding left_by judge_act
    judge_long h =
        let n : act_in_front front ≡ None = (unfold act_in_front in rw (lt-ltb value_most (field 1 2 front) h)) in
        ap (λ (o : Option Act). left_by g (judge_act g o)) (sym n) ∙ ap (left_by g) (sym judge_act_lem)

    -- as the code finds tag and value
    pub judge_front : length front ≡ front_most → (n : ℕ) → n ≡ field 1 2 front → n ≤ value_most → (l : Left)
        → l ≡ left_by g (judge_act g (act_in (record { tag = get_or front 0 0; value = take (3 + n - 3) (drop 3 front) }))) → l ≡ judged
    judge_front long n e few l q =
        let short : field 1 2 front ≤ value_most = omega arith in
        let s : act_in_front front ≡ act_in (record_in front) = (unfold act_in_front in rw (le-ltb value_most (field 1 2 front) short)) in
        let size : 3 + n - 3 ≡ field 1 2 front = omega arith in
        let r : record { tag = get_or front 0 0; value = take (3 + n - 3) (drop 3 front) } ≡ record_in front
        = (λ i. record { tag = sym (field_byte 0 front (omega arith)) i; value = take (size i) (drop 3 front) }) in
        q ∙ ap (λ (x : Record). left_by g (judge_act g (act_in x))) r
        ∙ ap (λ (o : Option Act). left_by g (judge_act g o)) (sym s) ∙ ap (left_by g) (sym judge_act_lem)

module _ (s : Compact) where
  abbrev ended : Judged → Compact
  ended j = (compact_record s j).kept

  -- ---- a record's end, as the code has it

  abbrev pub ended_by : Result (Unit {0}) Fault → (registry : List ℕ) → Compact
  ended_by (Ok done) registry = between registry 0 (s.kept + s.count)
  ended_by (Err fault) registry = between registry (fault_number fault) s.kept

  judged_ended : (j : Judged) → ended_by (left_by s.registry j).judged (left_by s.registry j).registry ≡ ended j
  unfolding left_by compact_record
  judged_ended (good after) = refl
  judged_ended (bad fault) = refl

  pub record_ended : (j : Judged) (l : Left) → l ≡ left_by s.registry j → ended_by l.judged l.registry ≡ ended j
  record_ended j l e = ap (λ (x : Left). ended_by x.judged x.registry) e ∙ judged_ended j

-- ---- one byte more

pub front_past : (front : List ℕ) (count byte : ℕ) → front_most ≤ count → front ≡ front_then front count byte
unfolding front_then
front_past front count byte h = rw (le-ltb count front_most h)

pub front_set : (front : List ℕ) (count byte : ℕ) → count < front_most → set front count byte ≡ front_then front count byte
unfolding front_then
front_set front count byte h = rw (lt-ltb count front_most h)

-- as the code has it after a byte
module _ (g : List ℕ) (p : Progress) (front front' : List ℕ) (byte register : ℕ) (f : front' ≡ front_then front p.count byte) (r : register ≡ shift_byte p.register byte) where
  abbrev next : Progress
  next = record { fault = p.fault; kept = p.kept; count = p.count + 1; register = register }

  next_is : compact_with g next front' ≡ with_byte (compact_with g p front) byte
  unfolding with_byte
  next_is = λ i. record { registry = g; fault = p.fault; kept = p.kept; count = p.count + 1; register = r i; front = f i }

  step_on : (s : Compact) → is_begun_whole s.count s.front ≡ false → s ≡ (compact_step s).kept
  unfolding compact_step
  step_on s w = rw w

  step_ends : (s : Compact) → is_begun_whole s.count s.front ≡ true → compact_step s ≡ compact_record s (judge_begun s.registry s.register s.front)
  unfolding compact_step
  step_ends s w = rw w

  pub step_more : is_begun_whole (p.count + 1) front' ≡ false → compact_with g next front' ≡ (compact_step (with_byte (compact_with g p front) byte)).kept
  step_more w = step_on (compact_with g next front') w ∙ ap (λ (s : Compact). (compact_step s).kept) next_is

  pub step_whole : is_begun_whole (p.count + 1) front' ≡ true → (after : Compact)
      → after ≡ (compact_record (compact_with g next front') (judge_begun g register front')).kept
      → after ≡ (compact_step (with_byte (compact_with g p front) byte)).kept
  step_whole w after e =
      e ∙ ap (λ (t : Step Compact Fault). t.kept) (sym (step_ends (compact_with g next front') w)) ∙ ap (λ (s : Compact). (compact_step s).kept) next_is

-- ---- the end of the reader

pub ended_fault : (fault kept count : ℕ) → (fault ≡ 0 → ⊥) → true ≡ has_ended fault kept count
unfolding has_ended
ended_fault fault kept count h = rw (ne_eqb fault 0 h)

pub ended_most : (fault kept count : ℕ) → fault ≡ 0 → leb file_most (kept + count) ≡ has_ended fault kept count
unfolding has_ended
ended_most fault kept count h = rw (eq-eqb fault 0 h)

pub ended_some : (fault : Fault) (kept count : ℕ) → has_ended (fault_code (Some fault)) kept count ≡ true
unfolding has_ended fault_code fault_number
ended_some WrongCrc kept count = refl
ended_some WrongLayout kept count = refl
ended_some NotAllowed kept count = refl

pub not_ended : (fault kept count : ℕ) → has_ended fault kept count ≡ false → kept + count < file_most
unfolding has_ended
not_ended fault kept count e = leb-false file_most (kept + count) (or_right (not (eqb fault 0)) _ e)

-- a byte more is within the longest file
pub step_within : (s : Compact) (byte : ℕ) → s.kept + s.count < file_most
    → (let t : Compact = (compact_step (with_byte s byte)).kept in t.kept + t.count ≤ file_most)
unfolding compact_step with_byte
step_within s byte h =
    either (λ (t : Step Compact Fault). t.kept.kept + t.kept.count ≤ file_most) (is_begun_whole (s.count + 1) (front_then s.front s.count byte))
    (λ _. by_judged (judge_begun s.registry (shift_byte s.register byte) (front_then s.front s.count byte))) (λ _. omega arith)
  where
    by_judged : (j : Judged) → (let t : Compact = (compact_record (with_byte s byte) j).kept in t.kept + t.count ≤ file_most)
    by_judged (good after) = unfold compact_record in omega arith
    by_judged (bad fault) = unfold compact_record in omega arith
