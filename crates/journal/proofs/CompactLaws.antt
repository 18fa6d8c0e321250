-- THE COMPACT READER READS AS THE READER DOES, of a file of bytes that is no longer than the longest: it takes as many bytes, brings
-- the same events, and keeps what stands for what the reader keeps.
use Rattle.std.proofs.Common.{Option, Some, None, is_some}
use mathlib.Core.Path.{◌≡◌, refl, sym, ap, ap₂, ◌∙◌}
use mathlib.Core.Bool.{Bool, true, false, not, ◌&&◌}
use mathlib.Core.List.{List, [], ◌∷◌, ◌++◌, append_assoc}
use Prim.Native.Nat.{ℕ, suc, ◌+◌, ◌-◌, ◌≤◌, ◌<◌, min}
use native.Mathlib.Omega.{arith}
use borrow.Author.Tests.{lt-leb, leb-true, leb-false, lt-ltb, ltb-true, ltb-false}
use lib.ListN.{length, take, drop, set, replicate, length-append, length-take, length-drop, take-append-drop}
use lib.Seq.{take_all, take-append-le, drop-append-le}
use lib.Dec.{leb, ltb, eqb}
use Rattle.wire.specs.Choice.{when◌then◌else◌}
use Rattle.wire.specs.Lists.{all, padded}
use Rattle.wire.specs.Numbers.{little_endian, field}
use Rattle.wire.proofs.TestLaws.{and_left, and_right, either}
use Rattle.wire.proofs.ListLaws.{part_of_part, length_part, all_append, all_take, all_drop}
use Rattle.wire.proofs.NumberLaws.{is_byte, field_append}
use Rattle.reading.specs.Reader.{Step, Reading, with_event, read}
use Rattle.reading.proofs.ReaderLaws.{decide, read_byte, read_past}
use Rattle.records.specs.Records.{record_length, value_in, record_in}
use Rattle.crc.specs.Crc.{all_ones, shift_byte, register_after, crc32, residue}
use Rattle.crc.proofs.ResidueLaws.{register_append, residue_tells}
use Rattle.journal.specs.declared.Fault.{Fault}
use Rattle.journal.specs.declared.Fault.TheVariants.{WrongCrc}
use Rattle.journal.specs.Record.{Act, sealed_length, is_whole, value_most, act_in}
use Rattle.journal.specs.Replay.{Judged, good, bad, judge_act, judge_record}
use Rattle.journal.specs.Reader.{Kept, reading, after_record, after_byte, journal, read_journal}
use Rattle.journal.specs.Compact.{front_most, file_most, Compact, between, front_then, with_byte, is_begun_whole, act_in_front, judge_begun, compact_record, compact_step, has_ended, compact_journal}
use Rattle.journal.specs.code.Done.{fault_code}
use Rattle.journal.proofs.StepLaws.{ended_some}

-- ---- what stands for what the reader keeps

-- a record begun with these bytes
abbrev pub begun_with : (registry : List ℕ) (fault kept : ℕ) (held : List ℕ) → Compact
begun_with registry fault kept held = record {
  registry = registry;
  fault = fault;
  kept = kept;
  count = length held;
  register = register_after all_ones held;
  front = padded front_most (take front_most held);
}

abbrev pub compact_of : Kept → Compact
compact_of s = begun_with s.registry (fault_code s.fault) s.kept s.held

-- ---- the front

set_behind : (h ys : List ℕ) (x b : ℕ) → set (h ++ (x ∷ ys)) (length h) b ≡ h ++ (b ∷ ys)
set_behind [] ys x b = refl
set_behind (y ∷ h) ys x b = ap (λ (l : List ℕ). y ∷ l) (set_behind h ys x b)

module _ (h : List ℕ) where
  abbrev front : List ℕ
  front = padded front_most (take front_most h)

  -- its parts are those of the bytes
  front_part : (a n : ℕ) → a + n ≤ front_most → a + n ≤ length h → take n (drop a front) ≡ take n (drop a h)
  front_part a n f l =
      let xs : List ℕ = take front_most h in
      let zeros : List ℕ = replicate (front_most - length xs) 0 in
      let m : length xs ≡ min front_most (length h) = length-take front_most h in
      let d = length-drop a xs in
      ap (take n) (drop-append-le a xs zeros (omega arith)) ∙ take-append-le n (drop a xs) zeros (omega arith) ∙ part_of_part n a front_most h f

  told : 3 ≤ length h → field 1 2 front ≡ field 1 2 h
  unfolding field
  told l = ap little_endian (front_part 1 2 (omega arith) l)

  whole_same : is_begun_whole (length h) front ≡ is_whole h
  unfolding is_begun_whole is_whole
  whole_same = go (leb 3 (length h)) refl
    where
      go : (t : Bool) → leb 3 (length h) ≡ t → t && leb (3 + field 1 2 front + 4) (length h) ≡ t && leb (sealed_length h) (length h)
      go false e = refl
      go true e = ap (λ (n : ℕ). leb (3 + n + 4) (length h)) (told (leb-true 3 (length h) e))

  module _ (b : ℕ) where
    abbrev more : List ℕ
    more = h ++ (b ∷ [])

    one_more : length more ≡ length h + 1
    one_more = length-append h (b ∷ [])

    front_more : front_then front (length h) b ≡ padded front_most (take front_most more)
    unfolding front_then
    front_more = go (ltb (length h) front_most) refl
      where
        n : ℕ
        n = length h

        go : (t : Bool) → ltb n front_most ≡ t → (when t then set front n b else front) ≡ padded front_most (take front_most more)
        go true e =
            let short : n < front_most = ltb-true _ _ e in
            let k : ℕ = front_most - (n + 1) in
            let all_of : take front_most h ≡ h = take_all front_most h (omega arith) in
            let all_more : take front_most more ≡ more = take_all front_most more (omega (arith, one_more)) in
            let m : front_most - n ≡ suc k = omega arith in
            let k-is : k ≡ front_most - length more = omega (arith, one_more) in
            ap (λ (l : List ℕ). set (padded front_most l) n b) all_of
            ∙ ap (λ (j : ℕ). set (h ++ replicate j 0) n b) m
            ∙ set_behind h (replicate k 0) 0 b
            ∙ sym (append_assoc h (b ∷ []) (replicate k 0))
            ∙ ap (λ (j : ℕ). more ++ replicate j 0) k-is
            ∙ ap (padded front_most) (sym all_more)
        go false e = ap (padded front_most) (sym (take-append-le front_most h (b ∷ []) (ltb-false _ _ e)))

    -- a record is whole with its last byte, not before
    exact : is_whole h ≡ false → is_whole more ≡ true → sealed_length more ≡ length more
    unfolding is_whole
    exact u w = decide (leb 3 (length h)) long short
      where
        fits : sealed_length more ≤ length more
        fits = leb-true _ _ (and_right (leb 3 (length more)) _ w)

        long : leb 3 (length h) ≡ true → sealed_length more ≡ length more
        long t =
            let l : 3 ≤ length h = leb-true 3 (length h) t in
            let not_yet : length h < sealed_length h = leb-false _ _ (rw t at u) in
            omega (arith, field_append 1 2 h (b ∷ []) l, fits, one_more)

        short : leb 3 (length h) ≡ false → sealed_length more ≡ length more
        short t = absurd (let z : ⊥ = omega (arith, leb-false 3 (length h) t, fits, one_more) in z)

-- ---- a whole record of bytes is judged as it is

module _ (h : List ℕ) (e : sealed_length h ≡ length h) (w : all is_byte h ≡ true) where
  xs : List ℕ
  xs = take (record_length h) h

  c : List ℕ
  c = drop (record_length h) h

  crc_same : eqb (register_after all_ones h) residue ≡ eqb (field (record_length h) 4 h) (crc32 (take (record_length h) h))
  unfolding xs c field
  crc_same =
      let four : length c ≡ 4 = omega (arith, length-drop (record_length h) h, e) in
      ap (λ (l : List ℕ). eqb (register_after all_ones l) residue) (sym (take-append-drop (record_length h) h))
      ∙ residue_tells xs c (all_take is_byte (record_length h) h w) (all_drop is_byte (record_length h) h w) four
      ∙ ap (λ (l : List ℕ). eqb (little_endian l) (crc32 xs)) (sym (take_all 4 c (omega arith)))

  too_long : value_most < length (value_in h) → act_in (record_in h) ≡ None
  unfolding act_in
  too_long far = rw (lt-ltb value_most (length (value_in h)) far)

  act_same : act_in_front (front h) ≡ act_in (record_in h)
  unfolding act_in_front
  act_same = ap (λ (n : ℕ). when ltb value_most n then None else act_in (record_in (front h))) n_is ∙ go (ltb value_most (field 1 2 h)) refl
    where
      n_is : field 1 2 (front h) ≡ field 1 2 h
      n_is = told h (omega arith)

      go : (t : Bool) → ltb value_most (field 1 2 h) ≡ t → (when t then None else act_in (record_in (front h))) ≡ act_in (record_in h)
      go true t =
          let long : length (value_in h) ≡ field 1 2 h = length_part h 3 (field 1 2 h) (omega arith) in
          let more : value_most < field 1 2 h = ltb-true _ _ t in
          sym (too_long (let far : value_most < length (value_in h) = omega arith in far))
      go false t =
          let few : field 1 2 h ≤ value_most = ltb-false _ _ t in
          let tag : field 0 1 (front h) ≡ field 0 1 h = (unfold field in ap little_endian (front_part h 0 1 (omega arith) (omega arith))) in
          let value : value_in (front h) ≡ value_in h
          = ap (λ (n : ℕ). take n (drop 3 (front h))) n_is ∙ front_part h 3 (field 1 2 h) (omega arith) (omega arith) in
          ap₂ (λ (t : ℕ) (v : List ℕ). act_in (record { tag = t; value = v })) tag value

  judge_same : (g : List ℕ) → judge_begun g (register_after all_ones h) (front h) ≡ judge_record g h
  unfolding judge_begun judge_record
  judge_same g = ap₂ (λ (t : Bool) (o : Option Act). when not t then bad WrongCrc else judge_act g o) crc_same act_same

-- ---- one byte

abbrev mapped : Step Kept Fault → Step Compact Fault
mapped t = record { kept = compact_of t.kept; event = t.event }

record_same : (g : List ℕ) (k : ℕ) (h : List ℕ) (j : Judged) → compact_record (begun_with g 0 k h) j ≡ mapped (after_record g k h j)
unfolding compact_record after_record fault_code register_after
record_same g k h (good after) = refl
record_same g k h (bad fault) = refl

module _ (g : List ℕ) (k : ℕ) (h : List ℕ) (b : ℕ) where
  abbrev next : List ℕ
  next = h ++ (b ∷ [])

  one_register : shift_byte (register_after all_ones h) b ≡ register_after all_ones next
  unfolding register_after
  one_register = sym (register_append all_ones h (b ∷ []))

  byte_is : with_byte (begun_with g 0 k h) b ≡ begun_with g 0 k next
  unfolding with_byte
  byte_is = λ i. record {
    registry = g;
    fault = 0;
    kept = k;
    count = sym (one_more h b) i;
    register = one_register i;
    front = front_more h b i;
  }

  step_whole : is_whole next ≡ true → compact_step (begun_with g 0 k next) ≡ compact_record (begun_with g 0 k next) (judge_begun g (register_after all_ones next) (front next))
  unfolding compact_step
  step_whole w = rw (whole_same next ∙ w)

  step_more : is_whole next ≡ false → compact_step (begun_with g 0 k next) ≡ record { kept = begun_with g 0 k next; event = None }
  unfolding compact_step
  step_more w = rw (whole_same next ∙ w)

  after_whole : is_whole next ≡ true → after_byte (reading g k h) next ≡ after_record g k next (judge_record g next)
  unfolding after_byte
  after_whole w = rw (w, after_byte)

  after_more : is_whole next ≡ false → after_byte (reading g k h) next ≡ record { kept = reading g k next; event = None }
  unfolding after_byte
  after_more w = rw (w, after_byte)

  pub byte_same : is_whole h ≡ false → all is_byte next ≡ true → compact_step (with_byte (begun_with g 0 k h) b) ≡ mapped (after_byte (reading g k h) next)
  unfolding fault_code
  byte_same u a =
      ap compact_step byte_is
      ∙ decide (is_whole next)
      (λ w.
      step_whole w
      ∙ ap (compact_record (begun_with g 0 k next)) (judge_same next (exact h b u w) a g)
      ∙ record_same g k next (judge_record g next)
      ∙ ap mapped (sym (after_whole w)))
      (λ w. step_more w ∙ ap mapped (sym (after_more w)))

-- ---- the two readers

Unfinished : Kept → Type 0
Unfinished s = is_whole s.held ≡ false

empty_unfinished : is_whole [] ≡ false
unfolding is_whole
empty_unfinished = refl

-- what a byte leaves: no whole record, bytes, and no more than one byte more
pub record Sane (n : ℕ) (s : Kept) : Type 0 where
  pub unfinished : is_whole s.held ≡ false
  pub bytes : all is_byte s.held ≡ true
  pub within : s.kept + length s.held ≤ n

record_sane : (g : List ℕ) (k : ℕ) (h : List ℕ) (n : ℕ) → k + length h ≤ n → (j : Judged) → Sane n (after_record g k h j).kept
unfolding after_record
record_sane g k h n w (good after) = record { unfinished = empty_unfinished; bytes = refl; within = omega arith }
record_sane g k h n w (bad fault) = record { unfinished = empty_unfinished; bytes = refl; within = omega arith }

byte_sane : (g : List ℕ) (k : ℕ) (h : List ℕ) (b n : ℕ) → all is_byte (h ++ (b ∷ [])) ≡ true → k + length h ≤ n
    → Sane (n + 1) (after_byte (reading g k h) (h ++ (b ∷ []))).kept
unfolding after_byte
byte_sane g k h b n a w =
    let next : List ℕ = h ++ (b ∷ []) in
    let m : k + length next ≤ n + 1 = omega (arith, one_more h b) in
    either (λ (t : Step Kept Fault). Sane (n + 1) t.kept) (is_whole next)
    (λ _. record_sane g k next (n + 1) m (judge_record g next))
    (λ u. record { unfinished = u; bytes = a; within = m })

abbrev along : Reading Kept Fault → Reading Compact Fault
along a = record { taken = a.taken; events = a.events; kept = compact_of a.kept }

on_ended : (g : List ℕ) (k : ℕ) (h : List ℕ) → k + length h < file_most → compact_journal.ended (begun_with g 0 k h) ≡ false
unfolding has_ended
on_ended g k h w = rw (lt-leb file_most (k + length h) w)

reads_same : (bytes : List ℕ) (s : Kept) (n : ℕ) → Sane n s → all is_byte bytes ≡ true → n + length bytes ≤ file_most
    → read compact_journal (compact_of s) bytes ≡ along (read journal s bytes)
unfolding read
reads_same [] s n p a w = refl
reads_same (b ∷ bytes) s n p a w =
    by_fault s.fault refl (λ s' p'. reads_same bytes s' (n + 1) p' (and_right (is_byte b) _ a) (omega arith))
  where
    next : List ℕ
    next = s.held ++ (b ∷ [])

    by_fault : (o : Option Fault) → s.fault ≡ o
        → ((s' : Kept) → Sane (n + 1) s' → read compact_journal (compact_of s') bytes ≡ along (read journal s' bytes))
        → read compact_journal (compact_of s) (b ∷ bytes) ≡ along (read journal s (b ∷ bytes))
    by_fault (Some fault) e ih =
        let over : is_some s.fault ≡ true = ap is_some e in
        let over' : has_ended (fault_code s.fault) s.kept (length s.held) ≡ true
        = ap (λ (o : Option Fault). has_ended (fault_code o) s.kept (length s.held)) e ∙ ended_some fault s.kept (length s.held) in
        read_past compact_journal (compact_of s) (b ∷ bytes) over' ∙ ap along (sym (read_past journal s (b ∷ bytes) over))
    by_fault None e ih =
        let t : Kept = reading s.registry s.kept s.held in
        let s-is : s ≡ t = (λ i. record { registry = s.registry; kept = s.kept; held = s.held; fault = e i }) in
        let c-is : compact_of s ≡ begun_with s.registry 0 s.kept s.held
        = ap (λ (o : Option Fault). begun_with s.registry (fault_code o) s.kept s.held) e ∙ no_code in
        let all-next : all is_byte next ≡ true = all_append is_byte s.held (b ∷ []) p.bytes (ap (λ (t : Bool). t && true) (and_left (is_byte b) _ a)) in
        let after : Step Kept Fault = after_byte t next in
        let step = byte_same s.registry s.kept s.held b p.unfinished all-next in
        let below : s.kept + length s.held < file_most = omega (arith, p.within) in
        ap (λ (x : Compact). read compact_journal x (b ∷ bytes)) c-is
        ∙ read_byte compact_journal (begun_with s.registry 0 s.kept s.held) b bytes (on_ended s.registry s.kept s.held below)
        ∙ ap (λ (x : Step Compact Fault). record {
          taken = suc (read compact_journal x.kept bytes).taken;
          events = with_event x.event (read compact_journal x.kept bytes).events;
          kept = (read compact_journal x.kept bytes).kept;
        }) step
        ∙ ap (λ (x : Reading Compact Fault). record { taken = suc x.taken; events = with_event after.event x.events; kept = x.kept })
        (ih after.kept (byte_sane s.registry s.kept s.held b n all-next p.within))
        ∙ ap along (sym (read_byte journal t b bytes not_over))
        ∙ ap (λ (x : Kept). along (read journal x (b ∷ bytes))) (sym s-is)
      where
        no_code : begun_with s.registry (fault_code None) s.kept s.held ≡ begun_with s.registry 0 s.kept s.held
        no_code = unfold fault_code in refl

        not_over : journal.ended (reading s.registry s.kept s.held) ≡ false
        not_over = refl

-- THE COMPACT READER READS AS THE READER DOES
pub compact_reads : (first file : List ℕ) → all is_byte file ≡ true → length file ≤ file_most
    → read compact_journal (between first 0 0) file ≡ along (read_journal first file)
compact_reads first file a w =
    ap (λ (x : Compact). read compact_journal x file) begin_is
    ∙ reads_same file (reading first 0 []) 0 (record { unfinished = empty_unfinished; bytes = refl; within = omega arith }) a (omega arith)
  where
    begin_is : between first 0 0 ≡ compact_of (reading first 0 [])
    begin_is = unfold fault_code register_after in refl
