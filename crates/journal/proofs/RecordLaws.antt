-- A RECORD WRITTEN IS READ AS ITSELF: it has the layout, its length and its CRC, and says what was written.
use Rattle.std.proofs.Common.{Option, Some, None}
use mathlib.Core.Path.{◌≡◌, refl, sym, ap, ap₂, ◌∙◌}
use mathlib.Core.Bool.{Bool, true, false}
use mathlib.Core.List.{List, [], ◌++◌, append_assoc, append-nil}
use Prim.Native.Nat.{ℕ, ◌+◌, ◌≤◌}
use native.Mathlib.Omega.{arith}
use borrow.Author.Tests.{le-leb, le-ltb, eq-eqb}
use lib.ListN.{length, take, drop, length-append}
use lib.Seq.{take-append_seam, drop-append_seam, take_at, drop_at, drop-drop}
use lib.Dec.{leb, eqb}
use Rattle.wire.specs.Choice.{when◌then◌else◌}
use Rattle.wire.specs.Lists.{every}
use Rattle.wire.specs.Numbers.{little_endian_of, field}
use Rattle.wire.proofs.NumberLaws.{length_number, field_byte, field_back}
use Rattle.records.specs.Records.{record_length, value_in}
use Rattle.keys.specs.Key.{Key}
use Rattle.registry.specs.Slots.{flag}
use Rattle.registry.specs.declared.Line.{Line}
use Rattle.crc.specs.Crc.{crc32}
use Rattle.journal.specs.Record.{Act, importing, destroying, value_of, tag_of, covered, record_of, sealed_length, line_in, key_in, import_tests, value_most, act_in}
use Rattle.journal.specs.Replay.{judge_act, judge_record}
use Rattle.journal.specs.File.{is_record}

-- ---- the value

flag_back : (t : Bool) → eqb (flag t) 1 ≡ t
flag_back true = refl
flag_back false = refl

flag_small : (t : Bool) → leb (flag t) 1 ≡ true
flag_small true = refl
flag_small false = refl

module _ (line : Line) (key : Key) where
  abbrev value : List ℕ
  value = value_of (importing line key)

  bits_back : field 1 2 value ≡ key.bits
  unfolding value_of
  bits_back = field_back 1 1 key.bits value _ refl

  data_back : drop (6 + length key.name) value ≡ key.bytes
  unfolding value_of little_endian_of
  data_back = sym (drop-drop (length key.name) 6 value) ∙ drop-append_seam key.name key.bytes

  key_back : key_in value ≡ key
  unfolding value_of little_endian_of
  key_back = λ i. record {
    name = take-append_seam key.name key.bytes i;
    bytes = data_back i;
    bits = bits_back i;
    export_allowed = flag_back key.export_allowed i;
    verify_allowed = flag_back key.verify_allowed i;
  }

  import_tests_lem : every (import_tests value) ≡ true
  unfolding value_of little_endian_of
  import_tests_lem =
      let n = length-append key.name key.bytes in
      rw (
        le-leb 6 (length value) (omega arith),
        flag_small key.export_allowed,
        flag_small key.verify_allowed,
        le-leb (6 + length key.name) (length value) (omega arith),
      )

  import_back : length value ≤ value_most → act_in (record { tag = 2; value = value }) ≡ Some (importing line key)
  unfolding act_in
  import_back h =
      ap (λ (t : Bool). let a : Option Act = when t then None else when every (import_tests value) then Some (importing (line_in value) (key_in value)) else None in a) (le-ltb _ _ h)
      ∙ ap (λ (t : Bool). let a : Option Act = when t then Some (importing (line_in value) (key_in value)) else None in a) import_tests_lem
      ∙ ap₂ (λ (l : Line) (k : Key). Some (importing l k)) (unfold value_of in refl) key_back

destroy_back : (line : Line) (name : List ℕ) → length (value_of (destroying line name)) ≤ value_most → act_in (record { tag = 3; value = value_of (destroying line name) }) ≡ Some (destroying line name)
unfolding act_in value_of
destroy_back line name h = rw (le-ltb value_most (length (value_of (destroying line name))) h, le-leb 1 (length (value_of (destroying line name))) (omega arith))

pub act_back : (act : Act) → length (value_of act) ≤ value_most → act_in (record { tag = tag_of act; value = value_of act }) ≡ Some act
unfolding tag_of
act_back (importing line key) h = import_back line key h
act_back (destroying line name) h = destroy_back line name h

-- ---- the record

module _ (act : Act) where
  abbrev front : List ℕ
  front = covered (tag_of act) (value_of act)

  abbrev bytes : List ℕ
  bytes = record_of act

  length_front : length front ≡ 3 + length (value_of act)
  unfolding covered
  length_front = omega (arith, length-append (little_endian_of 2 (length (value_of act))) (value_of act), length_number 2 (length (value_of act)))

  pub length_record : length bytes ≡ 7 + length (value_of act)
  unfolding record_of
  length_record = omega (arith, length-append front (little_endian_of 4 (crc32 front)), length_number 4 (crc32 front), length_front)

  length_told : field 1 2 bytes ≡ length (value_of act)
  unfolding record_of covered
  length_told =
      field_back 1 1 (length (value_of act)) bytes (value_of act ++ little_endian_of 4 (crc32 front))
      (append_assoc (little_endian_of 2 (length (value_of act))) (value_of act) (little_endian_of 4 (crc32 front)))

  -- it says how long it is
  pub record_length_lem : sealed_length bytes ≡ length bytes
  record_length_lem = omega (arith, length_told, length_record)

  front_ends : length front ≡ record_length bytes
  front_ends = omega (arith, length_told, length_front)

  front_back : take (record_length bytes) bytes ≡ front
  unfolding record_of
  front_back = take_at front (little_endian_of 4 (crc32 front)) (record_length bytes) front_ends

  crc_back : field (record_length bytes) 4 bytes ≡ crc32 (take (record_length bytes) bytes)
  unfolding record_of
  crc_back =
      field_back (record_length bytes) 3 (crc32 front) bytes []
      (drop_at front (little_endian_of 4 (crc32 front)) (record_length bytes) front_ends ∙ sym (append-nil (little_endian_of 4 (crc32 front))))
      ∙ ap crc32 (sym front_back)

  tag_back : field 0 1 bytes ≡ tag_of act
  tag_back = field_byte 0 bytes (omega (arith, length_record)) ∙ (unfold record_of covered in refl)

  behind_length : drop 3 bytes ≡ value_of act ++ little_endian_of 4 (crc32 front)
  unfolding record_of covered little_endian_of
  behind_length = refl

  value_back : value_in bytes ≡ value_of act
  value_back =
      ap (take (field 1 2 bytes)) behind_length
      ∙ take_at (value_of act) (little_endian_of 4 (crc32 front)) (field 1 2 bytes) (sym length_told)

  -- A RECORD WRITTEN IS JUDGED BY WHAT IT SAYS
  pub record_back : (registry : List ℕ) → length (value_of act) ≤ value_most → judge_record registry bytes ≡ judge_act registry (Some act)
  unfolding judge_record
  record_back registry h =
      rw (eq-eqb _ _ crc_back, judge_record)
      (ap (judge_act registry) (ap₂ (λ (t : ℕ) (v : List ℕ). act_in (record { tag = t; value = v })) tag_back value_back ∙ act_back act h))

  pub is_record_lem : is_record bytes ≡ true
  unfolding is_record
  is_record_lem = eq-eqb _ _ record_length_lem
