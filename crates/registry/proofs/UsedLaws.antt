-- A slot whose key was used once more: its count alone has changed (document 02, "Use per key").
use mathlib.Core.Path.{◌≡◌, refl, sym, ap, ◌∙◌}
use mathlib.Core.Bool.{Bool, true, false, true≢false}
use mathlib.Core.List.{List, [], ◌∷◌}
use Prim.Native.Nat.{ℕ, ◌+◌, ◌-◌, ◌^◌, ◌≤◌, ◌<◌, min}
use borrow.Author.Tests.{ltb-true, ltb-false}
use native.Mathlib.Omega.{arith}
use lib.ListN.{length, take, drop, get_or, length-take, length-drop}
use lib.Seq.{get_or-take}
use lib.Dec.{eqb, leb, ltb}
use Rattle.wire.specs.Choice.{when◌then◌else◌}
use Rattle.wire.specs.Lists.{all, every, is_zero}
use Rattle.wire.specs.Numbers.{little_endian, little_endian_of, field}
use Rattle.wire.proofs.PutLaws.{length_put, part_put, part_before}
use Rattle.wire.proofs.TestLaws.{every_at}
use Rattle.wire.proofs.NumberLaws.{length_number, number_back}
use Rattle.keys.specs.Key.{Key, data_most, legal_data, legal_bits}
use Rattle.keys.specs.Names.{key_name_most, legal_name}
use Rattle.keys.proofs.KeyLaws.{legal_data_lem}
use Rattle.keys.proofs.NameLaws.{legal_short}
use Rattle.registry.specs.Names.{name_in}
use Rattle.registry.specs.Slots.{Entry, free, held, data_length_at, data_at, bits_at, export_at, verify_at, uses_at, slot_size, data_in, key_in, slot_of, uses_in, uses_most, used, used_slot, behind_name, behind_data, key_tests, well_formed_slot}
use Rattle.registry.proofs.SlotLaws.{key_slot}

-- one use more, as the library adds
pub used_saturates : (n : ℕ) → n < 2 ^ 32 → min (n + 1) (2 ^ 32 - 1) ≡ used n
unfolding used
used_saturates n h = go (ltb n uses_most) refl
  where
    go : (t : Bool) → ltb n uses_most ≡ t → min (n + 1) (2 ^ 32 - 1) ≡ (when t then n + 1 else n)
    go true e = omega (arith, ltb-true n uses_most e)
    go false e = omega (arith, ltb-false n uses_most e)

module _ (slot : List ℕ) (long : length slot ≡ slot_size) where
  abbrev count : List ℕ
  count = little_endian_of 4 (used (uses_in slot))

  pub length_used : length (used_slot slot) ≡ slot_size
  unfolding used_slot
  length_used = length_put slot uses_at count (omega (arith, length_number 4 (used (uses_in slot)))) ∙ long

  -- one use more is counted
  pub uses_used : uses_in (used_slot slot) ≡ used (uses_in slot)
  unfolding used_slot field
  uses_used =
      ap (λ (n : ℕ). little_endian (take n (drop uses_at (used_slot slot)))) (sym (length_number 4 (used (uses_in slot))))
      ∙ ap little_endian (part_put slot uses_at count (omega arith))
      ∙ number_back 3 (used (uses_in slot))

  -- the bytes before the count stay
  before : (a n : ℕ) → a + n ≤ uses_at → take n (drop a (used_slot slot)) ≡ take n (drop a slot)
  unfolding used_slot
  before a n h = part_before slot uses_at count a n (omega arith) h

  byte : (a : ℕ) → a < uses_at → get_or (used_slot slot) a 0 ≡ get_or slot a 0
  byte a h =
      sym (get_or-take uses_at (used_slot slot) a 0 h) ∙ ap (λ (l : List ℕ). get_or l a 0) (before 0 uses_at (omega arith)) ∙ get_or-take uses_at slot a 0 h

  number : (a : ℕ) → a + 2 ≤ uses_at → field a 2 (used_slot slot) ≡ field a 2 slot
  unfolding field
  number a h = ap little_endian (before a 2 h)

  -- and so do the key and its name
  name_kept : get_or slot 0 0 ≤ key_name_most → name_in (used_slot slot) ≡ name_in slot
  name_kept h = ap (λ (n : ℕ). take n (drop 1 (used_slot slot))) (byte 0 (omega arith)) ∙ before 1 (get_or slot 0 0) (omega arith)

  module _ (n : get_or slot 0 0 ≤ key_name_most) (d : field data_length_at 2 slot ≤ data_most) where
    data_used : data_in (used_slot slot) ≡ data_in slot
    data_used = ap (λ (k : ℕ). take k (drop data_at (used_slot slot))) (number data_length_at (omega arith)) ∙ before data_at (field data_length_at 2 slot) (omega arith)

    key_used_lem : key_in (used_slot slot) ≡ key_in slot
    key_used_lem = λ j. record {
      name = name_kept n j;
      bytes = data_used j;
      bits = number bits_at (omega arith) j;
      export_allowed = ap (λ (x : ℕ). eqb x 1) (byte export_at (omega arith)) j;
      verify_allowed = ap (λ (x : ℕ). eqb x 1) (byte verify_at (omega arith)) j;
    }

    entry_used : slot_of (used_slot slot) ≡ slot_of slot
    unfolding slot_of
    entry_used =
        ap (λ (x : ℕ). when eqb x 0 then free else held (key_in (used_slot slot))) (byte 0 (omega arith))
        ∙ ap (λ (k : Key). when eqb (get_or slot 0 0) 0 then free else held k) key_used_lem

    zeros_behind_name_lem : behind_name key_name_most (used_slot slot) ≡ behind_name key_name_most slot
    zeros_behind_name_lem =
        ap (λ (k : ℕ). take (key_name_most - k) (drop (1 + k) (used_slot slot))) (byte 0 (omega arith))
        ∙ before (1 + get_or slot 0 0) (key_name_most - get_or slot 0 0) (omega arith)

    zeros_behind_data : behind_data (used_slot slot) ≡ behind_data slot
    zeros_behind_data =
        ap (λ (k : ℕ). take (data_most - k) (drop (data_at + k) (used_slot slot))) (number data_length_at (omega arith))
        ∙ before (data_at + field data_length_at 2 slot) (data_most - field data_length_at 2 slot) (omega arith)

    tests_used : key_tests (used_slot slot) ≡ key_tests slot
    tests_used = λ j.
        legal_name key_name_most (name_kept n j)
        ∷ all is_zero (zeros_behind_name_lem j)
        ∷ legal_data (data_used j)
        ∷ all is_zero (zeros_behind_data j)
        ∷ legal_bits (number bits_at (omega arith) j)
        ∷ leb (byte export_at (omega arith) j) 1
        ∷ leb (byte verify_at (omega arith) j) 1
        ∷ []

-- a slot that holds a key has a name
pub held_named : (slot : List ℕ) (key : Key) → slot_of slot ≡ held key → get_or slot 0 0 ≡ 0 → ⊥
unfolding slot_of
held_named slot key e z = true≢false (sym (ap is_held (sym (ap (λ (n : ℕ). when eqb n 0 then free else held (key_in slot)) z) ∙ e)))
  where
    is_held : Entry → Bool
    is_held free = false
    is_held (held key) = true

-- of a slot that holds a key
module _ (slot : List ℕ) (long : length slot ≡ slot_size) (named : get_or slot 0 0 ≡ 0 → ⊥) (good : well_formed_slot slot ≡ true) where
  tests : every (key_tests slot) ≡ true
  tests = sym (key_slot slot named) ∙ good

  name_small : get_or slot 0 0 ≤ key_name_most
  name_small =
      let short : length (name_in slot) ≤ key_name_most = legal_short key_name_most (name_in slot) (every_at (key_tests slot) 0 tests) in
      let m : length (name_in slot) ≡ min (get_or slot 0 0) (length slot - 1) = length-take (get_or slot 0 0) (drop 1 slot) ∙ ap (min (get_or slot 0 0)) (length-drop 1 slot) in
      omega arith

  data_small : field data_length_at 2 slot ≤ data_most
  data_small =
      let short : length (data_in slot) ≤ data_most = legal_data_lem (data_in slot) (every_at (key_tests slot) 2 tests) in
      let m : length (data_in slot) ≡ min (field data_length_at 2 slot) (length slot - data_at)
      = length-take (field data_length_at 2 slot) (drop data_at slot) ∙ ap (min (field data_length_at 2 slot)) (length-drop data_at slot) in
      omega arith

  pub name_used : name_in (used_slot slot) ≡ name_in slot
  name_used = name_kept slot long name_small

  pub slot_used : slot_of (used_slot slot) ≡ slot_of slot
  slot_used = entry_used slot long name_small data_small

  pub good_used : well_formed_slot (used_slot slot) ≡ true
  good_used =
      key_slot (used_slot slot) (λ e. named (sym (byte slot long 0 (omega arith)) ∙ e))
      ∙ ap every (tests_used slot long name_small data_small)
      ∙ tests
