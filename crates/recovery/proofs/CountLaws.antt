-- A slot with another count: its count alone has changed.
use mathlib.Core.Path.{◌≡◌, refl, sym, ap, ◌∙◌}
use mathlib.Core.Bool.{Bool, true, false}
use mathlib.Core.List.{List, [], ◌++◌, append_assoc, append-nil}
use Prim.Native.Nat.{ℕ, ◌+◌, ◌-◌, ◌≤◌, ◌<◌, min}
use native.Mathlib.Omega.{arith}
use borrow.Author.Tests.{eqb-false, eq-eqb}
use lib.ListN.{length, take, drop, get_or, replicate, length-take, length-drop, take-append-drop, drop_of_length-le}
use lib.Seq.{get_or-take, take_all, drop_at, length-take-le}
use lib.Dec.{eqb}
use Rattle.wire.specs.Choice.{when◌then◌else◌}
use Rattle.wire.specs.Lists.{every, is_zero, put, all}
use Rattle.wire.specs.Numbers.{little_endian, little_endian_of, field}
use Rattle.wire.proofs.PutLaws.{length_put, part_before, part_behind}
use Rattle.wire.proofs.ListLaws.{zeros_back, length_part}
use Rattle.wire.proofs.TestLaws.{every_at}
use Rattle.wire.proofs.NumberLaws.{length_number, field_back, field_zero}
use Rattle.keys.specs.Key.{data_most}
use Rattle.keys.specs.Names.{key_name_most}
use Rattle.keys.proofs.KeyLaws.{legal_data_lem}
use Rattle.keys.proofs.NameLaws.{legal_short}
use Rattle.registry.specs.Names.{name_in}
use Rattle.registry.specs.Slots.{free, held, data_length_at, data_at, bits_at, export_at, verify_at, uses_at, slot_size, data_in, key_in, slot_of, uses_in, used, used_slot, key_tests, well_formed_slot}
use Rattle.registry.proofs.SlotLaws.{key_slot}
use Rattle.recovery.specs.Unused.{unused_slot}

module _ (slot : List ℕ) (long : length slot ≡ slot_size) where
  pub length_unused : length (unused_slot slot) ≡ slot_size
  unfolding unused_slot
  length_unused = length_put slot uses_at (little_endian_of 4 0) (omega (arith, length_number 4 0)) ∙ long

  -- the bytes before the count stay
  before : (a n : ℕ) → a + n ≤ uses_at → take n (drop a (unused_slot slot)) ≡ take n (drop a slot)
  unfolding unused_slot
  before a n h = part_before slot uses_at (little_endian_of 4 0) a n (omega arith) h

  byte : (a : ℕ) → a < uses_at → get_or (unused_slot slot) a 0 ≡ get_or slot a 0
  byte a h =
      sym (get_or-take uses_at (unused_slot slot) a 0 h) ∙ ap (λ (l : List ℕ). get_or l a 0) (before 0 uses_at (omega arith)) ∙ get_or-take uses_at slot a 0 h

  number : (a : ℕ) → a + 2 ≤ uses_at → field a 2 (unused_slot slot) ≡ field a 2 slot
  unfolding field
  number a h = ap little_endian (before a 2 h)

  module _ (n : get_or slot 0 0 ≤ key_name_most) (d : field data_length_at 2 slot ≤ data_most) where
    key_kept : key_in (unused_slot slot) ≡ key_in slot
    key_kept = λ j. record {
      name = (ap (λ (k : ℕ). take k (drop 1 (unused_slot slot))) (byte 0 (omega arith)) ∙ before 1 (get_or slot 0 0) (omega arith)) j;
      bytes = (ap (λ (k : ℕ). take k (drop data_at (unused_slot slot))) (number data_length_at (omega arith)) ∙ before data_at (field data_length_at 2 slot) (omega arith)) j;
      bits = number bits_at (omega arith) j;
      export_allowed = ap (λ (x : ℕ). eqb x 1) (byte export_at (omega arith)) j;
      verify_allowed = ap (λ (x : ℕ). eqb x 1) (byte verify_at (omega arith)) j;
    }

  -- and so does what it holds
  pub slot_kept : well_formed_slot slot ≡ true → slot_of (unused_slot slot) ≡ slot_of slot
  unfolding slot_of
  slot_kept good = ap (λ (x : ℕ). when eqb x 0 then free else held (key_in (unused_slot slot))) (byte 0 (omega arith)) ∙ go (eqb (get_or slot 0 0) 0) refl
    where
      go : (t : Bool) → eqb (get_or slot 0 0) 0 ≡ t
          → (when t then free else held (key_in (unused_slot slot))) ≡ (when t then free else held (key_in slot))
      go true e = refl
      go false e =
          let tests : every (key_tests slot) ≡ true = sym (key_slot slot (eqb-false _ _ e)) ∙ good in
          let short : length (name_in slot) ≤ key_name_most = legal_short key_name_most (name_in slot) (every_at (key_tests slot) 0 tests) in
          let m : length (name_in slot) ≡ min (get_or slot 0 0) (length slot - 1)
          = length-take (get_or slot 0 0) (drop 1 slot) ∙ ap (min (get_or slot 0 0)) (length-drop 1 slot) in
          let few : length (data_in slot) ≤ data_most = legal_data_lem (data_in slot) (every_at (key_tests slot) 2 tests) in
          let k : length (data_in slot) ≡ min (field data_length_at 2 slot) (length slot - data_at)
          = length-take (field data_length_at 2 slot) (drop data_at slot) ∙ ap (min (field data_length_at 2 slot)) (length-drop data_at slot) in
          ap held (key_kept (omega arith) (omega arith))

  -- a count that is 0 stays
  pub idle : uses_in slot ≡ 0 → unused_slot slot ≡ slot
  unfolding unused_slot
  idle e =
      let four : length (take 4 (drop uses_at slot)) ≡ 4 = length_part slot uses_at 4 (omega arith) in
      let zeros : all is_zero (take 4 (drop uses_at slot)) ≡ true = sym (field_zero uses_at 4 slot) ∙ eq-eqb _ _ e in
      let written : little_endian_of 4 0 ≡ replicate 4 0 = (unfold little_endian_of in refl) in
      let same : little_endian_of 4 0 ≡ take 4 (drop uses_at slot)
      = written ∙ ap (λ (n : ℕ). replicate n 0) (sym four) ∙ zeros_back (take 4 (drop uses_at slot)) zeros in
      let all_of : take 4 (drop uses_at slot) ≡ drop uses_at slot = take_all 4 (drop uses_at slot) (omega (arith, length-drop uses_at slot)) in
      let none : drop (uses_at + length (little_endian_of 4 0)) slot ≡ []
      = drop_of_length-le slot (let x : length slot ≤ uses_at + length (little_endian_of 4 0) = omega (arith, length_number 4 0) in x) in
      ap (λ (l : List ℕ). take uses_at slot ++ little_endian_of 4 0 ++ l) none
      ∙ append-nil (take uses_at slot ++ little_endian_of 4 0)
      ∙ ap (λ (l : List ℕ). take uses_at slot ++ l) (same ∙ all_of)
      ∙ take-append-drop uses_at slot

  -- a use changes the count alone
  pub unused_used : unused_slot (used_slot slot) ≡ unused_slot slot
  unfolding unused_slot used_slot
  unused_used =
      let c : List ℕ = little_endian_of 4 (used (uses_in slot)) in
      let four : length c ≡ 4 = length_number 4 (used (uses_in slot)) in
      let zeros : length (little_endian_of 4 0) ≡ 4 = length_number 4 0 in
      let front : take uses_at (put slot uses_at c) ≡ take uses_at slot = part_before slot uses_at c 0 uses_at (omega arith) (omega arith) in
      let back : drop (uses_at + length (little_endian_of 4 0)) (put slot uses_at c) ≡ drop (uses_at + length (little_endian_of 4 0)) slot
      = part_behind slot uses_at c (uses_at + length (little_endian_of 4 0)) (omega arith) (omega arith) in
      λ i. front i ++ little_endian_of 4 0 ++ back i

  pub no_use : uses_in (unused_slot slot) ≡ 0
  unfolding unused_slot
  no_use =
      let v : List ℕ = little_endian_of 4 0 in
      let rest : List ℕ = drop (uses_at + length v) slot in
      let front : length (take uses_at slot) ≡ uses_at = length-take-le uses_at slot (omega (arith, long)) in
      field_back uses_at 3 0 (put slot uses_at v) rest (ap (drop uses_at) (append_assoc (take uses_at slot) v rest) ∙ drop_at (take uses_at slot) (v ++ rest) uses_at front)
