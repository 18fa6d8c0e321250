-- What a well-formed slot holds, read where it lies in the registry.
use mathlib.Core.Path.{◌≡◌, refl, sym, ap, ◌∙◌}
use mathlib.Core.Bool.{Bool, true, false}
use mathlib.Core.List.{List}
use Prim.Native.Nat.{ℕ, ◌+◌, ◌≤◌, ◌<◌, min, ◌-◌}
use native.Mathlib.Omega.{arith}
use borrow.Author.Tests.{eqb-true, eqb-false}
use lib.ListN.{length, take, drop, get_or, length-take, length-drop}
use lib.Seq.{drop-drop, get_or-take, get_or-drop}
use lib.Dec.{eqb}
use Rattle.wire.specs.Choice.{when◌then◌else◌}
use Rattle.wire.specs.Lists.{all, is_zero}
use Rattle.wire.specs.Numbers.{field}
use Rattle.wire.proofs.TestLaws.{every_at}
use Rattle.wire.proofs.ListLaws.{length_part, part_of_part, zero_at}
use Rattle.wire.proofs.NumberLaws.{zero_field, field_part}
use Rattle.keys.specs.Key.{data_most}
use Rattle.registry.specs.Slots.{free, held, data_length_at, data_at, bits_at, export_at, verify_at, slot_size, data_in, key_in, slot_of, key_tests, well_formed_slot}
use Rattle.registry.specs.Registry.{line_count, slot_count, slots_of, place}
use Rattle.registry.specs.WellFormed.{well_formed_registry}
use Rattle.registry.specs.code.Check.{bytes_in, bits_in, export_in, verify_in}
use Rattle.registry.specs.declared.Line.{Line}
use Rattle.keys.proofs.KeyLaws.{legal_data_lem}
use Rattle.registry.proofs.SlotLaws.{free_slot, key_slot}
use Rattle.registry.proofs.RegistryLaws.{slot_there_lem}
use Rattle.registry.proofs.WellFormedLaws.{slot_good}

module _ (slot : List ℕ) (good : well_formed_slot slot ≡ true) where
  all_zero : eqb (get_or slot 0 0) 0 ≡ true → all is_zero slot ≡ true
  all_zero e = sym (free_slot slot (eqb-true _ _ e)) ∙ good

  data_in_lem : bytes_in (slot_of slot) ≡ data_in slot
  unfolding slot_of bytes_in
  data_in_lem = go (eqb (get_or slot 0 0) 0) refl
    where
      go : (t : Bool) → eqb (get_or slot 0 0) 0 ≡ t → bytes_in (when t then free else held (key_in slot)) ≡ data_in slot
      go true e = sym (ap (λ (n : ℕ). take n (drop data_at slot)) (zero_field data_length_at 2 slot (all_zero e)))
      go false e = refl

  export_in_lem : export_in (slot_of slot) ≡ eqb (get_or slot export_at 0) 1
  unfolding slot_of export_in
  export_in_lem = go (eqb (get_or slot 0 0) 0) refl
    where
      go : (t : Bool) → eqb (get_or slot 0 0) 0 ≡ t → export_in (when t then free else held (key_in slot)) ≡ eqb (get_or slot export_at 0) 1
      go true e = sym (ap (λ (n : ℕ). eqb n 1) (zero_at slot export_at (all_zero e)))
      go false e = refl

  bits_in_lem : bits_in (slot_of slot) ≡ field bits_at 2 slot
  unfolding slot_of bits_in
  bits_in_lem = go (eqb (get_or slot 0 0) 0) refl
    where
      go : (t : Bool) → eqb (get_or slot 0 0) 0 ≡ t → bits_in (when t then free else held (key_in slot)) ≡ field bits_at 2 slot
      go true e = sym (zero_field bits_at 2 slot (all_zero e))
      go false e = refl

  verify_in_lem : verify_in (slot_of slot) ≡ eqb (get_or slot verify_at 0) 1
  unfolding slot_of verify_in
  verify_in_lem = go (eqb (get_or slot 0 0) 0) refl
    where
      go : (t : Bool) → eqb (get_or slot 0 0) 0 ≡ t → verify_in (when t then free else held (key_in slot)) ≡ eqb (get_or slot verify_at 0) 1
      go true e = sym (ap (λ (n : ℕ). eqb n 1) (zero_at slot verify_at (all_zero e)))
      go false e = refl

  data_small : length slot ≡ slot_size → field data_length_at 2 slot ≤ data_most
  data_small long = go (eqb (get_or slot 0 0) 0) refl
    where
      go : (t : Bool) → eqb (get_or slot 0 0) 0 ≡ t → field data_length_at 2 slot ≤ data_most
      go true e = omega (arith, zero_field data_length_at 2 slot (all_zero e))
      go false e =
          let short = legal_data_lem (data_in slot) (every_at (key_tests slot) 2 (sym (key_slot slot (eqb-false _ _ e)) ∙ good)) in
          let m : length (data_in slot) ≡ min (field data_length_at 2 slot) (length slot - data_at)
          = length-take (field data_length_at 2 slot) (drop data_at slot) ∙ ap (min (field data_length_at 2 slot)) (length-drop data_at slot) in
          omega arith

module _ (r : List ℕ) (w : well_formed_registry r ≡ true) (line : Line) (hl : line.0 < line_count) (k : ℕ) (hk : k < slot_count)
    (inside : place line (record { 0 = k }) + slot_size ≤ length r) where
  abbrev at : ℕ
  at = place line (record { 0 = k })

  abbrev slot : List ℕ
  slot = take slot_size (drop at r)

  good : well_formed_slot slot ≡ true
  good = slot_good r w line.0 k hl hk

  pub size_small : field (at + data_length_at) 2 r ≤ data_most
  size_small = omega (arith, field_part at slot_size data_length_at 2 r (omega arith), data_small slot good (length_part r at slot_size inside))

  pub data_there : bytes_in (get_or (slots_of r line) k free) ≡ take (field (at + data_length_at) 2 r) (drop (at + data_at) r)
  data_there =
      let n : field data_length_at 2 slot ≡ field (at + data_length_at) 2 r = field_part at slot_size data_length_at 2 r (omega arith) in
      let small = size_small in
      ap bytes_in (slot_there_lem r line k hk) ∙ data_in_lem slot good
      ∙ part_of_part (field data_length_at 2 slot) data_at slot_size (drop at r) (let x : data_at + field data_length_at 2 slot ≤ slot_size = omega arith in x)
      ∙ ap (take (field data_length_at 2 slot)) (drop-drop data_at at r)
      ∙ ap (λ (m : ℕ). take m (drop (at + data_at) r)) n

  pub export_there : export_in (get_or (slots_of r line) k free) ≡ eqb (get_or r (at + export_at) 0) 1
  export_there =
      ap export_in (slot_there_lem r line k hk) ∙ export_in_lem slot good
      ∙ ap (λ (n : ℕ). eqb n 1) (get_or-take slot_size (drop at r) export_at 0 (omega arith) ∙ get_or-drop at r export_at 0)

  pub bits_there : bits_in (get_or (slots_of r line) k free) ≡ field (at + bits_at) 2 r
  bits_there = ap bits_in (slot_there_lem r line k hk) ∙ bits_in_lem slot good ∙ field_part at slot_size bits_at 2 r (omega arith)

  pub verify_there : verify_in (get_or (slots_of r line) k free) ≡ eqb (get_or r (at + verify_at) 0) 1
  verify_there =
      ap verify_in (slot_there_lem r line k hk) ∙ verify_in_lem slot good
      ∙ ap (λ (n : ℕ). eqb n 1) (get_or-take slot_size (drop at r) verify_at 0 (omega arith) ∙ get_or-drop at r verify_at 0)
