-- Laws of the registry's views: an application and a slot that are found are there.
use Rattle.std.proofs.Common.{Option, Some, None}
use mathlib.Core.Path.{◌≡◌, refl, sym, ap, ◌∙◌, subst}
use mathlib.Core.Bool.{Bool, true, false, not, ◌&&◌}
use mathlib.Core.List.{List, [], ◌∷◌, map}
use Prim.Native.Nat.{ℕ, ◌+◌, ◌-◌, ◌*◌, ◌≤◌, ◌<◌}
use native.Mathlib.Omega.{arith}
use borrow.Author.Tests.{ltb-true, ltb-false, ne_eqb}
use lib.ListN.{length, take, drop, get_or, length-map}
use lib.Seq.{drop-drop}
use lib.Dec.{ltb}
use Rattle.wire.specs.Choice.{when◌then◌else◌}
use Rattle.wire.specs.Lists.{same}
use Rattle.wire.proofs.TestLaws.{and_left, and_right, some≢none}
use Rattle.wire.proofs.ListLaws.{part_of_part, same_true, map_at}
use Rattle.wire.proofs.BlockLaws.{length_blocks, block_at_lem}
use Rattle.keys.specs.Names.{is_new}
use Rattle.registry.specs.Names.{name_in, index_from}
use Rattle.registry.specs.Slots.{Entry, free, name_of, slot_of, slot_size}
use Rattle.registry.specs.Registry.{line_count, slot_count, line_head, line_size, names_in, slots_in, application_named, line_at, slots_of, slot_named, place}
use Rattle.registry.specs.WellFormed.{is_used}
use Rattle.registry.specs.declared.Line.{Line}
use Rattle.registry.specs.declared.Slot.{Slot}
use Rattle.registry.proofs.NameLaws.{index_same, index_none}
use Rattle.registry.proofs.SlotLaws.{name_of_lem}

-- ---- the application that is found

pub some_used : (name : List ℕ) → 1 ≤ length name → is_used name ≡ true
some_used name h = ap not (ne_eqb (length name) 0 (λ z. (let w : ⊥ = omega arith in w)))

pub record Used (registry : List ℕ) (line : Line) : Type 0 where
  pub there : line.0 < line_count
  pub used : is_used (get_or (names_in registry) line.0 []) ≡ true

line_number : Option Line → ℕ
line_number None = 0
line_number (Some line) = line.0

pub named_used : (registry name : List ℕ) (line : Line) → application_named registry name ≡ Some line → Used registry line
unfolding application_named line_number
named_used registry name line e = go (ltb 0 (length name) && ltb i line_count) refl e
  where
    i : ℕ
    i = index_from name (names_in registry) 0

    go : (t : Bool) → ltb 0 (length name) && ltb i line_count ≡ t
        → (let found : Option Line = when t then Some (record { 0 = i }) else None in found) ≡ Some line → Used registry line
    go false q w = absurd (some≢none line (sym w))
    go true q w =
        let n : i ≡ line.0 = ap line_number w in
        let below : i < line_count = ltb-true _ _ (and_right (ltb 0 (length name)) _ q) in
        let some_name : 0 < length name = ltb-true _ _ (and_left _ _ q) in
        let at : i - 0 ≡ line.0 = omega arith in
        let found : same name (get_or (names_in registry) line.0 []) ≡ true
        = subst (λ (m : ℕ). same name (get_or (names_in registry) m []) ≡ true) at (index_same name (names_in registry) 0 below) in
        let long : length name ≡ length (get_or (names_in registry) line.0 []) = ap length (same_true name _ found) in
        record { there = omega arith; used = some_used (get_or (names_in registry) line.0 []) (omega arith) }

-- ---- the slot that is found

pub length_slots : (registry : List ℕ) (line : Line) → length (slots_of registry line) ≡ slot_count
unfolding slots_of
length_slots registry line =
    length-map (slots_in (line_at registry line)) slot_of ∙ length_blocks slot_size slot_count (drop line_head (line_at registry line))

slot_number : Option Slot → ℕ
slot_number (Some slot) = slot.0
slot_number None = 0

module _ (name : List ℕ) (slots : List Entry) where
  k : ℕ
  k = index_from name (map name_of slots) 0

  pub found_below : (slot : Slot) → slot_named name slots ≡ Some slot → slot.0 < length slots
  unfolding slot_named slot_number k
  found_below slot e = go (ltb k (length slots)) refl e
    where
      go : (t : Bool) → ltb k (length slots) ≡ t → (let found : Option Slot = when t then Some (record { 0 = k }) else None in found) ≡ Some slot → slot.0 < length slots
      go true q w =
          let n : k ≡ slot.0 = ap slot_number w in
          let h : k < length slots = ltb-true _ _ q in
          omega arith
      go false q w = absurd (let z : ◌≡◌ {A = ℕ} 0 1 = cc in omega arith)

  pub found_name : (slot : Slot) → slot_named name slots ≡ Some slot → name_of (get_or slots slot.0 free) ≡ name
  unfolding slot_named slot_number k
  found_name slot e = go (ltb k (length slots)) refl e
    where
      go : (t : Bool) → ltb k (length slots) ≡ t → (let found : Option Slot = when t then Some (record { 0 = k }) else None in found) ≡ Some slot
          → name_of (get_or slots slot.0 free) ≡ name
      go true q w =
          let n : k - 0 ≡ slot.0 = (let z : k - 0 ≡ k = omega arith in z) ∙ ap slot_number w in
          let h : slot.0 < length slots = found_below slot e in
          let below : k < 0 + length (map name_of slots) = omega (arith, length-map slots name_of) in
          sym (same_true name _ (subst (λ (m : ℕ). same name (get_or (map name_of slots) m []) ≡ true) n (index_same name (map name_of slots) 0 below))
          ∙ map_at name_of slots slot.0 free [] h)
      go false q w = cc

  pub found_none : slot_named name slots ≡ None → is_new name (map name_of slots) ≡ true
  unfolding slot_named k
  found_none e = go (ltb k (length slots)) refl e
    where
      go : (t : Bool) → ltb k (length slots) ≡ t → (let found : Option Slot = when t then Some (record { 0 = k }) else None in found) ≡ None
          → is_new name (map name_of slots) ≡ true
      go true q w = cc
      go false q w =
          let h : length slots ≤ k = ltb-false _ _ q in
          index_none name (map name_of slots) 0 (let x : 0 + length (map name_of slots) ≤ k = omega (arith, length-map slots name_of) in x)

-- a slot that was found is one of the application's
pub slot_below : (registry : List ℕ) (line : Line) (name : List ℕ) (slot : Slot) → slot_named name (slots_of registry line) ≡ Some slot → slot.0 < slot_count
slot_below registry line name slot e = omega (arith, length_slots registry line, found_below name (slots_of registry line) slot e)

-- the slots' names, where they lie
pub slot_names : (bs : List (List ℕ)) → map name_of (map slot_of bs) ≡ map name_in bs
slot_names [] = refl
slot_names (b ∷ bs) = λ i. name_of_lem b i ∷ slot_names bs i

-- where a slot begins, by the numbers of its line and itself
abbrev pub place_of : (l k : ℕ) → ℕ
place_of l k = place (record { 0 = l }) (record { 0 = k })

-- slot k of line l, where it lies in the registry
pub slot_place : (registry : List ℕ) (l k : ℕ) → k < slot_count
    → take slot_size (drop (k * slot_size) (drop line_head (line_at registry (record { 0 = l })))) ≡ take slot_size (drop (place_of l k) registry)
slot_place registry l k h =
    ap (take slot_size) (drop-drop (k * slot_size) line_head (line_at registry (record { 0 = l })))
    ∙ part_of_part slot_size (line_head + k * slot_size) line_size (drop (l * line_size) registry) (omega arith)
    ∙ ap (take slot_size) (drop-drop (line_head + k * slot_size) (l * line_size) registry)

pub slot_there_lem : (registry : List ℕ) (line : Line) (k : ℕ) → k < slot_count
    → get_or (slots_of registry line) k free ≡ slot_of (take slot_size (drop (place line (record { 0 = k })) registry))
unfolding slots_of
slot_there_lem registry line k h =
    let l : List ℕ = line_at registry line in
    map_at slot_of (slots_in l) k [] free (rw (length_blocks slot_size slot_count (drop line_head l)) h)
    ∙ ap slot_of (block_at_lem slot_size slot_count (drop line_head l) k h ∙ slot_place registry line.0 k h)

-- ---- an application and its name

-- the name that an application was found by is its line's
pub found_line : (registry name : List ℕ) (line : Line) → application_named registry name ≡ Some line → get_or (names_in registry) line.0 [] ≡ name
unfolding application_named line_number
found_line registry name line e = go (ltb 0 (length name) && ltb i line_count) refl e
  where
    i : ℕ
    i = index_from name (names_in registry) 0

    go : (t : Bool) → ltb 0 (length name) && ltb i line_count ≡ t
        → (let found : Option Line = when t then Some (record { 0 = i }) else None in found) ≡ Some line → get_or (names_in registry) line.0 [] ≡ name
    go false q w = absurd (some≢none line (sym w))
    go true q w =
        let n : i ≡ line.0 = ap line_number w in
        let below : i < line_count = ltb-true _ _ (and_right (ltb 0 (length name)) _ q) in
        let at : i - 0 ≡ line.0 = omega arith in
        sym (same_true name _ (subst (λ (m : ℕ). same name (get_or (names_in registry) m []) ≡ true) at (index_same name (names_in registry) 0 below)))

-- it is found by the names alone
pub found_by_names : (r s name : List ℕ) → names_in r ≡ names_in s → application_named r name ≡ application_named s name
unfolding application_named
found_by_names r s name e = rw e
