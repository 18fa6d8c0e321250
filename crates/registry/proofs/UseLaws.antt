-- How often the key in a slot was used, where it lies in the registry and after each change (document 02, "Use per key").
use mathlib.Core.Path.{◌≡◌, refl, sym, ap, ◌∙◌}
use mathlib.Core.Bool.{Bool, true, false}
use mathlib.Core.List.{List, [], map}
use Prim.Native.Nat.{ℕ, ◌+◌, ◌*◌, ◌<◌}
use native.Mathlib.Omega.{arith}
use borrow.Author.Tests.{eqb-true, eqb-false}
use lib.ListN.{length, take, drop, get_or, set, length-drop, length-map, length-replicate}
use lib.Seq.{get_or-set_same, get_or-set_other, set-get_or}
use lib.Dec.{eqb}
use Rattle.wire.specs.Lists.{all, is_zero, put, blocks}
use Rattle.wire.specs.Numbers.{field}
use Rattle.wire.proofs.TestLaws.{every_at}
use Rattle.wire.proofs.ListLaws.{map_at, map_set, length_part, all_zeros}
use Rattle.wire.proofs.PutLaws.{drop_put}
use Rattle.wire.proofs.NumberLaws.{field_part, zero_field}
use Rattle.wire.proofs.BlockLaws.{length_blocks, block_at_lem, blocks_put, blocks_put_whole}
use Rattle.keys.specs.Key.{Key}
use Rattle.keys.specs.Names.{key_name_most, legal_name}
use Rattle.keys.proofs.NameLaws.{legal_some}
use Rattle.registry.specs.Names.{name_in}
use Rattle.registry.specs.Slots.{Entry, free, held, name_of, key_bytes, slot_bytes, slot_of, slot_size, uses_at, uses_in, used, used_slot, key_tests, well_formed_slot}
use Rattle.registry.specs.Registry.{line_count, slot_count, line_head, line_size, registry_size, lines_in, slots_in, line_at, slots_of, uses_of, place, slot_at, Change, unchanged, fill, clear, add_use, changed}
use Rattle.registry.specs.WellFormed.{well_formed_registry}
use Rattle.registry.specs.declared.Line.{Line}
use Rattle.registry.specs.declared.Slot.{Slot}
use Rattle.registry.proofs.SlotLaws.{Legal, name_of_lem, free_slot, key_slot, key_length, key_unused, short_name, short_data, slot_back}
use Rattle.registry.proofs.RegistryLaws.{slot_place, slot_there_lem, slot_below}
use Rattle.registry.proofs.UsedLaws.{length_used, uses_used, held_named, slot_used}
use Rattle.registry.proofs.WellFormedLaws.{Allowed, stays, fills, clears, uses, good_of, slot_good}

-- the count of slot k of a line, where it lies
pub uses_at_lem : (registry : List ℕ) (line : Line) (k : ℕ) → k < slot_count
    → get_or (uses_of registry line) k 0 ≡ uses_in (take slot_size (drop (place line (record { 0 = k })) registry))
unfolding uses_of
uses_at_lem registry line k h =
    let l : List ℕ = line_at registry line in
    map_at uses_in (slots_in l) k [] 0 (rw (length_blocks slot_size slot_count (drop line_head l)) h)
    ∙ ap uses_in (block_at_lem slot_size slot_count (drop line_head l) k h ∙ slot_place registry line.0 k h)

pub uses_there : (registry : List ℕ) (line : Line) (k : ℕ) → k < slot_count
    → get_or (uses_of registry line) k 0 ≡ field (place line (record { 0 = k }) + uses_at) 4 registry
uses_there registry line k h = uses_at_lem registry line k h ∙ field_part (place line (record { 0 = k })) slot_size uses_at 4 registry (omega arith)

pub length_uses : (registry : List ℕ) (line : Line) → length (uses_of registry line) ≡ slot_count
unfolding uses_of
length_uses registry line =
    length-map (slots_in (line_at registry line)) uses_in ∙ length_blocks slot_size slot_count (drop line_head (line_at registry line))

-- ---- a slot that is written, and the line that it is in; the other lines stay

module _ (r : List ℕ) (size : length r ≡ registry_size) (line : Line) (hl : line.0 < line_count) (slot : Slot) (hk : slot.0 < slot_count)
    (v : List ℕ) (long : length v ≡ slot_size) where
  abbrev after : List ℕ
  after = put r (place line slot) v

  abbrev part : List ℕ
  part = get_or (lines_in r) line.0 []

  lines_put : lines_in after ≡ set (lines_in r) line.0 (put part (line_head + slot.0 * slot_size) v)
  lines_put = blocks_put line_size line_count r line.0 (line_head + slot.0 * slot_size) v size hl (omega arith)

  slots_put : slots_in (line_at after line) ≡ set (slots_in (line_at r line)) slot.0 v
  slots_put =
      let there : part ≡ line_at r line = block_at_lem line_size line_count r line.0 hl in
      let whole : length (line_at r line) ≡ line_size = length_part r (line.0 * line_size) line_size (omega arith) in
      let line_put : line_at after line ≡ put (line_at r line) (line_head + slot.0 * slot_size) v =
      sym (block_at_lem line_size line_count after line.0 hl) ∙ ap (λ (ls : List (List ℕ)). get_or ls line.0 []) lines_put
      ∙ get_or-set_same (lines_in r) line.0 _ [] (rw (length_blocks line_size line_count r) hl)
      ∙ ap (λ (l : List ℕ). put l (line_head + slot.0 * slot_size) v) there in
      ap slots_in line_put
      ∙ ap (blocks slot_count slot_size) (drop_put line_head (line_at r line) v (slot.0 * slot_size) (omega arith))
      ∙ blocks_put_whole slot_size slot_count (drop line_head (line_at r line)) slot.0 v (omega (arith, length-drop line_head (line_at r line))) hk long

  line_apart : (line' : Line) → line'.0 < line_count → (line.0 ≡ line'.0 → ⊥) → line_at after line' ≡ line_at r line'
  line_apart line' h' other =
      sym (block_at_lem line_size line_count after line'.0 h') ∙ ap (λ (ls : List (List ℕ)). get_or ls line'.0 []) lines_put
      ∙ get_or-set_other (lines_in r) line.0 line'.0 _ [] (λ e. other (sym e))
      ∙ block_at_lem line_size line_count r line'.0 h'

  uses_put : uses_of after line ≡ set (uses_of r line) slot.0 (uses_in v)
  unfolding uses_of
  uses_put = ap (map uses_in) slots_put ∙ map_set uses_in (slots_in (line_at r line)) slot.0 v

-- ---- after a change

nameless_zero : (s : List ℕ) → well_formed_slot s ≡ true → name_in s ≡ [] → all is_zero s ≡ true
nameless_zero s good nameless = go (eqb (get_or s 0 0) 0) refl
  where
    go : (t : Bool) → eqb (get_or s 0 0) 0 ≡ t → all is_zero s ≡ true
    go true q = sym (free_slot s (eqb-true _ _ q)) ∙ good
    go false q =
        let legal : legal_name key_name_most (name_in s) ≡ true = every_at (key_tests s) 0 (sym (key_slot s (eqb-false _ _ q)) ∙ good) in
        let named = legal_some key_name_most (name_in s) legal in
        absurd (omega (arith, ap length nameless))

module _ (r : List ℕ) (w : well_formed_registry r ≡ true) (line : Line) (hl : line.0 < line_count) (slot : Slot) (hk : slot.0 < slot_count) where
  slot_long : length (slot_at r line slot) ≡ slot_size
  slot_long = length_part r (place line slot) slot_size (omega (arith, (good_of r w).size))

  -- a key was never used when it comes, and its count goes with it
  pub filled_uses : (key : Key) → Legal key → uses_of (changed r line (fill slot key)) line ≡ set (uses_of r line) slot.0 0
  unfolding changed
  filled_uses key legal =
      uses_put r (good_of r w).size line hl slot hk (key_bytes key) (key_length key legal) ∙ ap (set (uses_of r line) slot.0) (key_unused key legal)

  pub cleared_uses : uses_of (changed r line (clear slot)) line ≡ set (uses_of r line) slot.0 0
  unfolding changed slot_bytes
  cleared_uses =
      uses_put r (good_of r w).size line hl slot hk (slot_bytes free) (length-replicate {A = ℕ} slot_size 0)
      ∙ ap (set (uses_of r line) slot.0) (zero_field uses_at 4 (slot_bytes free) (all_zeros slot_size))

  pub added_uses : uses_of (changed r line (add_use slot)) line ≡ set (uses_of r line) slot.0 (used (get_or (uses_of r line) slot.0 0))
  unfolding changed
  added_uses =
      let s : List ℕ = slot_at r line slot in
      uses_put r (good_of r w).size line hl slot hk (used_slot s) (length_used s slot_long)
      ∙ ap (set (uses_of r line) slot.0) (uses_used s slot_long ∙ ap used (sym (uses_at_lem r line slot.0 hk)))

  -- a use changes no key
  pub added_slots : (key : Key) → get_or (slots_of r line) slot.0 free ≡ held key → slots_of (changed r line (add_use slot)) line ≡ slots_of r line
  unfolding changed slots_of
  added_slots key e =
      let s : List ℕ = slot_at r line slot in
      let there : slot_of s ≡ get_or (slots_of r line) slot.0 free = sym (slot_there_lem r line slot.0 hk) in
      let named : get_or s 0 0 ≡ 0 → ⊥ = held_named s key (there ∙ e) in
      let same : slot_of (used_slot s) ≡ slot_of s = slot_used s slot_long named (slot_good r w line.0 slot.0 hl hk) in
      ap (map slot_of) (slots_put r (good_of r w).size line hl slot hk (used_slot s) (length_used s slot_long))
      ∙ map_set slot_of (slots_in (line_at r line)) slot.0 (used_slot s)
      ∙ ap (set (slots_of r line) slot.0) (same ∙ there)
      ∙ set-get_or (slots_of r line) slot.0 free

  -- a slot without a name is free, and its count is 0
  pub free_unused : name_of (get_or (slots_of r line) slot.0 free) ≡ [] → get_or (uses_of r line) slot.0 0 ≡ 0
  free_unused e =
      let s : List ℕ = slot_at r line slot in
      let nameless : name_in s ≡ [] = sym (name_of_lem s) ∙ ap name_of (sym (slot_there_lem r line slot.0 hk)) ∙ e in
      uses_at_lem r line slot.0 hk ∙ zero_field uses_at 4 s (nameless_zero s (slot_good r w line.0 slot.0 hl hk) nameless)

-- the other lines stay, keys and counts
module _ (r : List ℕ) (w : well_formed_registry r ≡ true) (line : Line) (hl : line.0 < line_count) (line' : Line) (h' : line'.0 < line_count)
    (other : line.0 ≡ line'.0 → ⊥) where
  change_apart : (c : Change) → Allowed (slots_of r line) c → line_at (changed r line c) line' ≡ line_at r line'
  unfolding changed slot_bytes
  change_apart unchanged stays = refl
  change_apart (fill slot key) (fills legal n e) =
      line_apart r (good_of r w).size line hl slot (slot_below r line [] slot e) (key_bytes key) (key_length key legal) line' h' other
  change_apart (clear slot) (clears name e) =
      line_apart r (good_of r w).size line hl slot (slot_below r line name slot e) (slot_bytes free) (length-replicate {A = ℕ} slot_size 0) line' h' other
  change_apart (add_use slot) (uses name key e q) =
      let hk = slot_below r line name slot e in
      let s : List ℕ = slot_at r line slot in
      line_apart r (good_of r w).size line hl slot hk (used_slot s) (length_used s (slot_long r w line hl slot hk)) line' h' other

  pub others_slots : (c : Change) → Allowed (slots_of r line) c → slots_of (changed r line c) line' ≡ slots_of r line'
  unfolding slots_of
  others_slots c a = ap (λ (l : List ℕ). map slot_of (slots_in l)) (change_apart c a)

  pub others_uses : (c : Change) → Allowed (slots_of r line) c → uses_of (changed r line c) line' ≡ uses_of r line'
  unfolding uses_of
  others_uses c a = ap (λ (l : List ℕ). map uses_in (slots_in l)) (change_apart c a)

-- ---- what a change makes of its line: it goes by the line's slots and counts alone

unfoldable pub changed_slots : List Entry → Change → List Entry
changed_slots slots unchanged = slots
changed_slots slots (fill slot key) = set slots slot.0 (held key)
changed_slots slots (clear slot) = set slots slot.0 free
changed_slots slots (add_use slot) = slots

unfoldable pub changed_uses : List ℕ → Change → List ℕ
changed_uses counts unchanged = counts
changed_uses counts (fill slot key) = set counts slot.0 0
changed_uses counts (clear slot) = set counts slot.0 0
changed_uses counts (add_use slot) = set counts slot.0 (used (get_or counts slot.0 0))

module _ (r : List ℕ) (w : well_formed_registry r ≡ true) (line : Line) (hl : line.0 < line_count) where
  -- a slot that is written: the others stay
  set_slots : (slot : Slot) → slot.0 < slot_count → (v : List ℕ) → length v ≡ slot_size
      → slots_of (put r (place line slot) v) line ≡ set (slots_of r line) slot.0 (slot_of v)
  unfolding slots_of
  set_slots slot hk v long =
      ap (map slot_of) (slots_put r (good_of r w).size line hl slot hk v long) ∙ map_set slot_of (slots_in (line_at r line)) slot.0 v

  pub own_slots : (c : Change) → Allowed (slots_of r line) c → slots_of (changed r line c) line ≡ changed_slots (slots_of r line) c
  unfolding changed changed_slots slot_bytes slot_of
  own_slots unchanged stays = refl
  own_slots (fill slot key) (fills legal n e) =
      set_slots slot (slot_below r line [] slot e) (key_bytes key) (key_length key legal)
      ∙ ap (set (slots_of r line) slot.0) (slot_back key (short_name key legal) (short_data key legal) (legal_some key_name_most key.name legal.name))
  own_slots (clear slot) (clears name e) = set_slots slot (slot_below r line name slot e) (slot_bytes free) (length-replicate {A = ℕ} slot_size 0)
  own_slots (add_use slot) (uses name key e q) = added_slots r w line hl slot (slot_below r line name slot e) key q

  pub own_uses : (c : Change) → Allowed (slots_of r line) c → uses_of (changed r line c) line ≡ changed_uses (uses_of r line) c
  unfolding changed_uses
  own_uses unchanged stays = unfold changed in refl
  own_uses (fill slot key) (fills legal n e) = filled_uses r w line hl slot (slot_below r line [] slot e) key legal
  own_uses (clear slot) (clears name e) = cleared_uses r w line hl slot (slot_below r line name slot e)
  own_uses (add_use slot) (uses name key e q) = added_uses r w line hl slot (slot_below r line name slot e)
