-- A registry with use counts 0: its applications and keys are the same, and a change of either is a change of the other.
use mathlib.Core.Path.{◌≡◌, refl, sym, ap, ap₂, ◌∙◌, subst}
use mathlib.Core.Bool.{Bool, true, false, true≢false, not, ◌||◌, ◌&&◌}
use mathlib.Core.List.{List, [], ◌∷◌, ◌++◌, append-nil, map, flatten}
use Prim.Native.Nat.{ℕ, ◌+◌, ◌-◌, ◌*◌, ◌≤◌, ◌<◌, min}
use native.Mathlib.Omega.{arith}
use borrow.Author.Tests.{eqb-true, eq-eqb}
use lib.ListN.{length, take, drop, get_or, length-append, length-take, length-drop, length-replicate, take-append-drop, drop_of_length-le}
use lib.Seq.{get_or-take, length-take-le, take_at, drop_at, take-add}
use lib.Dec.{eqb}
use Rattle.wire.specs.Lists.{all, put, blocks}
use Rattle.wire.proofs.TestLaws.{and_left, and_right}
use Rattle.wire.proofs.ListLaws.{length_part, part_of_part, all_at, map_at, all_zeros}
use Rattle.wire.proofs.PutLaws.{put_behind, take_put, drop_put}
use Rattle.wire.proofs.NumberLaws.{zero_field}
use Rattle.wire.proofs.BlockLaws.{Sized, length_blocks, sized_blocks, block_at_lem}
use Rattle.keys.specs.Names.{application_name_most, legal_name}
use Rattle.keys.proofs.NameLaws.{legal_short}
use Rattle.registry.specs.Names.{name_in}
use Rattle.registry.specs.Slots.{free, key_bytes, slot_bytes, slot_of, slot_size, uses_in, used_slot, well_formed_slot}
use Rattle.registry.specs.Registry.{line_count, slot_count, line_head, line_size, registry_size, lines_in, slots_in, line_at, slots_of, place, slot_at, Change, unchanged, fill, clear, add_use, changed}
use Rattle.registry.specs.WellFormed.{is_used, legal_if_used, slots_well_formed, well_formed_registry}
use Rattle.registry.specs.declared.Line.{Line}
use Rattle.registry.specs.declared.Slot.{Slot}
use Rattle.registry.proofs.SlotLaws.{key_length, key_unused}
use Rattle.registry.proofs.RegistryLaws.{slot_below}
use Rattle.registry.proofs.WellFormedLaws.{Allowed, stays, fills, clears, uses, good_of}
use Rattle.registry.proofs.UsedLaws.{length_used as used-long}
use Rattle.journal.proofs.ReplayLaws.{recorded, Alike}
use Rattle.recovery.specs.Unused.{unused_slot, unused_line, never_used, unused}
use Rattle.recovery.proofs.BlockLaws.{length_changed, blocks_changed, changed_put, changed_none}
use Rattle.recovery.proofs.CountLaws.{length_unused, slot_kept, idle, unused_used, no_use}

-- ---- bytes put in the place of all, and of themselves

put_whole : (b v : List ℕ) → length b ≡ length v → put b 0 v ≡ v
put_whole b v e =
    let none : drop (0 + length v) b ≡ [] = drop_of_length-le b (let x : length b ≤ 0 + length v = omega arith in x) in
    ap (λ (l : List ℕ). v ++ l) none ∙ append-nil v

put_same : (b : List ℕ) (at n : ℕ) → at + n ≤ length b → put b at (take n (drop at b)) ≡ b
put_same b at n h =
    ap (λ (k : ℕ). take at b ++ take n (drop at b) ++ drop (at + k) b) (length_part b at n h)
    ∙ ap (λ (l : List ℕ). l ++ drop (at + n) b) (sym (take-add at n b))
    ∙ take-append-drop (at + n) b

-- ---- a line

module _ (line : List ℕ) (long : length line ≡ line_size) where
  slots_long : length (drop line_head line) ≡ slot_count * slot_size
  slots_long = length-drop line_head line ∙ (let x : length line - line_head ≡ slot_count * slot_size = omega arith in x)

  head_long : length (take line_head line) ≡ line_head
  head_long = length-take-le line_head line (omega arith)

  pub length_line : length (unused_line line) ≡ line_size
  unfolding unused_line
  length_line =
      length-append (take line_head line) _
      ∙ (let n = length_changed unused_slot slot_size length_unused slot_count (drop line_head line) slots_long in omega (arith, head_long))

  head_kept : take line_head (unused_line line) ≡ take line_head line
  unfolding unused_line
  head_kept = take_at (take line_head line) _ line_head head_long

  pub slots_kept : slots_in (unused_line line) ≡ map unused_slot (slots_in line)
  unfolding unused_line
  slots_kept =
      ap (blocks slot_count slot_size) (drop_at (take line_head line) _ line_head head_long)
      ∙ blocks_changed unused_slot slot_size length_unused slot_count (drop line_head line) slots_long

  -- a slot that is written
  pub line_put : (k : ℕ) (v : List ℕ) → k < slot_count → length v ≡ slot_size
      → unused_line (put line (line_head + k * slot_size) v) ≡ put (unused_line line) (line_head + k * slot_size) (unused_slot v)
  unfolding unused_line
  line_put k v h e =
      let rest : List ℕ = drop line_head line in
      let b : List ℕ = get_or (blocks slot_count slot_size rest) k [] in
      let sized : length b ≡ slot_size = ap length (block_at_lem slot_size slot_count rest k h) ∙ length_part rest (k * slot_size) slot_size (omega (arith, slots_long)) in
      let zero_at : k * slot_size + 0 ≡ k * slot_size = omega arith in
      let body : flatten (map unused_slot (blocks slot_count slot_size (put rest (k * slot_size) v))) ≡ put (flatten (map unused_slot (blocks slot_count slot_size rest))) (k * slot_size) (unused_slot v)
      = subst (λ (n : ℕ). flatten (map unused_slot (blocks slot_count slot_size (put rest n v))) ≡ put (flatten (map unused_slot (blocks slot_count slot_size rest))) n (unused_slot v)) zero_at
      (changed_put unused_slot slot_size length_unused slot_count rest slots_long k 0 v (unused_slot v) h (omega arith) (length_unused v e ∙ sym e)
      (ap unused_slot (put_whole b v (sized ∙ sym e)) ∙ sym (put_whole (unused_slot b) (unused_slot v) (length_unused b sized ∙ sym (length_unused v e))))) in
      ap₂ (λ (x y : List ℕ). x ++ flatten (map unused_slot (blocks slot_count slot_size y)))
      (take_put line_head line v (k * slot_size) (omega arith)) (drop_put line_head line v (k * slot_size) (omega arith))
      ∙ ap (λ (l : List ℕ). take line_head line ++ l) body
      ∙ sym (put_behind (take line_head line) (flatten (map unused_slot (blocks slot_count slot_size rest))) (unused_slot v) (k * slot_size))
      ∙ ap (λ (n : ℕ). put (take line_head line ++ flatten (map unused_slot (blocks slot_count slot_size rest))) (n + k * slot_size) (unused_slot v)) head_long

  -- its name stays
  name_small : legal_if_used (name_in line) ≡ true → get_or line 0 0 ≤ application_name_most
  name_small l = go (is_used (name_in line)) refl
    where
      m : length (name_in line) ≡ min (get_or line 0 0) (length line - 1)
      m = length-take (get_or line 0 0) (drop 1 line) ∙ ap (min (get_or line 0 0)) (length-drop 1 line)

      go : (t : Bool) → is_used (name_in line) ≡ t → get_or line 0 0 ≤ application_name_most
      go true u =
          let legal : legal_name application_name_most (name_in line) ≡ true = subst (λ (t : Bool). not t || legal_name application_name_most (name_in line) ≡ true) u l in
          omega (arith, legal_short application_name_most (name_in line) legal, m)
      go false u = omega (arith, m, none (eqb (length (name_in line)) 0) refl u)
        where
          none : (t : Bool) → eqb (length (name_in line)) 0 ≡ t → not t ≡ false → length (name_in line) ≡ 0
          none true e w = eqb-true _ _ e
          none false e w = absurd (true≢false w)

  front_name : (l : List ℕ) → get_or l 0 0 ≤ application_name_most → name_in (take line_head l) ≡ name_in l
  front_name l h =
      let e : get_or (take line_head l) 0 0 ≡ get_or l 0 0 = get_or-take line_head l 0 0 (omega arith) in
      rw e (part_of_part (get_or l 0 0) 1 line_head l (omega arith))

  pub name_kept : legal_if_used (name_in line) ≡ true → name_in (unused_line line) ≡ name_in line
  name_kept l =
      let small = name_small l in
      let first : get_or (unused_line line) 0 0 ≡ get_or line 0 0
      = sym (get_or-take line_head (unused_line line) 0 0 (omega arith)) ∙ ap (λ (x : List ℕ). get_or x 0 0) head_kept ∙ get_or-take line_head line 0 0 (omega arith) in
      sym (front_name (unused_line line) (omega arith)) ∙ ap name_in head_kept ∙ front_name line small

-- ---- the registry

map_same : {A B : Type 0} (f g : A → B) (p : A → Bool) → ((a : A) → p a ≡ true → f a ≡ g a) → (l : List A) → all p l ≡ true → map f l ≡ map g l
map_same f g p h [] e = refl
map_same f g p h (x ∷ l) e = λ i. h x (and_left (p x) _ e) i ∷ map_same f g p h l (and_right (p x) _ e) i

names_map : (ls : List (List ℕ)) → Sized line_size ls → all legal_if_used (map name_in ls) ≡ true → map name_in (map unused_line ls) ≡ map name_in ls
names_map [] s e = refl
names_map (l ∷ ls) s e = λ i. name_kept l s.0 (and_left (legal_if_used (name_in l)) _ e) i ∷ names_map ls s.1 (and_right (legal_if_used (name_in l)) _ e) i

slots_map : (bs : List (List ℕ)) → Sized slot_size bs → all well_formed_slot bs ≡ true → map slot_of (map unused_slot bs) ≡ map slot_of bs
slots_map [] s e = refl
slots_map (b ∷ bs) s e = λ i. slot_kept b s.0 (and_left (well_formed_slot b) _ e) i ∷ slots_map bs s.1 (and_right (well_formed_slot b) _ e) i

module _ (r : List ℕ) (size : length r ≡ registry_size) where
  pub length_registry : length (unused r) ≡ registry_size
  unfolding unused
  length_registry = length_changed unused_line line_size length_line line_count r size

  lines_kept : lines_in (unused r) ≡ map unused_line (lines_in r)
  unfolding unused
  lines_kept = blocks_changed unused_line line_size length_line line_count r size

  line_long : (line : Line) → line.0 < line_count → length (line_at r line) ≡ line_size
  line_long line h = length_part r (line.0 * line_size) line_size (omega arith)

  line_kept : (line : Line) → line.0 < line_count → line_at (unused r) line ≡ unused_line (line_at r line)
  line_kept line h =
      sym (block_at_lem line_size line_count (unused r) line.0 h)
      ∙ ap (λ (ls : List (List ℕ)). get_or ls line.0 []) lines_kept
      ∙ map_at unused_line (lines_in r) line.0 [] [] (let x : line.0 < length (lines_in r) = omega (arith, length_blocks line_size line_count r) in x)
      ∙ ap unused_line (block_at_lem line_size line_count r line.0 h)

  -- a slot that is written
  pub registry_put : (line : Line) → line.0 < line_count → (slot : Slot) → slot.0 < slot_count → (v : List ℕ) → length v ≡ slot_size
      → unused (put r (place line slot) v) ≡ put (unused r) (place line slot) (unused_slot v)
  unfolding unused
  registry_put line hl slot hk v e =
      let b : List ℕ = get_or (lines_in r) line.0 [] in
      let sized : length b ≡ line_size = ap length (block_at_lem line_size line_count r line.0 hl) ∙ line_long line hl in
      changed_put unused_line line_size length_line line_count r size line.0 (line_head + slot.0 * slot_size) v (unused_slot v) hl (omega arith)
      (length_unused v e ∙ sym e) (line_put b sized slot.0 v hk e)

module _ (r : List ℕ) (w : well_formed_registry r ≡ true) where
  size : length r ≡ registry_size
  size = (good_of r w).size

  -- the same applications and keys
  pub alike : Alike (unused r) r
  unfolding slots_of
  alike = record {
    names = ap (map name_in) (lines_kept r size) ∙ names_map (lines_in r) (sized_blocks line_size line_count r size) (good_of r w).lines.legal;
    slots = λ line u.
        let l : List ℕ = line_at r line in
        let long : length l ≡ line_size = line_long r size line u.there in
        let there : get_or (lines_in r) line.0 [] ≡ l = block_at_lem line_size line_count r line.0 u.there in
        let good : all well_formed_slot (slots_in l) ≡ true
        = subst (λ (x : List ℕ). slots_well_formed x ≡ true) there
        (all_at slots_well_formed [] (lines_in r) line.0 (let x : line.0 < length (lines_in r) = omega (arith, length_blocks line_size line_count r, u.there) in x) (good_of r w).lines.slots) in
        ap (λ (x : List ℕ). map slot_of (slots_in x)) (line_kept r size line u.there)
        ∙ ap (map slot_of) (slots_kept l long)
        ∙ slots_map (slots_in l) (sized_blocks slot_size slot_count (drop line_head l) (slots_long l long)) good;
  }

  -- what a change makes of the counts is gone, and the rest of it stays
  pub unused_change : (line : Line) → line.0 < line_count → (c : Change) → Allowed (slots_of r line) c → unused (changed r line c) ≡ changed (unused r) line (recorded c)
  unfolding changed recorded
  unused_change line hl unchanged stays = refl
  unused_change line hl (fill slot key) (fills legal n e) =
      registry_put r size line hl slot (slot_below r line [] slot e) (key_bytes key) (key_length key legal)
      ∙ ap (put (unused r) (place line slot)) (idle (key_bytes key) (key_length key legal) (key_unused key legal))
  unused_change line hl (clear slot) (clears name e) =
      let zeros : length (slot_bytes free) ≡ slot_size = (unfold slot_bytes in length-replicate {A = ℕ} slot_size 0) in
      registry_put r size line hl slot (slot_below r line name slot e) (slot_bytes free) zeros
      ∙ ap (put (unused r) (place line slot)) (idle (slot_bytes free) zeros (unfold slot_bytes in zero_field _ 4 (slot_bytes free) (all_zeros slot_size)))
  unused_change line hl (add_use slot) (uses name key e q) =
      let hk = slot_below r line name slot e in
      let s : List ℕ = slot_at r line slot in
      let fits : place line slot + slot_size ≤ length r = omega (arith, size) in
      let long : length s ≡ slot_size = length_part r (place line slot) slot_size fits in
      registry_put r size line hl slot hk (used_slot s) (used-long s long)
      ∙ ap (put (unused r) (place line slot)) (unused_used s long)
      ∙ sym (registry_put r size line hl slot hk s long)
      ∙ ap unused (put_same r (place line slot) slot_size fits)

-- ---- counts that are 0 already

idle_slots : (bs : List (List ℕ)) → Sized slot_size bs → all (λ slot. eqb (uses_in slot) 0) bs ≡ true → map unused_slot bs ≡ bs
idle_slots [] s e = refl
idle_slots (b ∷ bs) s e =
    λ i. idle b s.0 (eqb-true _ _ (and_left (eqb (uses_in b) 0) _ e)) i ∷ idle_slots bs s.1 (and_right (eqb (uses_in b) 0) _ e) i

idle_line : (line : List ℕ) → length line ≡ line_size → all (λ slot. eqb (uses_in slot) 0) (slots_in line) ≡ true → unused_line line ≡ line
unfolding unused_line
idle_line line long e =
    let rest : length (drop line_head line) ≡ slot_count * slot_size = slots_long line long in
    ap (λ (l : List ℕ). take line_head line ++ l)
    (changed_none unused_slot slot_size length_unused slot_count (drop line_head line) rest
    (idle_slots (slots_in line) (sized_blocks slot_size slot_count (drop line_head line) rest) e))
    ∙ take-append-drop line_head line

idle_lines : (ls : List (List ℕ)) → Sized line_size ls → all (λ line. all (λ slot. eqb (uses_in slot) 0) (slots_in line)) ls ≡ true → map unused_line ls ≡ ls
idle_lines [] s e = refl
idle_lines (l ∷ ls) s e =
    let t : Bool = all (λ slot. eqb (uses_in slot) 0) (slots_in l) in
    λ i. idle_line l s.0 (and_left t _ e) i ∷ idle_lines ls s.1 (and_right t _ e) i

pub unused_same : (r : List ℕ) → length r ≡ registry_size → never_used r ≡ true → unused r ≡ r
unfolding never_used unused
unused_same r size e =
    changed_none unused_line line_size length_line line_count r size (idle_lines (lines_in r) (sized_blocks line_size line_count r size) e)

-- ---- and counts that were put to 0

no_uses : (bs : List (List ℕ)) → Sized slot_size bs → all (λ slot. eqb (uses_in slot) 0) (map unused_slot bs) ≡ true
no_uses [] s = refl
no_uses (b ∷ bs) s = ap₂ ◌&&◌ (eq-eqb (uses_in (unused_slot b)) 0 (no_use b s.0)) (no_uses bs s.1)

none_used_lem : (ls : List (List ℕ)) → Sized line_size ls → all (λ line. all (λ slot. eqb (uses_in slot) 0) (slots_in line)) (map unused_line ls) ≡ true
none_used_lem [] s = refl
none_used_lem (l ∷ ls) s =
    ap₂ ◌&&◌
    (ap (all (λ slot. eqb (uses_in slot) 0)) (slots_kept l s.0) ∙ no_uses (slots_in l) (sized_blocks slot_size slot_count (drop line_head l) (slots_long l s.0)))
    (none_used_lem ls s.1)

pub never_used_lem : (r : List ℕ) → length r ≡ registry_size → never_used (unused r) ≡ true
unfolding never_used
never_used_lem r size =
    ap (all (λ line. all (λ slot. eqb (uses_in slot) 0) (slots_in line))) (lines_kept r size) ∙ none_used_lem (lines_in r) (sized_blocks line_size line_count r size)
