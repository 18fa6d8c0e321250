-- A well-formed registry stays so when a slot of a used line is filled with a legal key or cleared, or its key is used.
use Rattle.std.proofs.Common.{Some, None}
use mathlib.Core.Path.{◌≡◌, refl, sym, ap, ap₂, ◌∙◌, subst}
use mathlib.Core.Bool.{Bool, true, not, ◌&&◌, ◌||◌}
use mathlib.Core.List.{List, [], ◌∷◌, map}
use Prim.Native.Nat.{ℕ, zero, suc, ◌+◌, ◌-◌, ◌*◌, ◌≤◌, ◌<◌, min}
use native.Mathlib.Omega.{arith}
use borrow.Author.Tests.{eqb-true, eq-eqb}
use lib.ListN.{length, take, drop, get_or, set, length-take, length-drop, get_or-map, length-map}
use lib.Seq.{get_or-take, map-set_same, set-get_or}
use lib.Dec.{eqb}
use Rattle.wire.specs.Lists.{all, is_zero, put, blocks}
use Rattle.wire.proofs.TestLaws.{and_left, and_right, every_at}
use Rattle.wire.proofs.ListLaws.{length_part, part_of_part, all_at, all_set, all_take, all_drop, zero_at, map_set}
use Rattle.wire.proofs.PutLaws.{length_put, take_put, drop_put}
use Rattle.wire.proofs.BlockLaws.{length_blocks, block_at_lem, all_block, zero_blocks, blocks_put, blocks_put_whole}
use Rattle.keys.specs.Names.{legal_name, application_name_most, is_new}
use Rattle.registry.specs.Names.{name_in, distinct}
use Rattle.keys.specs.Key.{Key}
use Rattle.registry.specs.Slots.{Entry, free, held, key_bytes, slot_bytes, slot_of, used_slot, slot_size, well_formed_slot}
use Rattle.registry.specs.Registry.{line_count, slot_count, line_head, line_size, registry_size, lines_in, names_in, slots_in, line_at, slots_of, slot_named, Change, unchanged, fill, clear, add_use, slot_at, changed}
use Rattle.registry.specs.WellFormed.{is_used, none_used, used_first, legal_if_used, free_if_unused, slots_well_formed, zeros_behind_name, keys_distinct, registry_tests, well_formed_registry}
use Rattle.registry.specs.declared.Line.{Line}
use Rattle.registry.specs.declared.Slot.{Slot}
use Rattle.keys.proofs.NameLaws.{legal_short}
use Rattle.registry.proofs.NameLaws.{lone, lone_absent, Apart, apart_empty, apart_absent, distinct_set, distinct_empty}
use Rattle.registry.proofs.SlotLaws.{Legal, ShortEntry, entry_short, free_good, key_good, key_length, key_name}
use Rattle.registry.proofs.RegistryLaws.{Used, found_none, slot_below, slot_names, place_of, slot_place, slot_there_lem}
use Rattle.registry.proofs.UsedLaws.{length_used, held_named, name_used, good_used}

-- ---- the clauses, one by one

-- those that speak of each line by itself, and of their order
pub record Lines (lines : List (List ℕ)) : Type 0 where
  pub first : used_first (map name_in lines) ≡ true
  pub legal : all legal_if_used (map name_in lines) ≡ true
  pub unused : all free_if_unused lines ≡ true
  pub slots : all slots_well_formed lines ≡ true
  pub zeros : all zeros_behind_name lines ≡ true
  pub keys : all keys_distinct lines ≡ true

pub record Good (registry : List ℕ) : Type 0 where
  pub size : length registry ≡ registry_size
  pub named : distinct (names_in registry) ≡ true
  pub lines : Lines (lines_in registry)

pub good_of : (registry : List ℕ) → well_formed_registry registry ≡ true → Good registry
unfolding well_formed_registry
good_of registry e = record {
  size = eqb-true _ _ (every_at (registry_tests registry) 0 e);
  named = every_at (registry_tests registry) 3 e;
  lines = record {
    first = every_at (registry_tests registry) 1 e;
    legal = every_at (registry_tests registry) 2 e;
    unused = every_at (registry_tests registry) 4 e;
    slots = every_at (registry_tests registry) 5 e;
    zeros = every_at (registry_tests registry) 6 e;
    keys = every_at (registry_tests registry) 7 e;
  };
}

pub well_of : (registry : List ℕ) → Good registry → well_formed_registry registry ≡ true
unfolding well_formed_registry
well_of registry g =
    let l = g.lines in
    rw (eq-eqb (length registry) registry_size g.size, l.first, l.legal, g.named, l.unused, l.slots, l.zeros, l.keys)

-- ---- lines of zeros

module _ (line : List ℕ) (z : all is_zero line ≡ true) where
  zero_name : name_in line ≡ []
  zero_name = ap (λ (n : ℕ). take n (drop 1 line)) (zero_at line 0 z)

  zero_slots : all (λ slot. all is_zero slot) (slots_in line) ≡ true
  zero_slots = zero_blocks slot_count slot_size (drop line_head line) (all_drop is_zero line_head line z)

  zero_free : free_if_unused line ≡ true
  zero_free = ap (λ (n : List ℕ). is_used n || all (λ slot. all is_zero slot) (slots_in line)) zero_name ∙ zero_slots

  zero_behind : zeros_behind_name line ≡ true
  zero_behind =
      all_take is_zero (application_name_most - get_or line 0 0) (drop (1 + get_or line 0 0) line) (all_drop is_zero (1 + get_or line 0 0) line z)

-- slots of zeros are well formed, and have no names
pub zeros_good : (bs : List (List ℕ)) → all (λ slot. all is_zero slot) bs ≡ true → all well_formed_slot bs ≡ true
zeros_good [] e = refl
zeros_good (b ∷ bs) e = ap₂ ◌&&◌ (slot b (and_left (all is_zero b) _ e)) (zeros_good bs (and_right (all is_zero b) _ e))
  where
    slot : (b : List ℕ) → all is_zero b ≡ true → well_formed_slot b ≡ true
    slot b e = unfold well_formed_slot in rw e

zeros_empty : (bs : List (List ℕ)) → all (λ slot. all is_zero slot) bs ≡ true → all (λ x. eqb (length x) 0) (map name_in bs) ≡ true
zeros_empty [] e = refl
zeros_empty (b ∷ bs) e =
    ap₂ ◌&&◌ (ap (λ (n : List ℕ). eqb (length n) 0) (zero_name b (and_left (all is_zero b) _ e))) (zeros_empty bs (and_right (all is_zero b) _ e))

pub zeros_distinct : (bs : List (List ℕ)) → all (λ slot. all is_zero slot) bs ≡ true → distinct (map name_in bs) ≡ true
zeros_distinct bs e = distinct_empty (map name_in bs) (zeros_empty bs e)

pub zero_lines : (ls : List (List ℕ)) → all (λ line. all is_zero line) ls ≡ true → (none_used (map name_in ls) ≡ true) × Lines ls
unfolding used_first
zero_lines [] e = (refl, record { first = refl; legal = refl; unused = refl; slots = refl; zeros = refl; keys = refl })
zero_lines (l ∷ ls) e =
    let z : all is_zero l ≡ true = and_left (all is_zero l) _ e in
    let (none, p) = zero_lines ls (and_right (all is_zero l) _ e) in
    let name = zero_name l z in (
      ap (λ (n : List ℕ). not (is_used n) && none_used (map name_in ls)) name ∙ none,
      record {
        first = ap (λ (n : List ℕ). (is_used n || none_used (map name_in ls)) && used_first (map name_in ls)) name ∙ ap₂ ◌&&◌ none p.first;
        legal = ap (λ (n : List ℕ). legal_if_used n && all legal_if_used (map name_in ls)) name ∙ p.legal;
        unused = ap₂ ◌&&◌ (zero_free l z) p.unused;
        slots = ap₂ ◌&&◌ (zeros_good (slots_in l) (zero_slots l z)) p.slots;
        zeros = ap₂ ◌&&◌ (zero_behind l z) p.zeros;
        keys = ap₂ ◌&&◌ (zeros_distinct (slots_in l) (zero_slots l z)) p.keys;
      },
    )

-- ---- a line in which bytes behind the name are written

head_name : (line : List ℕ) → get_or line 0 0 ≤ application_name_most → name_in (take line_head line) ≡ name_in line
head_name line h =
    let e : get_or (take line_head line) 0 0 ≡ get_or line 0 0 = get_or-take line_head line 0 0 (omega arith) in
    rw e (part_of_part (get_or line 0 0) 1 line_head line (omega arith))

head_zeros : (line : List ℕ) → get_or line 0 0 ≤ application_name_most → zeros_behind_name (take line_head line) ≡ zeros_behind_name line
head_zeros line h =
    let e : get_or (take line_head line) 0 0 ≡ get_or line 0 0 = get_or-take line_head line 0 0 (omega arith) in
    rw e (ap (all is_zero) (part_of_part (application_name_most - get_or line 0 0) (1 + get_or line 0 0) line_head line (omega arith)))

module _ (line : List ℕ) (k : ℕ) (v : List ℕ) (long : length line ≡ line_size) (h : k < slot_count) (e : length v ≡ slot_size) where
  written : List ℕ
  written = put line (line_head + k * slot_size) v

  same_head : take line_head written ≡ take line_head line
  unfolding written
  same_head = take_put line_head line v (k * slot_size) (omega arith)

  same_length_byte : get_or written 0 0 ≡ get_or line 0 0
  same_length_byte =
      sym (get_or-take line_head written 0 0 (omega arith)) ∙ ap (λ (l : List ℕ). get_or l 0 0) same_head ∙ get_or-take line_head line 0 0 (omega arith)

  same_name : get_or line 0 0 ≤ application_name_most → name_in written ≡ name_in line
  same_name n =
      sym (head_name written (let x : get_or written 0 0 ≤ application_name_most = omega (arith, same_length_byte) in x)) ∙ ap name_in same_head ∙ head_name line n

  same_zeros : get_or line 0 0 ≤ application_name_most → zeros_behind_name written ≡ zeros_behind_name line
  same_zeros n =
      sym (head_zeros written (let x : get_or written 0 0 ≤ application_name_most = omega (arith, same_length_byte) in x)) ∙ ap zeros_behind_name same_head ∙ head_zeros line n

  slots_written : slots_in written ≡ set (slots_in line) k v
  unfolding written
  slots_written =
      ap (blocks slot_count slot_size) (drop_put line_head line v (k * slot_size) (omega arith))
      ∙ blocks_put_whole slot_size slot_count (drop line_head line) k v (length-drop line_head line ∙ (let x : length line - line_head ≡ slot_count * slot_size = omega arith in x)) h e

-- a legal name's length byte
name_byte : (line : List ℕ) → length line ≡ line_size → is_used (name_in line) ≡ true → legal_if_used (name_in line) ≡ true → get_or line 0 0 ≤ application_name_most
name_byte line long u l =
    let legal : legal_name application_name_most (name_in line) ≡ true = subst (λ (t : Bool). not t || legal_name application_name_most (name_in line) ≡ true) u l in
    let short : length (name_in line) ≤ application_name_most = legal_short application_name_most (name_in line) legal in
    let m : length (name_in line) ≡ min (get_or line 0 0) (length line - 1) = length-take (get_or line 0 0) (drop 1 line) ∙ ap (min (get_or line 0 0)) (length-drop 1 line) in
    omega arith

-- ---- the registry

abbrev line_in : List ℕ → ℕ → List ℕ
line_in r l = get_or (lines_in r) l []

module _ (r : List ℕ) (g : Good r) (l : ℕ) (hl : l < line_count) where
  abbrev line : List ℕ
  line = line_in r l

  many : l < length (lines_in r)
  many = rw (length_blocks line_size line_count r) hl

  line_there : line ≡ line_at r (record { 0 = l })
  line_there = block_at_lem line_size line_count r l hl

  line_long : length line ≡ line_size
  line_long = ap length line_there ∙ length_part r (l * line_size) line_size (omega (arith, g.size))

  name_there : get_or (names_in r) l [] ≡ name_in line
  name_there = get_or-map name_in (lines_in r) l []

  legal_there : legal_if_used (name_in line) ≡ true
  legal_there = rw (← name_there) (all_at legal_if_used [] (names_in r) l (rw (length-map (lines_in r) name_in) many) g.lines.legal)

  slots_there : slots_well_formed line ≡ true
  slots_there = all_at slots_well_formed [] (lines_in r) l many g.lines.slots

  zeros_there : zeros_behind_name line ≡ true
  zeros_there = all_at zeros_behind_name [] (lines_in r) l many g.lines.zeros

  keys_there : keys_distinct line ≡ true
  keys_there = all_at keys_distinct [] (lines_in r) l many g.lines.keys

  -- v is put into slot k of this used line
  module _ (used : is_used (get_or (names_in r) l []) ≡ true) (k : ℕ) (hk : k < slot_count) (v : List ℕ) (e : length v ≡ slot_size)
      (ok : well_formed_slot v ≡ true) (once : distinct (set (map name_in (slots_in line)) k (name_in v)) ≡ true) where
    line' : List ℕ
    line' = written line k v line_long hk e

    used_line : is_used (name_in line) ≡ true
    used_line = subst (λ (n : List ℕ). is_used n ≡ true) name_there used

    byte : get_or line 0 0 ≤ application_name_most
    byte = name_byte line line_long used_line legal_there

    lines_after : lines_in (put r (place_of l k) v) ≡ set (lines_in r) l line'
    unfolding line' written
    lines_after = blocks_put line_size line_count r l (line_head + k * slot_size) v g.size hl (omega arith)

    name_after : name_in line' ≡ name_in line
    unfolding line'
    name_after = same_name line k v line_long hk e byte

    slots_after : slots_in line' ≡ set (slots_in line) k v
    unfolding line'
    slots_after = slots_written line k v line_long hk e

    names_after : names_in (put r (place_of l k) v) ≡ names_in r
    names_after = ap (map name_in) lines_after ∙ map-set_same name_in (lines_in r) l line' [] name_after

    zeros_after_lem : zeros_behind_name line' ≡ true
    unfolding line'
    zeros_after_lem = same_zeros line k v line_long hk e byte ∙ zeros_there

    free_after : free_if_unused line' ≡ true
    free_after =
        let u : is_used (name_in line') ≡ true = ap is_used name_after ∙ used_line in
        ap (λ (t : Bool). t || all (λ slot. all is_zero slot) (slots_in line')) u

    good_after : Good (put r (place_of l k) v)
    good_after =
        let p = g.lines in
        record {
          size = length_put r (place_of l k) v (omega (arith, g.size)) ∙ g.size;
          named = ap distinct names_after ∙ g.named;
          lines = record {
            first = ap used_first names_after ∙ p.first;
            legal = ap (all legal_if_used) names_after ∙ p.legal;
            unused = ap (all free_if_unused) lines_after ∙ all_set free_if_unused (lines_in r) l line' p.unused free_after;
            slots = ap (all slots_well_formed) lines_after ∙ all_set slots_well_formed (lines_in r) l line' p.slots
                (ap (all well_formed_slot) slots_after ∙ all_set well_formed_slot (slots_in line) k v slots_there ok);
            zeros = ap (all zeros_behind_name) lines_after ∙ all_set zeros_behind_name (lines_in r) l line' p.zeros zeros_after_lem;
            keys = ap (all keys_distinct) lines_after ∙ all_set keys_distinct (lines_in r) l line' p.keys
                (ap (λ (bs : List (List ℕ)). distinct (map name_in bs)) slots_after ∙ ap distinct (map_set name_in (slots_in line) k v) ∙ once);
          };
        }

    kept_after : Good (put r (place_of l k) v) × (names_in (put r (place_of l k) v) ≡ names_in r)
    kept_after = (good_after, names_after)

-- each slot is well formed, where it lies
pub slot_good : (r : List ℕ) → well_formed_registry r ≡ true → (l k : ℕ) → l < line_count → k < slot_count → well_formed_slot (take slot_size (drop (place_of l k) r)) ≡ true
slot_good r w l k hl hk =
    let g = good_of r w in
    let slots : slots_well_formed (line_at r (record { 0 = l })) ≡ true = subst (λ (x : List ℕ). slots_well_formed x ≡ true) (line_there r g l hl) (slots_there r g l hl) in
    subst (λ (x : List ℕ). well_formed_slot x ≡ true) (slot_place r l k hk)
    (all_block well_formed_slot slot_size slot_count (drop line_head (line_at r (record { 0 = l }))) k hk slots)

-- ---- the changes that operations make

-- of these slots: none; a legal key under a name that none has, into the first free one; a named one cleared; one that holds a
-- key used
pub data Allowed (slots : List Entry) : Change → Type 0 where
  stays : Allowed slots unchanged
  fills : {slot : Slot} {key : Key} → Legal key → slot_named key.name slots ≡ None → slot_named [] slots ≡ Some slot → Allowed slots (fill slot key)
  clears : {slot : Slot} (name : List ℕ) → slot_named name slots ≡ Some slot → Allowed slots (clear slot)
  uses : {slot : Slot} (name : List ℕ) (key : Key) → slot_named name slots ≡ Some slot → get_or slots slot.0 free ≡ held key → Allowed slots (add_use slot)

module _ (r : List ℕ) (w : well_formed_registry r ≡ true) (line : Line) (a : Used r line) where
  names : List (List ℕ)
  names = map name_in (slots_in (line_in r line.0))

  absent_name : (name : List ℕ) → slot_named name (slots_of r line) ≡ None → is_new name names ≡ true
  unfolding slots_of names
  absent_name name e =
      ap (λ (l : List ℕ). is_new name (map name_in (slots_in l))) (line_there r (good_of r w) line.0 a.there)
      ∙ sym (ap (is_new name) (slot_names (slots_in (line_at r line))))
      ∙ found_none name (slots_of r line) e

  -- the names with x at k, where none is x, or x is empty
  put_once : (x : List ℕ) (k : ℕ) → lone x names ≡ true → Apart x names → distinct (set names k x) ≡ true
  unfolding names
  put_once x k single apart = distinct_set x names k single apart (keys_there r (good_of r w) line.0 a.there)

  -- the names with that of slot k again
  same_once : (k : ℕ) → distinct (set names k (get_or names k [])) ≡ true
  unfolding names
  same_once k = ap distinct (set-get_or names k []) ∙ keys_there r (good_of r w) line.0 a.there

  -- the registry stays well formed, and keeps the applications' names
  pub change_kept : (c : Change) → Allowed (slots_of r line) c → (well_formed_registry (changed r line c) ≡ true) × (names_in (changed r line c) ≡ names_in r)
  unfolding changed names slot_bytes
  change_kept unchanged stays = (w, refl)
  change_kept (fill slot key) (fills legal n e) =
      let missing = absent_name key.name n in
      let name : name_in (key_bytes key) ≡ key.name = key_name key legal in
      let (good, same) = kept_after r (good_of r w) line.0 a.there a.used slot.0 (slot_below r line [] slot e) (key_bytes key) (key_length key legal) (key_good key legal)
      (ap (λ (x : List ℕ). distinct (set names slot.0 x)) name
      ∙ put_once key.name slot.0 (lone_absent key.name names missing) (apart_absent key.name names missing)) in
      (well_of _ good, same)
  change_kept (clear slot) (clears name e) =
      let (good, same) = kept_after r (good_of r w) line.0 a.there a.used slot.0 (slot_below r line name slot e) (slot_bytes free) refl free_good (put_once [] slot.0 refl (apart_empty names)) in
      (well_of _ good, same)
  change_kept (add_use slot) (uses name key e q) =
      let hk = slot_below r line name slot e in
      let g = good_of r w in
      let s : List ℕ = slot_at r line slot in
      let long : length s ≡ slot_size = length_part r (place_of line.0 slot.0) slot_size (omega (arith, g.size, a.there)) in
      let named : get_or s 0 0 ≡ 0 → ⊥ = held_named s key (sym (slot_there_lem r line slot.0 hk) ∙ q) in
      let ok = slot_good r w line.0 slot.0 a.there hk in
      let there : get_or names slot.0 [] ≡ name_in s
      = get_or-map name_in (slots_in (line_in r line.0)) slot.0 []
      ∙ ap name_in
      (ap (λ (l : List ℕ). get_or (slots_in l) slot.0 []) (line_there r g line.0 a.there)
      ∙ block_at_lem slot_size slot_count (drop line_head (line_at r line)) slot.0 hk
      ∙ slot_place r line.0 slot.0 hk) in
      let (good, same) = kept_after r g line.0 a.there a.used slot.0 hk (used_slot s) (length_used s long) (good_used s long named ok)
      (ap (λ (x : List ℕ). distinct (set names slot.0 x)) (name_used s long named ok ∙ sym there) ∙ same_once slot.0) in
      (well_of _ good, same)

-- ---- what a well-formed registry holds

blocks_short : (bs : List (List ℕ)) → all well_formed_slot bs ≡ true → (i : ℕ) → ShortEntry (get_or (map slot_of bs) i free)
blocks_short [] e i = tt
blocks_short (b ∷ bs) e zero = entry_short b (and_left (well_formed_slot b) _ e)
blocks_short (b ∷ bs) e (suc i) = blocks_short bs (and_right (well_formed_slot b) _ e) i

-- the data of a slot is short
pub slots_short : (r : List ℕ) → well_formed_registry r ≡ true → (line : Line) → line.0 < line_count → (i : ℕ) → ShortEntry (get_or (slots_of r line) i free)
unfolding slots_of
slots_short r w line h i =
    let g = good_of r w in
    blocks_short (slots_in (line_at r line))
    (subst (λ (l : List ℕ). slots_well_formed l ≡ true) (line_there r g line.0 h) (slots_there r g line.0 h)) i
