-- The place of a name among blocks: its index, whether it is new among them, and what a search says of an application and of a slot.
use Rattle.std.proofs.Common.{◌≡◌, refl, sym, ap, ap₂, ◌∙◌, ℕ, suc, ◌+◌, ◌*◌, ◌<◌, ◌≤◌, Bool, true, false, not, cond, ◌&&◌, ltb, eqb, List, [], ◌∷◌, map, length, take, drop, get_or, Some, None, is_some, option_map, unwrap_or, arith}
use Rattle.std.specs.List.{position, position_or_len}
use borrow.Author.Tests.{ltb-true, ltb-false, lt-ltb, le-ltb}
use native.Mathlib.Numerals.{add-one}
use lib.ListN.{drop_of_length-le}
use lib.Seq.{drop-cons, get_or-take, get_or-drop}
use Rattle.wire.specs.Choice.{when◌then◌else◌}
use Rattle.wire.specs.Lists.{same, blocks}
use Rattle.wire.proofs.BlockLaws.{length_blocks}
use Rattle.wire.proofs.ListLaws.{length_part, same_lengths}
use Rattle.keys.specs.Names.{is_new}
use Rattle.registry.specs.Names.{name_in, index_from, distinct}
use Rattle.registry.specs.Registry.{line_count, line_size, lines_in, slots_in, application_named, line_at, slots_of, slot_named}
use Rattle.registry.specs.declared.Line.{Line}
use Rattle.registry.specs.declared.Slot.{Slot}
use Rattle.registry.specs.code.Check.{used_lines}
use Rattle.registry.proofs.ChunkLaws.{blocks_step, blocks_none}
use Rattle.registry.proofs.NameLaws.{lone, distinct_cons}
use Rattle.registry.proofs.RegistryLaws.{length_slots, slot_names}
use Rattle.registry.proofs.CheckLaws.{used_few}

ltb_suc : (m l : ℕ) → ltb (1 + m) (suc l) ≡ ltb m l
ltb_suc m l = go (ltb m l) refl
  where
    go : (t : Bool) → ltb m l ≡ t → ltb (1 + m) (suc l) ≡ t
    go true e = lt-ltb (1 + m) (suc l) (omega (arith, ltb-true m l e))
    go false e = le-ltb (1 + m) (suc l) (omega (arith, ltb-false m l e))

-- the block has the name x
abbrev pub has : (x block : List ℕ) → Bool
has x block = same x (name_in block)

module _ (x : List ℕ) where
  index_place : (bs : List (List ℕ)) (i : ℕ) → index_from x (map name_in bs) i ≡ i + position_or_len (has x) bs
  unfolding index_from
  index_place [] i = omega arith
  index_place (b ∷ bs) i = go (same x (name_in b)) (index_place bs (i + 1))
    where
      go : (t : Bool) → index_from x (map name_in bs) (i + 1) ≡ i + 1 + position_or_len (has x) bs
          → (when t then i else index_from x (map name_in bs) (i + 1)) ≡ i + cond (not t) (1 + position_or_len (has x) bs) 0
      go true e = omega arith
      go false e = e ∙ (let z : i + 1 + position_or_len (has x) bs ≡ i + (1 + position_or_len (has x) bs) = omega arith in z)

  pub index_first : (bs : List (List ℕ)) → index_from x (map name_in bs) 0 ≡ position_or_len (has x) bs
  index_first bs = index_place bs 0 ∙ (let z : 0 + position_or_len (has x) bs ≡ position_or_len (has x) bs = omega arith in z)

  some_cond : (t : Bool) (n : ℕ) → is_some (cond t (Some n) None) ≡ t
  some_cond true n = refl
  some_cond false n = refl

  -- a search finds nothing where the name is new
  pub place_new : (bs : List (List ℕ)) → is_some (position (has x) bs) ≡ not (is_new x (map name_in bs))
  place_new [] = refl
  place_new (b ∷ bs) = some_cond _ _ ∙ go (same x (name_in b)) (sym (some_cond _ _) ∙ place_new bs)
    where
      go : (t : Bool) → ltb (position_or_len (has x) bs) (length bs) ≡ not (is_new x (map name_in bs))
          → ltb (cond (not t) (1 + position_or_len (has x) bs) 0) (suc (length bs)) ≡ not (not t && is_new x (map name_in bs))
      go true e = lt-ltb 0 (suc (length bs)) (omega arith)
      go false e = ltb_suc (position_or_len (has x) bs) (length bs) ∙ e

-- ---- what a search says

pub nameless : (registry name : List ℕ) → length name ≡ 0 → application_named registry name ≡ None
unfolding application_named
nameless registry name h = rw h

module _ (registry name : List ℕ) where
  picked_line : (t : Bool) (n : ℕ) → option_map {U = Line} (λ k. record { 0 = k }) (cond t (Some n) None) ≡ (when t then Some (record { 0 = n }) else None)
  picked_line true n = refl
  picked_line false n = refl

  pub line_found : 0 < length name → option_map (λ n. record { 0 = n }) (position (has name) (lines_in registry)) ≡ application_named registry name
  unfolding application_named
  line_found h = rw (lt-ltb 0 (length name) h, index_first name (lines_in registry), length_blocks line_size line_count registry) (picked_line _ _)

  picked_slot : (t : Bool) (n : ℕ) → option_map {U = Slot} (λ k. record { 0 = k }) (cond t (Some n) None) ≡ (when t then Some (record { 0 = n }) else None)
  picked_slot true n = refl
  picked_slot false n = refl

  pub slot_found : (line : Line) → option_map (λ n. record { 0 = n }) (position (has name) (slots_in (line_at registry line))) ≡ slot_named name (slots_of registry line)
  unfolding slot_named slots_of
  slot_found line = rw (length_slots registry line, slot_names (slots_in (line_at registry line)), index_first name (slots_in (line_at registry line))) (picked_slot _ _)

-- how many lines stand before the first that has no name
pub used_found : (registry : List ℕ) → unwrap_or (position (has []) (lines_in registry)) line_count ≡ used_lines registry
unfolding used_lines
used_found registry = go (ltb m (length (lines_in registry))) refl ∙ sym (index_first [] (lines_in registry))
  where
    m : ℕ
    m = position_or_len (has []) (lines_in registry)

    go : (t : Bool) → ltb m (length (lines_in registry)) ≡ t → unwrap_or (cond t (Some m) None) line_count ≡ m
    go true e = refl
    go false e = omega (arith, ltb-false _ _ e, length_blocks line_size line_count registry, used_few registry, index_first [] (lines_in registry))

-- ---- one block more that is tested for a name of its own

pub distinct_turn : (size n : ℕ) (s block behind name : List ℕ) → 0 < size → length s ≡ n * size → size ≤ length s → block ≡ take size s → behind ≡ drop size s → name ≡ name_in block
    → (m : ℕ) × (length behind ≡ m * size)
    × (distinct (map name_in (blocks n size s)) ≡ lone name (map name_in (blocks m size behind)) && distinct (map name_in (blocks m size behind)))
distinct_turn size n s block behind name h e g f b q =
    let w = blocks_step n size s h e g in
    let first : name_in (take size s) ≡ name = ap name_in (sym f) ∙ sym q in (
      w.0,
      ap length b ∙ w.1,
      ap (λ (bs : List (List ℕ)). distinct (map name_in bs)) w.2
          ∙ distinct_cons (name_in (take size s)) (map name_in (blocks w.0 size (drop size s)))
          ∙ ap₂ (λ (x l : List ℕ). lone x (map name_in (blocks w.0 size l)) && distinct (map name_in (blocks w.0 size l))) first (sym b),
    )

pub distinct_done : (size n : ℕ) (s : List ℕ) → length s ≡ n * size → length s < size → distinct (map name_in (blocks n size s)) ≡ true
unfolding distinct
distinct_done size n s e h = ap (λ (bs : List (List ℕ)). distinct (map name_in bs)) (blocks_none n size s e h)

-- ---- a scan that has come to the number i

place_turn : (x : List ℕ) (i : ℕ) (b : List ℕ) (bs : List (List ℕ)) → option_map (λ k. i + k) (position (has x) (b ∷ bs)) ≡ cond (has x b) (Some i) (option_map (λ k. i + 1 + k) (position (has x) bs))
place_turn x i b bs = go (same x (name_in b))
  where
    m : ℕ
    m = position_or_len (has x) bs

    on : (t : Bool) → option_map (λ k. i + k) (cond t (Some (1 + m)) None) ≡ option_map (λ k. i + 1 + k) (cond t (Some m) None)
    on true = let z : i + (1 + m) ≡ i + 1 + m = omega arith in ap Some z
    on false = refl

    go : (t : Bool) → option_map (λ k. i + k) (cond (ltb (cond (not t) (1 + m) 0) (suc (length bs))) (Some (cond (not t) (1 + m) 0)) None)
        ≡ cond t (Some i) (option_map (λ k. i + 1 + k) (cond (ltb m (length bs)) (Some m) None))
    go true = let z : i + 0 ≡ i = omega arith in rw (lt-ltb 0 (suc (length bs)) (omega arith)) (ap Some z)
    go false = rw (ltb_suc m (length bs)) (on (ltb m (length bs)))

pub place_whole : (x : List ℕ) (bs : List (List ℕ)) → position (has x) bs ≡ option_map (λ k. 0 + k) (position (has x) bs)
place_whole x bs = go (ltb m (length bs))
  where
    m : ℕ
    m = position_or_len (has x) bs

    go : (t : Bool) → cond t (Some m) None ≡ option_map (λ k. 0 + k) (cond t (Some m) None)
    go true = let z : m ≡ 0 + m = omega arith in ap Some z
    go false = refl

pub scan_turn : (size n i : ℕ) (s block behind name : List ℕ) → 0 < size → length s ≡ n * size → size ≤ length s → block ≡ take size s → behind ≡ drop size s
    → (m : ℕ) × (length behind ≡ m * size)
    × (option_map (λ k. i + k) (position (has name) (blocks n size s)) ≡ cond (has name block) (Some i) (option_map (λ k. i + 1 + k) (position (has name) (blocks m size behind))))
scan_turn size n i s block behind name h e g f b =
    let w = blocks_step n size s h e g in (
      w.0,
      ap length b ∙ w.1,
      ap (λ (bs : List (List ℕ)). option_map (λ k. i + k) (position (has name) bs)) w.2
          ∙ place_turn name i (take size s) (blocks w.0 size (drop size s))
          ∙ ap₂ (λ (x l : List ℕ). cond (has name x) (Some i) (option_map (λ k. i + 1 + k) (position (has name) (blocks w.0 size l)))) (sym f) (sym b),
    )

pub scan_done : (size n i : ℕ) (s name : List ℕ) → length s ≡ n * size → length s < size → option_map (λ k. i + k) (position (has name) (blocks n size s)) ≡ None
scan_done size n i s name e h = ap (λ (bs : List (List ℕ)). option_map (λ k. i + k) (position (has name) bs)) (blocks_none n size s e h)

-- a block's name and x, byte by byte
module _ (x block : List ℕ) where
  pub has_length : 1 + get_or block 0 0 ≤ length block → (get_or block 0 0 ≡ length x → ⊥) → has x block ≡ false
  has_length h e = same_lengths x (name_in block) (λ q. e (sym (length_part block 1 (get_or block 0 0) h) ∙ sym q))

  module _ (k : ℕ) where
    pub has_turn : 1 + get_or block 0 0 ≤ length block → get_or block 0 0 ≡ length x → k < length x
        → same (drop k x) (drop k (name_in block)) ≡ eqb (get_or x k 0) (get_or block (1 + k) 0) && same (drop (k + 1) x) (drop (k + 1) (name_in block))
    has_turn h e g =
        let long : k < length (name_in block) = omega (arith, length_part block 1 (get_or block 0 0) h) in
        let byte : get_or (name_in block) k 0 ≡ get_or block (1 + k) 0 = get_or-take (get_or block 0 0) (drop 1 block) k 0 (omega arith) ∙ get_or-drop 1 block k 0 in
        rw (add-one k, drop-cons x k 0 g, drop-cons (name_in block) k 0 long, byte)

    pub has_end : 1 + get_or block 0 0 ≤ length block → get_or block 0 0 ≡ length x → length x ≤ k → same (drop k x) (drop k (name_in block)) ≡ true
    has_end h e g =
        let long : length (name_in block) ≤ k = omega (arith, length_part block 1 (get_or block 0 0) h) in
        rw (drop_of_length-le x g, drop_of_length-le (name_in block) long)
