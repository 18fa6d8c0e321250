-- Laws of the free slots at a line's end: they are well formed if their bytes are zero, and have no names.
use mathlib.Core.Path.{◌≡◌, refl, ap, ap₂, ◌∙◌}
use mathlib.Core.Bool.{true, ◌&&◌}
use mathlib.Core.List.{List, [], ◌∷◌, map}
use Prim.Native.Nat.{ℕ, zero, suc, ◌+◌, ◌-◌, ◌*◌, ◌≤◌, ◌<◌}
use native.Mathlib.Omega.{arith}
use borrow.Author.Tests.{eqb-true, eq-eqb}
use lib.ListN.{length, take, drop, get_or, length-drop}
use lib.Seq.{drop-drop, get_or-take, get_or-drop}
use lib.Dec.{eqb}
use Rattle.wire.specs.Lists.{all, is_zero, blocks}
use Rattle.wire.proofs.TestLaws.{and_left, and_right}
use Rattle.wire.proofs.ListLaws.{all_split}
use Rattle.wire.proofs.BlockLaws.{take_blocks, blocks_pass, zero_rest}
use Rattle.registry.specs.Names.{name_in, distinct}
use Rattle.registry.specs.Slots.{slot_size, well_formed_slot}
use Rattle.registry.specs.Registry.{slot_count, line_head, line_size, slots_in}
use Rattle.registry.specs.WellFormed.{slots_well_formed}
use Rattle.registry.specs.code.Check.{is_free}
use Rattle.registry.proofs.NameLaws.{lone, distinct_cons, distinct_empty}
use Rattle.registry.proofs.SlotLaws.{free_slot}

free_slots : (slots : List (List ℕ)) → all is_free slots ≡ true → all well_formed_slot slots ≡ all (λ slot. all is_zero slot) slots
free_slots [] e = refl
free_slots (slot ∷ slots) e =
    ap₂ ◌&&◌ (free_slot slot (eqb-true (get_or slot 0 0) 0 (and_left (is_free slot) _ e))) (free_slots slots (and_right (is_free slot) _ e))

-- the slots from n on are free, and so is the one before them
pub free_before : (line : List ℕ) (n : ℕ) → 0 < n → n ≤ slot_count → get_or line (line_head + (n - 1) * slot_size) 0 ≡ 0
    → all is_free (drop n (slots_in line)) ≡ true → all is_free (drop (n - 1) (slots_in line)) ≡ true
free_before line n h few e free =
    let i : ℕ = n - 1 in
    let more : i + 1 ≡ n = omega arith in
    let at : line_head + (i * slot_size + 0) ≡ line_head + i * slot_size = omega arith in
    let first : get_or (take slot_size (drop (i * slot_size) (drop line_head line))) 0 0 ≡ 0
    = get_or-take slot_size (drop (i * slot_size) (drop line_head line)) 0 0 (omega arith)
    ∙ get_or-drop (i * slot_size) (drop line_head line) 0 0
    ∙ get_or-drop line_head line (i * slot_size + 0) 0
    ∙ ap (λ (k : ℕ). get_or line k 0) at
    ∙ e in
    blocks_pass is_free slot_size slot_count (drop line_head line) i (omega arith) (eq-eqb _ 0 first)
    ∙ ap (λ (k : ℕ). all is_free (drop k (slots_in line))) more
    ∙ free

-- the slots of a line, those from n on being free
pub slots_free_from : (line : List ℕ) (n : ℕ) → length line ≡ line_size → n ≤ slot_count → all is_free (drop n (slots_in line)) ≡ true
    → slots_well_formed line ≡ all well_formed_slot (blocks n slot_size (drop line_head line)) && all is_zero (drop (line_head + n * slot_size) line)
slots_free_from line n long few e =
    let slots : List (List ℕ) = slots_in line in
    let rest : List ℕ = drop line_head line in
    let size : length rest ≡ slot_count * slot_size = length-drop line_head line ∙ omega arith in
    let behind : all well_formed_slot (drop n slots) ≡ all is_zero (drop (line_head + n * slot_size) line)
    = free_slots (drop n slots) e ∙ zero_rest slot_size slot_count rest n size few ∙ ap (all is_zero) (drop-drop (n * slot_size) line_head line) in
    all_split well_formed_slot n slots ∙ ap₂ ◌&&◌ (ap (all well_formed_slot) (take_blocks n slot_count slot_size rest few)) behind

-- ---- names

free_names : (slots : List (List ℕ)) → all is_free slots ≡ true → all (λ name. eqb (length name) 0) (map name_in slots) ≡ true
free_names [] e = refl
free_names (slot ∷ slots) e =
    let none : name_in slot ≡ [] = ap (λ (n : ℕ). take n (drop 1 slot)) (eqb-true (get_or slot 0 0) 0 (and_left (is_free slot) _ e)) in
    ap₂ ◌&&◌ (ap (λ (name : List ℕ). eqb (length name) 0) none) (free_names slots (and_right (is_free slot) _ e))

lone_before_free : (name : List ℕ) (names : List (List ℕ)) → all (λ x. eqb (length x) 0) names ≡ true → lone name names ≡ true
lone_before_free [] names e = refl
lone_before_free (a ∷ name) [] e = refl
lone_before_free (a ∷ name) ([] ∷ names) e = lone_before_free (a ∷ name) names e
lone_before_free (a ∷ name) ((b ∷ x) ∷ names) e = absurd (let z : length (b ∷ x) ≡ 0 = eqb-true (length (b ∷ x)) 0 (and_left (eqb (length (b ∷ x)) 0) _ e) in omega arith)

-- one key has no other's name
pub distinct_free_from : (slots : List (List ℕ)) (n : ℕ) → n < 2 → all is_free (drop n slots) ≡ true → distinct (map name_in slots) ≡ true
distinct_free_from slots zero h e = distinct_empty (map name_in slots) (free_names slots e)
distinct_free_from [] (suc n) h e = distinct_empty [] refl
distinct_free_from (slot ∷ slots) (suc zero) h e =
    let empty : all (λ name. eqb (length name) 0) (map name_in slots) ≡ true = free_names slots e in
    distinct_cons (name_in slot) (map name_in slots) ∙ ap₂ ◌&&◌ (lone_before_free (name_in slot) (map name_in slots) empty) (distinct_empty (map name_in slots) empty)
distinct_free_from (slot ∷ slots) (suc (suc n)) h e = absurd (omega arith)
