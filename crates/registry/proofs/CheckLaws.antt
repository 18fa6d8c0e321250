-- Document 01's sentence on well-formed registries, and what the code tests, are the same.
use mathlib.Core.Path.{◌≡◌, refl, sym, ap, ap₂, ◌∙◌, subst}
use mathlib.Core.Bool.{Bool, true, false, true≢false, not, ◌&&◌, ◌||◌}
use mathlib.Core.List.{List, [], ◌∷◌, map, flatten}
use Prim.Native.Nat.{ℕ, suc, ◌+◌, ◌-◌, ◌*◌, ◌≤◌, min}
use native.Mathlib.Omega.{arith}
use borrow.Author.Tests.{eqb-true, eq-eqb}
use lib.ListN.{length, take, drop, get_or, length-take, length-drop, take-append-drop}
use lib.Seq.{drop-drop}
use lib.Dec.{eqb}
use Rattle.wire.specs.Choice.{when◌then◌else◌}
use Rattle.wire.specs.Lists.{all, every, is_zero, same, blocks}
use Rattle.wire.proofs.TestLaws.{and_left, and_right, every_at, both}
use Rattle.wire.proofs.ListLaws.{all_append}
use Rattle.wire.proofs.BlockLaws.{Sized, sized_blocks, flatten_blocks, take_blocks, drop_flatten, zero_flatten, flatten_zero}
use Rattle.keys.specs.Names.{legal_name, application_name_most}
use Rattle.registry.specs.Names.{name_in, index_from, distinct}
use Rattle.registry.specs.Slots.{slot_size}
use Rattle.registry.specs.Registry.{line_count, slot_count, line_head, line_size, registry_size, lines_in, names_in, slots_in}
use Rattle.registry.specs.WellFormed.{is_used, none_used, used_first, legal_if_used, free_if_unused, slots_well_formed, zeros_behind_name, keys_distinct, well_formed_registry}
use Rattle.registry.specs.code.Check.{line_tests, well_formed_line, used_lines}
use Rattle.registry.proofs.RegistryLaws.{some_used}
use Rattle.registry.proofs.WellFormedLaws.{Lines, good_of, well_of, zero_lines}

-- what the code tests
abbrev pub registry_checks : List ℕ → List Bool
registry_checks b =
    eqb (length b) registry_size
    ∷ all is_zero (drop (used_lines b * line_size) b)
    ∷ all well_formed_line (blocks (used_lines b) line_size b)
    ∷ distinct (names_in b)
    ∷ []

-- ---- how many lines stand before the first unused one

used : List (List ℕ) → ℕ
used [] = 0
used (l ∷ ls) = when same [] (name_in l) then 0 else suc (used ls)

index_used : (ls : List (List ℕ)) (i : ℕ) → index_from [] (map name_in ls) i ≡ i + used ls
unfolding used index_from
index_used [] i = omega arith
index_used (l ∷ ls) i = go (index_used ls (i + 1)) (same [] (name_in l))
  where
    go : index_from [] (map name_in ls) (i + 1) ≡ i + 1 + used ls → (t : Bool)
        → (when t then i else index_from [] (map name_in ls) (i + 1)) ≡ i + (when t then 0 else suc (used ls))
    go r true = omega arith
    go r false = omega arith

used_le : (ls : List (List ℕ)) → used ls ≤ length ls
unfolding used
used_le [] = omega arith
used_le (l ∷ ls) = go (used_le ls) (same [] (name_in l))
  where
    go : used ls ≤ length ls → (t : Bool) → (when t then 0 else suc (used ls)) ≤ suc (length ls)
    go r true = omega arith
    go r false = omega arith

-- ---- a line with no name, zeros for it and free slots is all zero

module _ (line : List ℕ) (long : length line ≡ line_size) where
  no_name : name_in line ≡ [] → get_or line 0 0 ≡ 0
  no_name e =
      let m : length (name_in line) ≡ min (get_or line 0 0) (length line - 1) = length-take (get_or line 0 0) (drop 1 line) ∙ ap (min (get_or line 0 0)) (length-drop 1 line) in
      let z : length (name_in line) ≡ 0 = ap length e in
      omega arith

  first_zero : (l : List ℕ) → get_or l 0 0 ≡ 0 → all is_zero (take 1 l) ≡ true
  first_zero [] e = refl
  first_zero (x ∷ l) e = rw (eq-eqb x 0 e)

  unused_zero : name_in line ≡ [] → zeros_behind_name line ≡ true → free_if_unused line ≡ true → all is_zero line ≡ true
  unused_zero e n f =
      let byte : get_or line 0 0 ≡ 0 = no_name e in
      let name : all is_zero (take application_name_most (drop 1 line)) ≡ true
      = subst (λ (m : ℕ). all is_zero (take (application_name_most - m) (drop (1 + m) line)) ≡ true) byte n in
      let slots : all (λ slot. all is_zero slot) (slots_in line) ≡ true
      = subst (λ (x : List ℕ). is_used x || all (λ slot. all is_zero slot) (slots_in line) ≡ true) e f in
      let back : flatten (slots_in line) ≡ drop line_head line
      = flatten_blocks slot_size slot_count (drop line_head line) (length-drop line_head line ∙ (let x : length line - line_head ≡ slot_count * slot_size = omega arith in x)) in
      let rest : all is_zero (drop line_head line) ≡ true = sym (ap (all is_zero) back) ∙ zero_flatten (slots_in line) slots in
      let behind : all is_zero (drop 1 line) ≡ true
      = sym (ap (all is_zero) (take-append-drop application_name_most (drop 1 line)))
      ∙ all_append is_zero (take application_name_most (drop 1 line)) (drop application_name_most (drop 1 line)) name (ap (all is_zero) (drop-drop application_name_most 1 line) ∙ rest) in
      sym (ap (all is_zero) (take-append-drop 1 line)) ∙ all_append is_zero (take 1 line) (drop 1 line) (first_zero line byte) behind

-- ---- the lines one by one

record Tested (ls : List (List ℕ)) : Type 0 where
  rest : all is_zero (flatten (drop (used ls) ls)) ≡ true
  front : all well_formed_line (take (used ls) ls) ≡ true

tail_of : (l : List ℕ) (ls : List (List ℕ)) → Lines (l ∷ ls) → Lines ls
unfolding used_first
tail_of l ls p = record {
  first = and_right (is_used (name_in l) || none_used (map name_in ls)) _ p.first;
  legal = and_right (legal_if_used (name_in l)) _ p.legal;
  unused = and_right (free_if_unused l) _ p.unused;
  slots = and_right (slots_well_formed l) _ p.slots;
  zeros = and_right (zeros_behind_name l) _ p.zeros;
  keys = and_right (keys_distinct l) _ p.keys;
}

-- where no line is used, all are zero
unused_zeros : (ls : List (List ℕ)) → Sized line_size ls → Lines ls → none_used (map name_in ls) ≡ true → all (λ line. all is_zero line) ls ≡ true
unused_zeros [] s p e = refl
unused_zeros (l ∷ ls) s p e =
    rw (unused_zero l s.0 (empty (name_in l) (and_left (not (is_used (name_in l))) _ e)) (and_left (zeros_behind_name l) _ p.zeros) (and_left (free_if_unused l) _ p.unused))
    (unused_zeros ls s.1 (tail_of l ls p) (and_right (not (is_used (name_in l))) _ e))
  where
    empty : (n : List ℕ) → not (is_used n) ≡ true → n ≡ []
    empty [] e = refl
    empty (x ∷ n) e = absurd (true≢false (sym e ∙ ap not (some_used (x ∷ n) (let s : 1 ≤ length (x ∷ n) = omega arith in s))))

-- a used line
module _ (l : List ℕ) (x : ℕ) (n : List ℕ) (named : name_in l ≡ x ∷ n) where
  is_used_lem : is_used (name_in l) ≡ true
  is_used_lem = ap is_used named ∙ some_used (x ∷ n) (let s : 1 ≤ length (x ∷ n) = omega arith in s)

  line_ok : legal_if_used (name_in l) ≡ true → slots_well_formed l ≡ true → zeros_behind_name l ≡ true → keys_distinct l ≡ true → well_formed_line l ≡ true
  unfolding well_formed_line
  line_ok legal slots zeros keys =
      let ok : legal_name application_name_most (name_in l) ≡ true = subst (λ (t : Bool). not t || legal_name application_name_most (name_in l) ≡ true) is_used_lem legal in
      rw (ok, zeros, slots, keys)

  ok_legal : well_formed_line l ≡ true → legal_if_used (name_in l) ≡ true
  unfolding well_formed_line
  ok_legal ok = ap (λ (t : Bool). not t || legal_name application_name_most (name_in l)) is_used_lem ∙ every_at (line_tests l) 0 ok

  ok_free : free_if_unused l ≡ true
  ok_free = ap (λ (t : Bool). t || all (λ slot. all is_zero slot) (slots_in l)) is_used_lem

tested_of : (ls : List (List ℕ)) → Sized line_size ls → Lines ls → Tested ls
unfolding used used_first flatten
tested_of [] s p = record { rest = refl; front = refl }
tested_of (l ∷ ls) s p = go (name_in l) refl (tested_of ls s.1 (tail_of l ls p))
  where
    go : (n : List ℕ) → name_in l ≡ n → Tested ls → Tested (l ∷ ls)
    go [] e ih =
        let none : none_used (map name_in ls) ≡ true
        = subst (λ (n : List ℕ). is_used n || none_used (map name_in ls) ≡ true) e (and_left _ _ p.first) in
        let u : used (l ∷ ls) ≡ 0 = ap (λ (n : List ℕ). when same [] n then 0 else suc (used ls)) e in
        let z : all is_zero l ≡ true = unused_zero l s.0 e (and_left (zeros_behind_name l) _ p.zeros) (and_left (free_if_unused l) _ p.unused) in
        let more : all is_zero (flatten ls) ≡ true = zero_flatten ls (unused_zeros ls s.1 (tail_of l ls p) none) in
        record {
          rest = ap (λ (k : ℕ). all is_zero (flatten (drop k (l ∷ ls)))) u ∙ all_append is_zero l (flatten ls) z more;
          front = ap (λ (k : ℕ). all well_formed_line (take k (l ∷ ls))) u;
        }
    go (x ∷ n) e ih =
        let u : used (l ∷ ls) ≡ suc (used ls) = ap (λ (n : List ℕ). when same [] n then 0 else suc (used ls)) e in
        let ok = line_ok l x n e (and_left _ _ p.legal) (and_left (slots_well_formed l) _ p.slots) (and_left (zeros_behind_name l) _ p.zeros) (and_left (keys_distinct l) _ p.keys) in
        record {
          rest = ap (λ (k : ℕ). all is_zero (flatten (drop k (l ∷ ls)))) u ∙ ih.rest;
          front = ap (λ (k : ℕ). all well_formed_line (take k (l ∷ ls))) u ∙ ap₂ ◌&&◌ ok ih.front;
        }

lines_of : (ls : List (List ℕ)) → Sized line_size ls → Tested ls → Lines ls
unfolding used used_first well_formed_line
lines_of [] s t = record { first = refl; legal = refl; unused = refl; slots = refl; zeros = refl; keys = refl }
lines_of (l ∷ ls) s t = go (name_in l) refl (lines_of ls s.1)
  where
    go : (n : List ℕ) → name_in l ≡ n → (Tested ls → Lines ls) → Lines (l ∷ ls)
    go [] e ih =
        let u : used (l ∷ ls) ≡ 0 = ap (λ (n : List ℕ). when same [] n then 0 else suc (used ls)) e in
        let z : all is_zero (flatten (l ∷ ls)) ≡ true = sym (ap (λ (k : ℕ). all is_zero (flatten (drop k (l ∷ ls)))) u) ∙ t.rest in
        (zero_lines (l ∷ ls) (flatten_zero (l ∷ ls) z)).1
    go (x ∷ n) e ih =
        let u : used (l ∷ ls) ≡ suc (used ls) = ap (λ (n : List ℕ). when same [] n then 0 else suc (used ls)) e in
        let f : well_formed_line l && all well_formed_line (take (used ls) ls) ≡ true = sym (ap (λ (k : ℕ). all well_formed_line (take k (l ∷ ls))) u) ∙ t.front in
        let ok : well_formed_line l ≡ true = and_left (well_formed_line l) _ f in
        let p = ih (record { rest = sym (ap (λ (k : ℕ). all is_zero (flatten (drop k (l ∷ ls)))) u) ∙ t.rest; front = and_right (well_formed_line l) _ f }) in
        record {
          first = ap₂ ◌&&◌ (ap (λ (t : Bool). t || none_used (map name_in ls)) (is_used_lem l x n e)) p.first;
          legal = ap₂ ◌&&◌ (ok_legal l x n e ok) p.legal;
          unused = ap₂ ◌&&◌ (ok_free l x n e) p.unused;
          slots = ap₂ ◌&&◌ (every_at (line_tests l) 2 ok) p.slots;
          zeros = ap₂ ◌&&◌ (every_at (line_tests l) 1 ok) p.zeros;
          keys = ap₂ ◌&&◌ (every_at (line_tests l) 3 ok) p.keys;
        }

-- ---- the registry

pub used_few : (b : List ℕ) → used_lines b ≤ line_count
unfolding used_lines
used_few b = omega (arith, index_used (lines_in b) 0, used_le (lines_in b))

module _ (b : List ℕ) (size : length b ≡ registry_size) where
  sized : Sized line_size (lines_in b)
  sized = sized_blocks line_size line_count b size

  used_lines_lem : used_lines b ≡ used (lines_in b)
  unfolding used_lines
  used_lines_lem = index_used (lines_in b) 0 ∙ (let x : 0 + used (lines_in b) ≡ used (lines_in b) = omega arith in x)

  few : used (lines_in b) ≤ line_count
  few = used_le (lines_in b)

  rest_there : drop (used_lines b * line_size) b ≡ flatten (drop (used (lines_in b)) (lines_in b))
  rest_there =
      ap (λ (k : ℕ). drop (k * line_size) b) used_lines_lem
      ∙ ap (drop (used (lines_in b) * line_size)) (sym (flatten_blocks line_size line_count b size))
      ∙ drop_flatten line_size (lines_in b) (used (lines_in b)) sized few

  front_there : blocks (used_lines b) line_size b ≡ take (used (lines_in b)) (lines_in b)
  front_there = ap (λ (k : ℕ). blocks k line_size b) used_lines_lem ∙ sym (take_blocks (used (lines_in b)) line_count line_size b few)

checked_of_lem : (b : List ℕ) → well_formed_registry b ≡ true → every (registry_checks b) ≡ true
checked_of_lem b w =
    let g = good_of b w in
    let t = tested_of (lines_in b) (sized b g.size) g.lines in
    ap₂ ◌&&◌ (eq-eqb (length b) registry_size g.size)
    (ap₂ ◌&&◌ (ap (all is_zero) (rest_there b g.size) ∙ t.rest)
    (ap₂ ◌&&◌ (ap (all well_formed_line) (front_there b g.size) ∙ t.front)
    (ap₂ ◌&&◌ g.named refl)))

well_formed_of : (b : List ℕ) → every (registry_checks b) ≡ true → well_formed_registry b ≡ true
well_formed_of b r =
    let size : length b ≡ registry_size = eqb-true _ _ (every_at (registry_checks b) 0 r) in
    well_of b (record {
      size = size;
      named = every_at (registry_checks b) 3 r;
      lines = lines_of (lines_in b) (sized b size) (record {
        rest = sym (ap (all is_zero) (rest_there b size)) ∙ every_at (registry_checks b) 1 r;
        front = sym (ap (all well_formed_line) (front_there b size)) ∙ every_at (registry_checks b) 2 r;
      });
    })

-- for all bytes, a registry or not
pub same_test : (b : List ℕ) → well_formed_registry b ≡ every (registry_checks b)
same_test b = both _ _ (checked_of_lem b) (well_formed_of b)
