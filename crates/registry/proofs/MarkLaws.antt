-- Laws of marks: slots with one name have one mark, so that a slot whose mark is none of those before it has a new name.
use mathlib.Core.Path.{◌≡◌, refl, sym, ap, ap₂, ◌∙◌, subst}
use mathlib.Core.Bool.{Bool, true, false}
use mathlib.Core.List.{List, [], ◌∷◌, ◌++◌, map, map-append}
use Prim.Native.Nat.{ℕ, zero, suc, ◌+◌, ◌-◌, ◌*◌, ◌≤◌, ◌<◌, min}
use native.Mathlib.Numerals.{add-one}
use native.Mathlib.Nat.{add-zero, le_of_suc-le-suc, not-suc-le-zero}
use native.Mathlib.Omega.{arith}
use lib.ListN.{length, take, drop, get_or, set, replicate, length-take, length-drop}
use lib.Seq.{take-add, drop-drop, get_or-take, get_or-drop, take-suc, take-suc-set}
use Rattle.wire.specs.Lists.{all, same, every, padded}
use Rattle.wire.proofs.TestLaws.{and_left, and_right, every_at}
use Rattle.wire.proofs.ListLaws.{all_take, same_true, length_part, part_of_part, zeros_back}
use Rattle.wire.proofs.BlockLaws.{Sized, block_at_lem, sized_blocks}
use Rattle.keys.specs.Names.{key_name_most, is_new}
use Rattle.keys.specs.code.Marks.{differs_from}
use Rattle.keys.proofs.NameLaws.{legal_short}
use Rattle.keys.proofs.MarkLaws.{differs}
use Rattle.registry.specs.Names.{name_in, distinct}
use Rattle.registry.specs.Slots.{data_length_at, slot_size, key_tests, well_formed_slot}
use Rattle.registry.specs.Registry.{slot_count, line_head, line_size, slots_in}
use Rattle.registry.specs.WellFormed.{slots_well_formed}
use Rattle.registry.specs.code.Check.{mark_in}
use Rattle.registry.proofs.NameLaws.{Apart, apart_empty, apart_absent, distinct_snoc}
use Rattle.registry.proofs.SlotLaws.{key_slot}

-- a slot up to its data's length
abbrev pub name_part : (slot : List ℕ) → List ℕ
name_part slot = take data_length_at slot

-- a well-formed slot with a name begins with the name's length, the name and zeros
module _ (slot : List ℕ) (long : length slot ≡ slot_size) (good : well_formed_slot slot ≡ true) (named : get_or slot 0 0 ≡ 0 → ⊥) where
  abbrev n : ℕ
  n = get_or slot 0 0

  tests : every (key_tests slot) ≡ true
  tests = sym (key_slot slot named) ∙ good

  name_size : length (name_in slot) ≡ min n (slot_size - 1)
  name_size = length-take n (drop 1 slot) ∙ ap (min n) (length-drop 1 slot ∙ ap (λ (k : ℕ). k - 1) long)

  short : n ≤ key_name_most
  short = omega (arith, name_size, legal_short key_name_most (name_in slot) (every_at (key_tests slot) 0 tests))

  name_long : length (name_in slot) ≡ n
  name_long = omega (arith, name_size, short)

  behind : take (key_name_most - n) (drop (1 + n) slot) ≡ replicate (key_name_most - n) 0
  behind =
      let zeros : List ℕ = take (key_name_most - n) (drop (1 + n) slot) in
      let size : length zeros ≡ key_name_most - n = length_part slot (1 + n) (key_name_most - n) (omega (arith, short)) in
      sym (zeros_back zeros (every_at (key_tests slot) 1 tests)) ∙ ap (λ (k : ℕ). replicate k 0) size

  after : take key_name_most (drop 1 slot) ≡ padded key_name_most (name_in slot)
  after =
      let parts : n + (key_name_most - n) ≡ key_name_most = omega (arith, short) in
      ap (λ (k : ℕ). take k (drop 1 slot)) (sym parts)
      ∙ take-add n (key_name_most - n) (drop 1 slot)
      ∙ ap (λ (l : List ℕ). name_in slot ++ take (key_name_most - n) l) (drop-drop n 1 slot)
      ∙ ap (λ (l : List ℕ). name_in slot ++ l) behind
      ∙ ap (λ (k : ℕ). name_in slot ++ replicate (key_name_most - k) 0) (sym name_long)

  pub part_named : name_part slot ≡ (length (name_in slot) ∷ []) ++ padded key_name_most (name_in slot)
  part_named = first slot long ∙ ap₂ ◌∷◌ (sym name_long) after
    where
      first : (s : List ℕ) → length s ≡ slot_size → name_part s ≡ get_or s 0 0 ∷ take key_name_most (drop 1 s)
      first [] e = absurd (let z : ⊥ = omega arith in z)
      first (x ∷ s) e = refl

-- what is asked of each slot
pub record Sound (slot : List ℕ) : Type 0 where
  pub long : length slot ≡ slot_size
  pub good : well_formed_slot slot ≡ true

abbrev pub AllSound : List (List ℕ) → Type 0
AllSound [] = Unit {0}
AllSound (s ∷ slots) = Sound s × AllSound slots

-- one name, one mark
same_part : (s t : List ℕ) → Sound s → Sound t → (get_or s 0 0 ≡ 0 → ⊥) → same (name_in s) (name_in t) ≡ true → name_part s ≡ name_part t
same_part s t p q h e =
    let names : name_in s ≡ name_in t = same_true (name_in s) (name_in t) e in
    let other : get_or t 0 0 ≡ 0 → ⊥ = λ z. h (sym (name_long s p.long p.good h) ∙ ap length names ∙ empty t z) in
    part_named s p.long p.good h
    ∙ ap (λ (x : List ℕ). (length x ∷ []) ++ padded key_name_most x) names
    ∙ sym (part_named t q.long q.good other)
  where
    empty : (t : List ℕ) → get_or t 0 0 ≡ 0 → length (name_in t) ≡ 0
    empty t z = ap (λ (k : ℕ). length (take k (drop 1 t))) z

abbrev pub mark_of : (slot : List ℕ) → ℕ
mark_of slot = mark_in (name_part slot)

pub marks_new : (s : List ℕ) → Sound s → (get_or s 0 0 ≡ 0 → ⊥) → (slots : List (List ℕ)) → AllSound slots
    → all (differs_from (mark_of s)) (map mark_of slots) ≡ true → is_new (name_in s) (map name_in slots) ≡ true
marks_new s p h [] q e = refl
marks_new s p h (t ∷ slots) (q, rest) e =
    rw (apart (same (name_in s) (name_in t)) refl) (marks_new s p h slots rest (and_right (differs_from (mark_of s) (mark_of t)) _ e))
  where
    apart : (b : Bool) → same (name_in s) (name_in t) ≡ b → b ≡ false
    apart false w = refl
    apart true w = absurd (differs (mark_of s) (mark_of t) (and_left (differs_from (mark_of s) (mark_of t)) _ e) (ap mark_in (same_part s t p q h w)))

-- ---- slot by slot

pub sound_all : (slots : List (List ℕ)) → Sized slot_size slots → all well_formed_slot slots ≡ true → AllSound slots
sound_all [] z e = tt
sound_all (s ∷ slots) (h, z) e =
    (record { long = h; good = and_left (well_formed_slot s) _ e }, sound_all slots z (and_right (well_formed_slot s) _ e))

sound_take : (i : ℕ) (slots : List (List ℕ)) → AllSound slots → AllSound (take i slots)
sound_take zero slots p = tt
sound_take (suc i) [] p = tt
sound_take (suc i) (s ∷ slots) (p, rest) = (p, sound_take i slots rest)

sound_at : (i : ℕ) (slots : List (List ℕ)) → AllSound slots → i < length slots → Sound (get_or slots i [])
sound_at i [] p h = absurd (not-suc-le-zero h)
sound_at zero (s ∷ slots) (p, rest) h = p
sound_at (suc i) (s ∷ slots) (p, rest) h = sound_at i slots rest (le_of_suc-le-suc h)

-- the first i marks are those of the first i slots, among which no name stands twice
pub record Marked (slots : List (List ℕ)) (marks : List ℕ) (i : ℕ) : Type 0 where
  pub first : take i marks ≡ map mark_of (take i slots)
  pub lone : distinct (map name_in (take i slots)) ≡ true

pub marked_none : (slots : List (List ℕ)) (marks : List ℕ) → Marked slots marks 0
unfolding distinct
marked_none slots marks = record { first = refl; lone = refl }

pub marked_more : (slots : List (List ℕ)) → AllSound slots → (marks : List ℕ) (i : ℕ) → i < length slots → i < length marks → Marked slots marks i
    → ((get_or (get_or slots i []) 0 0 ≡ 0 → ⊥) → all (differs_from (mark_of (get_or slots i []))) marks ≡ true)
    → Marked slots (set marks i (mark_of (get_or slots i []))) (i + 1)
marked_more slots sound marks i h k m apart =
    let s : List ℕ = get_or slots i [] in
    let more : take (i + 1) slots ≡ take i slots ++ (s ∷ []) = ap (λ (j : ℕ). take j slots) (add-one i) ∙ take-suc slots i [] h in
    let names : map name_in (take (i + 1) slots) ≡ map name_in (take i slots) ++ (name_in s ∷ []) = ap (map name_in) more ∙ map-append name_in (take i slots) (s ∷ []) in
    record {
      first = ap (λ (j : ℕ). take j (set marks i (mark_of s))) (add-one i)
          ∙ take-suc-set marks i (mark_of s) k
          ∙ ap (λ (l : List ℕ). l ++ (mark_of s ∷ [])) m.first
          ∙ sym (ap (map mark_of) more ∙ map-append mark_of (take i slots) (s ∷ []));
      lone = ap distinct names ∙ distinct_snoc (map name_in (take i slots)) (name_in s) m.lone (go s (sound_at i slots sound h) apart (get_or s 0 0) refl);
    }
  where
    go : (s : List ℕ) → Sound s → ((get_or s 0 0 ≡ 0 → ⊥) → all (differs_from (mark_of s)) marks ≡ true) → (n : ℕ) → get_or s 0 0 ≡ n → Apart (name_in s) (map name_in (take i slots))
    go s p a zero e =
        subst (λ (x : List ℕ). Apart x (map name_in (take i slots))) (sym (ap (λ (j : ℕ). take j (drop 1 s)) e)) (apart_empty (map name_in (take i slots)))
    go s p a (suc n) e =
        let named : get_or s 0 0 ≡ 0 → ⊥ = λ z. (let w : ⊥ = omega (arith, e, z) in w) in
        apart_absent (name_in s) (map name_in (take i slots))
        (marks_new s p named (take i slots) (sound_take i slots sound)
        (ap (all (differs_from (mark_of s))) (sym m.first) ∙ all_take (differs_from (mark_of s)) i marks (a named)))

-- ---- slot number i of a line, where it lies

module _ (line : List ℕ) (i : ℕ) (h : i < slot_count) where
  abbrev at : ℕ
  at = line_head + i * slot_size

  there : get_or (slots_in line) i [] ≡ take slot_size (drop at line)
  there = block_at_lem slot_size slot_count (drop line_head line) i h ∙ ap (take slot_size) (drop-drop (i * slot_size) line_head line)

  pub first_there : get_or (get_or (slots_in line) i []) 0 0 ≡ get_or line at 0
  first_there =
      ap (λ (l : List ℕ). get_or l 0 0) there ∙ get_or-take slot_size (drop at line) 0 0 (omega arith) ∙ get_or-drop at line 0 0
      ∙ ap (λ (k : ℕ). get_or line k 0) (add-zero at)

  pub mark_there : mark_in (take (at + data_length_at - at) (drop at line)) ≡ mark_of (get_or (slots_in line) i [])
  mark_there =
      let k : at + data_length_at - at ≡ data_length_at = omega arith in
      ap (λ (n : ℕ). mark_in (take n (drop at line))) k
      ∙ ap mark_in (sym (ap name_part there ∙ part_of_part data_length_at 0 slot_size (drop at line) (omega arith)))

pub line_sound : (line : List ℕ) → length line ≡ line_size → slots_well_formed line ≡ true → AllSound (slots_in line)
line_sound line long good =
    let behind : length (drop line_head line) ≡ slot_count * slot_size = length-drop line_head line ∙ omega (arith, long) in
    sound_all (slots_in line) (sized_blocks slot_size slot_count (drop line_head line) behind) good
