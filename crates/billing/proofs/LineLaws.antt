-- Laws of the bill's lines: those of the applications, of their keys and of the statuses, one by one.
use mathlib.Core.Path.{◌≡◌, refl}
use mathlib.Core.Bool.{Bool, true, false}
use mathlib.Core.List.{List, [], ◌∷◌, ◌++◌}
use Prim.Native.Nat.{ℕ, suc, ◌+◌, ◌≤◌, ◌<◌}
use native.Mathlib.Numerals.{add-one}
use native.Mathlib.Omega.{arith}
use borrow.Author.Tests.{eq-eqb, ne_eqb}
use lib.ListN.{length, drop, get_or, drop_of_length-le}
use lib.Seq.{drop-cons}
use lib.Dec.{eqb}
use Rattle.wire.specs.Choice.{when◌then◌else◌}
use Rattle.wire.specs.Lists.{all}
use Rattle.wire.proofs.TestLaws.{and_left}
use Rattle.wire.proofs.ListLaws.{all_drop}
use Rattle.keys.specs.Names.{application_name_most}
use Rattle.registry.specs.Slots.{free, slot_of}
use Rattle.registry.specs.Registry.{line_count, slot_count, line_size, names_in, slots_of, uses_of, slot_at}
use Rattle.registry.specs.WellFormed.{legal_if_used, well_formed_registry}
use Rattle.registry.specs.code.Check.{is_free}
use Rattle.registry.specs.declared.Line.{Line}
use Rattle.keys.proofs.NameLaws.{legal_short}
use Rattle.registry.proofs.WellFormedLaws.{good_of}
use Rattle.registry.proofs.RegistryLaws.{length_slots, slot_there_lem}
use Rattle.registry.proofs.LineLaws.{length_names}
use Rattle.judgement.specs.Status.{status_number, refused_statuses}
use Rattle.judgement.specs.declared.Status.TheVariants.{Success}
use Rattle.billing.specs.Ascii.{ascii}
use Rattle.billing.specs.Bill.{decimal, text_line, application_lines, key_line, slot_lines, key_lines, refused_lines}
use Rattle.billing.specs.Outcome.{used_names}
use Rattle.billing.specs.code.Text.{refused_line}

-- ---- the applications

used_some : (name : List ℕ) (names : List (List ℕ)) → 1 ≤ length name → used_names (name ∷ names) ≡ name ∷ used_names names
unfolding used_names
used_some [] names h = absurd (omega arith)
used_some (b ∷ name) names h = refl

used_none : (name : List ℕ) (names : List (List ℕ)) → length name ≡ 0 → used_names (name ∷ names) ≡ []
unfolding used_names
used_none [] names h = refl
used_none (b ∷ name) names h = absurd (omega arith)

-- the lines from number i on, and those of their keys
abbrev pub lines_from : (registry served : List ℕ) (i : ℕ) → List ℕ
lines_from registry served i = application_lines i (used_names (drop i (names_in registry))) served

abbrev pub keys_from : (registry : List ℕ) (i : ℕ) → List ℕ
keys_from registry i = key_lines i (used_names (drop i (names_in registry))) registry

abbrev pub application_line : (served : List ℕ) (i : ℕ) (name : List ℕ) → List ℕ
application_line served i name = text_line (ascii "line") (decimal i ∷ name ∷ decimal (get_or served i 0) ∷ [])

used_end : (registry : List ℕ) (i : ℕ) → line_count ≤ i → used_names (drop i (names_in registry)) ≡ []
unfolding used_names
used_end registry i h =
    rw (drop_of_length-le (names_in registry) (let x : length (names_in registry) ≤ i = omega (arith, length_names registry) in x))

pub lines_end : (registry served : List ℕ) (i : ℕ) → line_count ≤ i → lines_from registry served i ≡ []
unfolding application_lines
lines_end registry served i h = rw (used_end registry i h)

pub keys_end : (registry : List ℕ) (i : ℕ) → line_count ≤ i → keys_from registry i ≡ []
unfolding key_lines
keys_end registry i h = rw (used_end registry i h)

-- the lines of an application's keys from slot k on
abbrev pub slots_from : (registry : List ℕ) (line : Line) (k : ℕ) → List ℕ
slots_from registry line k = slot_lines line.0 k (drop k (slots_of registry line)) (uses_of registry line)

module _ (registry : List ℕ) (i : ℕ) (h : i < line_count) where
  abbrev pub name_at : List ℕ
  name_at = get_or (names_in registry) i []

  names_next : drop i (names_in registry) ≡ name_at ∷ drop (i + 1) (names_in registry)
  names_next =
      let many : i < length (names_in registry) = omega (arith, length_names registry) in
      rw (add-one i) (drop-cons (names_in registry) i [] many)

  -- at an unused line, and at one with a name
  pub lines_none : (served : List ℕ) → length name_at ≡ 0 → lines_from registry served i ≡ []
  unfolding application_lines
  lines_none served e = rw (names_next, used_none name_at (drop (i + 1) (names_in registry)) e)

  pub keys_none : length name_at ≡ 0 → keys_from registry i ≡ []
  unfolding key_lines
  keys_none e = rw (names_next, used_none name_at (drop (i + 1) (names_in registry)) e)

  module _ (n : length name_at ≡ 0 → ⊥) where
    some_name : 1 ≤ length name_at
    some_name = omega arith

    pub lines_next : (served : List ℕ) → lines_from registry served i ≡ application_line served i name_at ++ lines_from registry served (i + 1)
    unfolding application_lines
    lines_next served = rw (names_next, used_some name_at (drop (i + 1) (names_in registry)) some_name, ← add-one i)

    pub keys_next : keys_from registry i ≡ slots_from registry (record { 0 = i }) 0 ++ keys_from registry (i + 1)
    unfolding key_lines
    keys_next = rw (names_next, used_some name_at (drop (i + 1) (names_in registry)) some_name, ← add-one i)

    pub name_short : well_formed_registry registry ≡ true → length name_at ≤ application_name_most
    name_short w =
        let legal : all legal_if_used (name_at ∷ drop (i + 1) (names_in registry)) ≡ true
        = rw names_next at (all_drop legal_if_used i (names_in registry) (good_of registry w).lines.legal) in
        legal_short application_name_most name_at (rw (ne_eqb (length name_at) 0 n) at (and_left (legal_if_used name_at) _ legal))

-- ---- an application's keys

-- the line of slot k
abbrev pub slot_line : (registry : List ℕ) (line : Line) (k : ℕ) → List ℕ
slot_line registry line k = key_line line.0 k (get_or (slots_of registry line) k free) (get_or (uses_of registry line) k 0)

pub slots_next : (registry : List ℕ) (line : Line) (k : ℕ) → k < slot_count
    → slots_from registry line k ≡ slot_line registry line k ++ slots_from registry line (k + 1)
unfolding slot_lines
slots_next registry line k h =
    rw (add-one k, drop-cons (slots_of registry line) k free (let x : k < length (slots_of registry line) = omega (arith, length_slots registry line) in x))

pub slots_end : (registry : List ℕ) (line : Line) (k : ℕ) → slot_count ≤ k → slots_from registry line k ≡ []
unfolding slot_lines
slots_end registry line k h =
    rw (drop_of_length-le (slots_of registry line) (let x : length (slots_of registry line) ≤ k = omega (arith, length_slots registry line) in x))

module _ (registry : List ℕ) (line : Line) (k : ℕ) (h : k < slot_count) where
  abbrev slot : List ℕ
  slot = slot_at registry line (record { 0 = k })

  pub slot_line_none : is_free slot ≡ true → slot_line registry line k ≡ []
  unfolding key_line slot_of
  slot_line_none e = rw (slot_there_lem registry line k h, e)

  pub slot_line_some : is_free slot ≡ false
      → slot_line registry line k ≡ text_line (ascii "key") (decimal line.0 ∷ decimal k ∷ decimal (get_or (uses_of registry line) k 0) ∷ [])
  unfolding key_line slot_of
  slot_line_some e = rw (slot_there_lem registry line k h, e)

-- ---- the statuses

-- the lines of the statuses from number i on
abbrev pub refused_from : (refused : List ℕ) (i : ℕ) → List ℕ
refused_from refused i = refused_lines (drop i refused_statuses) (drop i refused)

choice_append : (t : Bool) (l m : List ℕ) → (when t then m else l ++ m) ≡ (when t then [] else l) ++ m
choice_append true l m = refl
choice_append false l m = refl

pub refused_next : (refused : List ℕ) (i : ℕ) → i < length refused_statuses → i < length refused
    → refused_from refused i ≡ refused_line (status_number (get_or refused_statuses i Success)) (get_or refused i 0) ++ refused_from refused (i + 1)
unfolding refused_lines refused_line
refused_next refused i h k =
    rw (add-one i, drop-cons refused_statuses i Success h, drop-cons refused i 0 k)
    (choice_append (eqb (get_or refused i 0) 0)
    (text_line (ascii "refused") (decimal (status_number (get_or refused_statuses i Success)) ∷ decimal (get_or refused i 0) ∷ []))
    (refused_lines (drop (suc i) refused_statuses) (drop (suc i) refused)))

pub refused_end : (refused : List ℕ) (i : ℕ) → length refused_statuses ≤ i → refused_from refused i ≡ []
unfolding refused_lines
refused_end refused i h = rw (drop_of_length-le refused_statuses h)

pub refused_line_none : (number n : ℕ) → n ≡ 0 → refused_line number n ≡ []
unfolding refused_line
refused_line_none number n e = rw (eq-eqb n 0 e)

pub refused_line_some : (number n : ℕ) → (n ≡ 0 → ⊥) → refused_line number n ≡ text_line (ascii "refused") (decimal number ∷ decimal n ∷ [])
unfolding refused_line
refused_line_some number n e = rw (ne_eqb n 0 e)
