-- Legal, distinct names, at most eight, give a well-formed registry with these names, in their order, and no keys.
use mathlib.Core.Path.{◌≡◌, refl, sym, ap, ap₂, ◌∙◌, subst}
use mathlib.Core.Bool.{Bool, true, not, ◌&&◌, ◌||◌}
use mathlib.Core.List.{List, [], ◌∷◌, ◌++◌, map, flatten, append_assoc}
use Prim.Native.Nat.{ℕ, zero, suc, ◌+◌, ◌-◌, ◌*◌, ◌≤◌}
use native.Mathlib.Omega.{arith}
use lib.ListN.{length, take, drop, replicate, length-append, length-replicate, length-map, replicate-append-replicate}
use lib.Seq.{take_at, drop_at, take-append_seam, drop-append_seam, drop-drop}
use Rattle.wire.specs.Lists.{all, is_zero, same, padded, blocks}
use Rattle.wire.proofs.TestLaws.{and_left, and_right}
use Rattle.wire.proofs.ListLaws.{all_append, all_zeros, length_padded}
use Rattle.wire.proofs.BlockLaws.{skip, Sized, length_flatten, blocks_flatten, zero_blocks}
use Rattle.keys.specs.Names.{legal_name, application_name_most, is_new}
use Rattle.registry.specs.Names.{name_in, distinct}
use Rattle.registry.specs.Slots.{slot_size}
use Rattle.registry.specs.Registry.{line_count, slot_count, line_head, line_size, registry_size, lines_in, names_in, slots_in, line_of, registry_of}
use Rattle.registry.specs.WellFormed.{is_used, none_used, used_first, zeros_behind_name, well_formed_registry}
use Rattle.keys.proofs.NameLaws.{legal_some, legal_short}
use Rattle.registry.proofs.NameLaws.{lone, distinct_cons}
use Rattle.registry.proofs.LineLaws.{line_long}
use Rattle.registry.proofs.RegistryLaws.{some_used}
use Rattle.registry.proofs.WellFormedLaws.{Lines, well_of, zeros_good, zeros_distinct, zero_lines}

-- ---- at most eight legal, distinct names

abbrev pub is_legal : List ℕ → Bool
is_legal name = legal_name application_name_most name

pub record LegalNames (names : List (List ℕ)) : Type 0 where
  pub few : length names ≤ line_count
  pub legal : all is_legal names ≡ true
  pub named : distinct names ≡ true

-- ---- the line of a legal name

module _ (name : List ℕ) (legal : is_legal name ≡ true) where
  zeros_after : List ℕ
  zeros_after = replicate (application_name_most - length name) 0

  slot_zeros : List ℕ
  slot_zeros = replicate (slot_count * slot_size) 0

  short : length name ≤ application_name_most
  short = legal_short application_name_most name legal

  line_length : length (line_of name) ≡ line_size
  line_length = line_long name short

  line_name : name_in (line_of name) ≡ name
  unfolding line_of zeros_after slot_zeros
  line_name = ap (take (length name)) (append_assoc name zeros_after slot_zeros) ∙ take-append_seam name (zeros_after ++ slot_zeros)

  line_used : is_used (name_in (line_of name)) ≡ true
  line_used = ap is_used line_name ∙ some_used name (legal_some application_name_most name legal)

  line_slots : all (λ slot. all is_zero slot) (slots_in (line_of name)) ≡ true
  unfolding line_of
  line_slots =
      let behind : drop line_head (line_of name) ≡ replicate (slot_count * slot_size) 0
      = drop_at (length name ∷ padded application_name_most name) (replicate (slot_count * slot_size) 0) line_head (ap suc (length_padded application_name_most name short)) in
      zero_blocks slot_count slot_size (drop line_head (line_of name)) (ap (all is_zero) behind ∙ all_zeros (slot_count * slot_size))

  line_zeros : zeros_behind_name (line_of name) ≡ true
  unfolding line_of zeros_after slot_zeros
  line_zeros =
      let n : ℕ = length name in
      let from : drop (1 + n) (line_of name) ≡ zeros_after ++ slot_zeros
      = sym (drop-drop n 1 (line_of name)) ∙ ap (drop n) (append_assoc name zeros_after slot_zeros) ∙ drop-append_seam name (zeros_after ++ slot_zeros) in
      ap (λ (l : List ℕ). all is_zero (take (application_name_most - n) l)) from
      ∙ ap (all is_zero) (take_at zeros_after slot_zeros (application_name_most - n) (length-replicate (application_name_most - n) 0))
      ∙ all_zeros (application_name_most - n)

-- ---- the lines of legal names, and k lines of zeros

zero_line : List ℕ
zero_line = replicate line_size 0

lines : ℕ → List (List ℕ) → List (List ℕ)
lines k names = map line_of names ++ replicate k zero_line

zero_rest : (k : ℕ) → all (λ line. all is_zero line) (replicate k zero_line) ≡ true
unfolding zero_line
zero_rest zero = refl
zero_rest (suc k) = ap₂ ◌&&◌ (all_zeros line_size) (zero_rest k)

lines_good : (k : ℕ) (names : List (List ℕ)) → all is_legal names ≡ true → Lines (lines k names)
unfolding lines used_first
lines_good k [] e = (zero_lines (replicate k zero_line) (zero_rest k)).1
lines_good k (name ∷ names) e =
    let legal : is_legal name ≡ true = and_left (is_legal name) _ e in
    let p = lines_good k names (and_right (is_legal name) _ e) in
    let u = line_used name legal in
    record {
      first = ap₂ ◌&&◌ (ap (λ (t : Bool). t || none_used (map name_in (lines k names))) u) p.first;
      legal = ap₂ ◌&&◌ (ap (λ (t : Bool). not t || is_legal (name_in (line_of name))) u ∙ ap is_legal (line_name name legal) ∙ legal) p.legal;
      unused = ap₂ ◌&&◌ (ap (λ (t : Bool). t || all (λ slot. all is_zero slot) (slots_in (line_of name))) u) p.unused;
      slots = ap₂ ◌&&◌ (zeros_good (slots_in (line_of name)) (line_slots name legal)) p.slots;
      zeros = ap₂ ◌&&◌ (line_zeros name legal) p.zeros;
      keys = ap₂ ◌&&◌ (zeros_distinct (slots_in (line_of name)) (line_slots name legal)) p.keys;
    }

names_back : (k : ℕ) (names : List (List ℕ)) → all is_legal names ≡ true → map name_in (lines k names) ≡ names ++ replicate k []
unfolding lines zero_line
names_back zero [] e = refl
names_back (suc k) [] e = ap (λ (r : List (List ℕ)). [] ∷ r) (names_back k [] e)
names_back k (name ∷ names) e =
    ap₂ ◌∷◌ (line_name name (and_left (is_legal name) _ e)) (names_back k names (and_right (is_legal name) _ e))

lone_then_empty : (k : ℕ) (x : List ℕ) (xs : List (List ℕ)) → lone x xs ≡ true → lone x (xs ++ replicate k []) ≡ true
lone_then_empty k [] xs e = refl
lone_then_empty k (a ∷ x) xs e = all_append (λ z. not (same (a ∷ x) z)) xs (replicate k []) e (empty k)
  where
    empty : (k : ℕ) → is_new (a ∷ x) (replicate k []) ≡ true
    empty zero = refl
    empty (suc k) = empty k

distinct_then_empty : (k : ℕ) (xs : List (List ℕ)) → distinct xs ≡ true → distinct (xs ++ replicate k []) ≡ true
unfolding distinct
distinct_then_empty zero [] e = refl
distinct_then_empty (suc k) [] e = distinct_then_empty k [] e
distinct_then_empty k (x ∷ xs) e =
    let both : lone x xs && distinct xs ≡ true = sym (distinct_cons x xs) ∙ e in
    distinct_cons x (xs ++ replicate k [])
    ∙ ap₂ ◌&&◌ (lone_then_empty k x xs (and_left (lone x xs) _ both)) (distinct_then_empty k xs (and_right (lone x xs) _ both))

-- ---- the bytes of the registry are those lines

flatten_zeros : (k : ℕ) → flatten (replicate k zero_line) ≡ replicate (k * line_size) 0
unfolding zero_line flatten
flatten_zeros zero = refl
flatten_zeros (suc k) =
    ap (λ (r : List ℕ). replicate line_size 0 ++ r) (flatten_zeros k)
    ∙ replicate-append-replicate line_size (k * line_size) 0
    ∙ ap (λ (n : ℕ). replicate n 0) (sym (skip line_size k))

flatten_lines : (k : ℕ) (bs : List (List ℕ)) → flatten (bs ++ replicate k zero_line) ≡ flatten bs ++ replicate (k * line_size) 0
unfolding flatten
flatten_lines k [] = flatten_zeros k
flatten_lines k (b ∷ bs) = ap (λ (r : List ℕ). b ++ r) (flatten_lines k bs) ∙ sym (append_assoc b (flatten bs) (replicate (k * line_size) 0))

sized_lines : (k : ℕ) (names : List (List ℕ)) → all is_legal names ≡ true → Sized line_size (lines k names)
unfolding lines zero_line
sized_lines zero [] e = tt
sized_lines (suc k) [] e = (length-replicate {A = ℕ} line_size 0, sized_lines k [] e)
sized_lines k (name ∷ names) e = (line_length name (and_left (is_legal name) _ e), sized_lines k names (and_right (is_legal name) _ e))

pub sized_names : (names : List (List ℕ)) → all is_legal names ≡ true → Sized line_size (map line_of names)
sized_names [] e = tt
sized_names (name ∷ names) e = (line_length name (and_left (is_legal name) _ e), sized_names names (and_right (is_legal name) _ e))

module _ (names : List (List ℕ)) (l : LegalNames names) where
  unused_lines : ℕ
  unused_lines = line_count - length names

  all_lines : List (List ℕ)
  all_lines = lines unused_lines names

  registry_lines : registry_of names ≡ flatten all_lines
  unfolding registry_of all_lines lines unused_lines
  registry_lines =
      let bytes : List ℕ = flatten (map line_of names) in
      let long : length bytes ≡ length names * line_size
      = length_flatten line_size (map line_of names) (sized_names names l.legal) ∙ ap (λ (n : ℕ). n * line_size) (length-map names line_of) in
      let f = l.few in
      let rest : registry_size - length bytes ≡ (line_count - length names) * line_size = omega arith in
      ap (λ (n : ℕ). bytes ++ replicate n 0) rest ∙ sym (flatten_lines (line_count - length names) (map line_of names))

  all_there : length all_lines ≡ line_count
  unfolding all_lines lines unused_lines
  all_there =
      let a = length-append (map line_of names) (replicate (line_count - length names) zero_line) in
      let m = length-map names line_of in
      let z = length-replicate (line_count - length names) zero_line in
      let f = l.few in
      omega arith

  lines_back : lines_in (registry_of names) ≡ all_lines
  unfolding all_lines unused_lines
  lines_back =
      ap lines_in registry_lines
      ∙ ap (λ (n : ℕ). blocks n line_size (flatten all_lines)) (sym all_there)
      ∙ blocks_flatten line_size all_lines (sized_lines unused_lines names l.legal)

  -- the names are there, in their order
  pub registry_names : names_in (registry_of names) ≡ names ++ replicate (line_count - length names) []
  unfolding all_lines unused_lines
  registry_names = ap (map name_in) lines_back ∙ names_back unused_lines names l.legal

  pub registry_good : well_formed_registry (registry_of names) ≡ true
  unfolding all_lines
  registry_good = well_of _ (record {
    size =
        ap length registry_lines
        ∙ length_flatten line_size all_lines (sized_lines unused_lines names l.legal)
        ∙ ap (λ (n : ℕ). n * line_size) all_there;
    named = ap distinct registry_names ∙ distinct_then_empty (line_count - length names) names l.named;
    lines = subst Lines (sym lines_back) (lines_good unused_lines names l.legal);
  })
