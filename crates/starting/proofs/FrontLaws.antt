-- Why the front of a roster file is enough, and that of a list of keys: of a longer roster file the first faulty record lies whole
-- within it, and a longer list is bad.
use Rattle.std.proofs.Common.{Option, Some, None}
use mathlib.Core.Path.{◌≡◌, refl, sym, ap, ap₂, ◌∙◌}
use mathlib.Core.Bool.{Bool, true, false}
use mathlib.Core.List.{List, [], ◌∷◌, ◌++◌}
use Prim.Native.Nat.{ℕ, zero, suc, ◌+◌, ◌*◌, ◌≤◌, ◌<◌}
use native.Mathlib.Omega.{arith}
use native.Mathlib.Decide.{dec_lt}
use borrow.Author.Tests.{ltb-true, not-false}
use lib.Dec.{eqb}
use lib.ListN.{length, take, drop, length-append, length-drop, take-append-drop}
use lib.Seq.{drop-append-le, length-take-le, take_all}
use Rattle.wire.specs.Choice.{when◌then◌else◌, first_of}
use Rattle.wire.specs.Lists.{all}
use Rattle.wire.specs.Numbers.{little_endian, field}
use Rattle.wire.proofs.TestLaws.{some≢none, and_left, and_right, none_at}
use Rattle.wire.proofs.ListLaws.{all_take, all_drop}
use Rattle.wire.proofs.NumberLaws.{is_byte}
use Rattle.keys.specs.Names.{legal_name, application_name_most, key_name_most}
use Rattle.keys.specs.Key.{legal_data}
use Rattle.keys.proofs.NameLaws.{legal_short}
use Rattle.keys.proofs.KeyLaws.{legal_data_lem}
use Rattle.registry.specs.Registry.{line_count}
use Rattle.records.specs.Records.{Record, record_length, value_in, record_in, is_whole}
use Rattle.records.proofs.RecordLaws.{value_length, whole_fit, whole_append, size_append, record_append}
use Rattle.roster.specs.Roster.{record_faults, Roster, applications, faulty, roster_of}
use Rattle.roster.specs.code.Check.{fault_in}
use Rattle.roster.specs.declared.RosterFault.{RosterFault}
use Rattle.roster.specs.declared.RosterFault.TheVariants.{CutRecord, BadName}
use Rattle.roster.proofs.LoadLaws.{passed_whole, passed_tests, passed_room, roster_from, roster_fault, roster_on}
use Rattle.shipped.specs.Shipped.{ListedKey, listed_most, whole, list_of, well_formed_list}
use Rattle.shipped.specs.code.Pairs.{is_name, is_data, behind as behind_name, is_pair, pair_size, key_in}
use Rattle.shipped.proofs.PairLaws.{read_pairs, pair_name, pair_data, pair_whole, behind_whole, pair_long, pairs_over}
use Rattle.shipped.proofs.ListLaws.{good_list, next_pair, next_on}
use Rattle.billing.specs.Bill.{refused_list, bill_for, is_list_refused, bill}
use Rattle.starting.specs.code.Front.{good_record_most, record_most, front_most, pair_most, list_most, list_front_most}

-- ---- a record's length

two_bytes : (l : List ℕ) → all is_byte l ≡ true → little_endian (take 2 l) ≤ 65535
unfolding little_endian
two_bytes [] e = omega arith
two_bytes (b ∷ []) e = let x : b < 256 = ltb-true _ _ (and_left (is_byte b) _ e) in omega arith
two_bytes (b ∷ c ∷ l) e =
    let x : b < 256 = ltb-true _ _ (and_left (is_byte b) _ e) in
    let y : c < 256 = ltb-true _ _ (and_left (is_byte c) _ (and_right (is_byte b) _ e)) in
    omega arith

record_most_lem : (bytes : List ℕ) → all is_byte bytes ≡ true → record_length bytes ≤ record_most
unfolding field
record_most_lem bytes e = omega (arith, two_bytes (drop 1 bytes) (all_drop is_byte 1 bytes e))

-- a good record is short
module _ (names : List (List ℕ)) (bytes : List ℕ) (e : fault_in names bytes ≡ None) where
  legal : legal_name application_name_most (value_in bytes) ≡ true
  unfolding record_faults
  legal = not-false _ (none_at (record_faults names (record_in bytes)) 1 BadName (passed_tests names bytes e))

  good_most : record_length bytes ≤ good_record_most
  good_most =
      let short = legal_short application_name_most (value_in bytes) legal in
      let size = value_length bytes (passed_whole names bytes e) in
      omega arith

-- bytes behind a whole record do not matter to it
same_fault : (names : List (List ℕ)) (x rest : List ℕ) → record_length x ≤ length x → fault_in names (x ++ rest) ≡ fault_in names x
unfolding fault_in
same_fault names x rest room =
    ap₂ (λ (whole : Bool) (r : Record). when whole then first_of (record_faults names r) else Some CutRecord)
    (whole_append x rest room ∙ sym (whole_fit x room)) (record_append x rest room)

-- ---- record after record

module _ (front rest : List ℕ) (bytes : all is_byte front ≡ true) (long : front_most ≤ length front) where
  Same : (at : ℕ) (names : List (List ℕ)) → Type 0
  Same at names = roster_from front at names ≡ roster_from (front ++ rest) at names

  -- the record at `at`, behind good ones
  module _ (at : ℕ) (names : List (List ℕ)) (few : length names ≤ line_count) (near : at ≤ good_record_most * length names) where
    abbrev x : List ℕ
    x = drop at front

    behind : drop at (front ++ rest) ≡ x ++ rest
    behind = drop-append-le at front rest (omega arith)

    room : record_length x ≤ length x
    room = omega (arith, record_most_lem (drop at front) (all_drop is_byte at front bytes), length-drop at front)

    there : at < length (front ++ rest)
    there = omega (arith, length-append front rest)

    faults : fault_in names (drop at (front ++ rest)) ≡ fault_in names x
    faults = ap (fault_in names) behind ∙ same_fault names x rest room

    step : (record_length x ≤ good_record_most → length names < line_count → Same (at + record_length x) (names ++ (value_in x ∷ []))) → Same at names
    unfolding Same
    step next = go (fault_in names x) refl
      where
        go : (o : Option RosterFault) → fault_in names x ≡ o → roster_from front at names ≡ roster_from (front ++ rest) at names
        go (Some fault) q = roster_fault front at names fault (omega arith) q ∙ sym (roster_fault (front ++ rest) at names fault there (faults ∙ q))
        go None q =
            roster_on front at names (omega arith) q
            ∙ next (good_most names x q) (passed_room names x q)
            ∙ ap₂ (λ (s : ℕ) (r : Record). roster_from (front ++ rest) (at + (3 + s)) (names ++ (r.value ∷ [])))
            (sym (size_append x rest room)) (sym (record_append x rest room))
            ∙ ap (λ (b : List ℕ). roster_from (front ++ rest) (at + record_length b) (names ++ (value_in b ∷ []))) (sym behind)
            ∙ sym (roster_on (front ++ rest) at names there (faults ∙ q))

  -- k names more have room
  same : (k at : ℕ) (names : List (List ℕ)) → length names + k ≡ line_count → at ≤ good_record_most * length names → Same at names
  same zero at names all near = step at names (omega arith) near (λ short room. absurd (omega arith))
  same (suc k) at names all near =
      step at names (omega arith) near
      (λ short room.
      let n = length-append names (value_in (drop at front) ∷ []) in
      same k (at + record_length (drop at front)) (names ++ (value_in (drop at front) ∷ [])) (omega arith) (omega arith))

pub front_decides : (file : List ℕ) → all is_byte file ≡ true → front_most ≤ length file → roster_of (take front_most file) ≡ roster_of file
unfolding roster_of Same
front_decides file bytes long =
    let front : List ℕ = take front_most file in
    let size : length front ≡ front_most = length-take-le front_most file long in
    same front (drop front_most file) (all_take is_byte front_most file bytes) (omega arith) line_count 0 [] refl (omega arith)
    ∙ ap (λ (l : List ℕ). roster_from l 0 []) (take-append-drop front_most file)

-- ---- a list of keys

module _ (bytes : List ℕ) (e : is_pair bytes ≡ true) where
  name_legal : legal_name key_name_most (value_in bytes) ≡ true
  unfolding is_name
  name_legal = and_left (legal_name key_name_most (value_in bytes)) _ (and_right (eqb (field 0 1 bytes) 1) _ (and_right (is_whole bytes) _ (pair_name bytes e)))

  data_legal : legal_data (value_in (behind_name bytes)) ≡ true
  unfolding is_data
  data_legal = and_left (legal_data (value_in (behind_name bytes))) _ (and_right (eqb (field 0 1 (behind_name bytes)) 2) _ (and_right (is_whole (behind_name bytes)) _ (pair_data bytes e)))

  pair_most_lem : pair_size bytes ≤ pair_most
  pair_most_lem =
      let name = legal_short key_name_most (value_in bytes) name_legal in
      let size = value_length bytes (pair_whole bytes e) in
      let short = legal_data_lem (value_in (behind_name bytes)) data_legal in
      let size2 = value_length (behind_name bytes) (behind_whole bytes e) in
      omega (arith, pair_long bytes e)

-- k pairs more have room
pairs_most : (k : ℕ) (keys more : List ListedKey) (bytes : List ℕ) → length keys + k ≡ listed_most → read_pairs bytes (whole keys) ≡ Some more
    → length bytes ≤ k * pair_most
pairs_most zero keys more bytes all e =
    elim (dec_lt 0 (length bytes)) [
      | yes l ↦ absurd (some≢none more (sym e ∙ pairs_over keys bytes (next_pair keys more bytes e l) (omega arith)))
      | no l ↦ omega arith
    ]
pairs_most (suc k) keys more bytes all e =
    elim (dec_lt 0 (length bytes)) [
      | yes l ↦
          let n = length-append keys (key_in bytes ∷ []) in
          let rest = pairs_most k (keys ++ (key_in bytes ∷ [])) more (drop (pair_size bytes) bytes) (omega arith) (next_on keys more bytes e l) in
          omega (arith, rest, pair_most_lem bytes (next_pair keys more bytes e l), length-drop (pair_size bytes) bytes)
      | no l ↦ omega arith
    ]

pub list_most_lem : (list : List ℕ) → well_formed_list list ≡ true → length list ≤ list_most
unfolding list_of
list_most_lem list e = pairs_most listed_most [] _ list refl (good_list list e)

longer_bad : (list : List ℕ) → list_most < length list → well_formed_list list ≡ false
longer_bad list h = go (well_formed_list list) refl
  where
    go : (t : Bool) → well_formed_list list ≡ t → t ≡ false
    go true e = absurd (omega (arith, h, list_most_lem list e))
    go false e = refl

module _ (file : List ℕ) (long : list_most < length file) where
  front_bad : well_formed_list (take list_front_most file) ≡ false
  front_bad = longer_bad (take list_front_most file) (omega (arith, length-take-le list_front_most file (omega arith)))

  -- the list's line, or the roster's
  same_line : (roster stream : List ℕ) → bill (Some roster) (Some stream) (Some (take list_front_most file)) ≡ bill (Some roster) (Some stream) (Some file)
  unfolding bill is_list_refused bill_for
  same_line roster stream = go (roster_of roster)
    where
      go : (r : Roster)
          → (when is_list_refused r (take list_front_most file) then refused_list else bill_for (take list_front_most file) r stream)
          ≡ (when is_list_refused r file then refused_list else bill_for file r stream)
      go (applications names) = rw (front_bad, longer_bad file long) refl
      go (faulty fault) = refl

-- the front of a list is all of it, or both are bad
pub list_front_decides : (file : List ℕ) → well_formed_list (take list_front_most file) ≡ well_formed_list file
list_front_decides file =
    elim (dec_lt list_most (length file)) [
      | yes l ↦ front_bad file l ∙ sym (longer_bad file l)
      | no l ↦ ap well_formed_list (take_all list_front_most file (omega arith))
    ]

pub list_front_bills : (roster stream : Option (List ℕ)) (file : List ℕ) → bill roster stream (Some (take list_front_most file)) ≡ bill roster stream (Some file)
unfolding bill
list_front_bills None stream file = refl
list_front_bills (Some roster) None file = refl
list_front_bills (Some roster) (Some stream) file =
    elim (dec_lt list_most (length file)) [
      | yes l ↦ same_line file l roster stream
      | no l ↦ ap (λ (list : List ℕ). bill (Some roster) (Some stream) (Some list)) (take_all list_front_most file (omega arith))
    ]
