-- Laws of loading a roster file as the code does it: a record's faults, one record on, names kept by place, and lines written
-- one after another.
use Rattle.std.proofs.Common.{Option, Some, None, Ok, Err}
use mathlib.Core.Path.{◌≡◌, refl, sym, ap, ◌∙◌}
use mathlib.Core.Bool.{Bool, true, false}
use mathlib.Core.List.{List, [], ◌∷◌, ◌++◌, map, flatten, map-append}
use Prim.Native.Nat.{ℕ, ◌+◌, ◌*◌, ◌≤◌, ◌<◌}
use native.Mathlib.Numerals.{add-one}
use native.Mathlib.Omega.{arith}
use borrow.Author.Tests.{leb-false}
use lib.Dec.{leb, eqb}
use lib.ListN.{length, take, drop, get_or, length-map, length-set, length-drop, drop_of_length-le}
use lib.Seq.{drop-drop, length-take-le, take-suc, take-suc-set, get_or-take}
use Rattle.wire.specs.Choice.{when◌then◌else◌, first_of}
use Rattle.wire.specs.Lists.{all}
use Rattle.wire.specs.Numbers.{field}
use Rattle.wire.proofs.TestLaws.{some≢none, none_at}
use Rattle.wire.proofs.ListLaws.{all_at, all_append, all_take, map_at}
use Rattle.wire.proofs.BlockLaws.{length_flatten, flatten_snoc}
use Rattle.keys.specs.Names.{legal_name, application_name_most, is_new}
use Rattle.registry.specs.Registry.{line_count, line_size, line_of}
use Rattle.registry.proofs.KeylessLaws.{is_legal, sized_names}
use Rattle.records.specs.Records.{record_length, value_in, record_in, is_whole, read_records}
use Rattle.records.proofs.RecordLaws.{whole_room, records_empty, records_cut, records_on}
use Rattle.roster.specs.Roster.{record_faults, Roster, applications, faulty, record_step, roster_of}
use Rattle.roster.specs.code.Check.{loaded_of, fault_in, names_at, with_name, Within, roster_in, KnownWithin, RosterKnown}
use Rattle.roster.specs.declared.RosterFault.{RosterFault}
use Rattle.roster.specs.declared.RosterFault.TheVariants.{CutRecord, UnknownTag, BadName, NinthName, RepeatedName}
use Rattle.roster.specs.declared.check.Names.{Names}

-- ---- the first fault of a record

module _ (names : List (List ℕ)) (bytes : List ℕ) where
  pub fault_cut : is_whole bytes ≡ false → fault_in names bytes ≡ Some CutRecord
  unfolding fault_in
  fault_cut whole = rw whole

  module _ (whole : is_whole bytes ≡ true) where
    pub fault_whole : fault_in names bytes ≡ first_of (record_faults names (record_in bytes))
    unfolding fault_in
    fault_whole = rw whole

    pub fault_tag : eqb (field 0 1 bytes) 1 ≡ false → fault_in names bytes ≡ Some UnknownTag
    unfolding record_faults first_of
    fault_tag tag = fault_whole ∙ rw tag

    module _ (tag : eqb (field 0 1 bytes) 1 ≡ true) where
      pub fault_name : legal_name application_name_most (value_in bytes) ≡ false → fault_in names bytes ≡ Some BadName
      unfolding record_faults first_of
      fault_name legal = fault_whole ∙ rw (tag, legal)

      module _ (legal : legal_name application_name_most (value_in bytes) ≡ true) where
        pub fault_ninth : leb line_count (length names) ≡ true → fault_in names bytes ≡ Some NinthName
        unfolding record_faults first_of
        fault_ninth ninth = fault_whole ∙ rw (tag, legal, ninth)

        pub fault_repeated : leb line_count (length names) ≡ false → is_new (value_in bytes) names ≡ false → fault_in names bytes ≡ Some RepeatedName
        unfolding record_faults first_of
        fault_repeated ninth repeated = fault_whole ∙ rw (tag, legal, ninth, repeated)

        pub fault_none : leb line_count (length names) ≡ false → is_new (value_in bytes) names ≡ true → fault_in names bytes ≡ None
        unfolding record_faults first_of
        fault_none ninth repeated = fault_whole ∙ rw (tag, legal, ninth, repeated)

  -- a record without a fault is whole, and there is room for its name
  module _ (e : fault_in names bytes ≡ None) where
    pub passed_whole : is_whole bytes ≡ true
    passed_whole = go (is_whole bytes) refl
      where
        go : (t : Bool) → is_whole bytes ≡ t → t ≡ true
        go true w = refl
        go false w = absurd (some≢none CutRecord (sym (fault_cut w) ∙ e))

    pub passed_tests : first_of (record_faults names (record_in bytes)) ≡ None
    passed_tests = sym (fault_whole passed_whole) ∙ e

    pub passed_room : length names < line_count
    unfolding record_faults
    passed_room = leb-false _ _ (none_at (record_faults names (record_in bytes)) 2 NinthName passed_tests)

pub loaded_good : (o : Option RosterFault) → loaded_of o ≡ Ok tt → o ≡ None
unfolding loaded_of
loaded_good None e = refl
loaded_good (Some fault) e = cc

pub loaded_faulty : (o : Option RosterFault) (fault : RosterFault) → loaded_of o ≡ Err fault → o ≡ Some fault
unfolding loaded_of
loaded_faulty None fault e = cc
loaded_faulty (Some f) fault e = cc

-- ---- one record on

-- what the records from `at` on give, behind these names
abbrev pub roster_from : (file : List ℕ) (at : ℕ) (names : List (List ℕ)) → Roster
roster_from file at names = read_records (faulty CutRecord) record_step applications (drop at file) names

module _ (file : List ℕ) (at : ℕ) (names : List (List ℕ)) where
  pub roster_end : length file ≤ at → roster_from file at names ≡ applications names
  roster_end h =
      ap (λ (l : List ℕ). read_records (faulty CutRecord) record_step applications l names) (drop_of_length-le file h)
      ∙ records_empty (faulty CutRecord) record_step applications names

  pub roster_fault : (fault : RosterFault) → at < length file → fault_in names (drop at file) ≡ Some fault → roster_from file at names ≡ faulty fault
  unfolding record_step fault_in
  roster_fault fault h e = go (is_whole (drop at file)) refl e
    where
      go : (t : Bool) → is_whole (drop at file) ≡ t → (when t then first_of (record_faults names (record_in (drop at file))) else Some CutRecord) ≡ Some fault
          → roster_from file at names ≡ faulty fault
      go true w q = records_on (faulty CutRecord) record_step applications (drop at file) names w ∙ rw (record_step, q)
      go false w q =
          let c : CutRecord ≡ fault = cc in
          records_cut (faulty CutRecord) record_step applications (drop at file) names (omega (arith, length-drop at file)) w ∙ ap faulty c

  pub roster_on : at < length file → fault_in names (drop at file) ≡ None
      → roster_from file at names ≡ roster_from file (at + record_length (drop at file)) (names ++ (value_in (drop at file) ∷ []))
  unfolding record_step
  roster_on h e =
      records_on (faulty CutRecord) record_step applications (drop at file) names (passed_whole names (drop at file) e)
      ∙ rw (record_step, passed_tests names (drop at file) e, drop-drop (record_length (drop at file)) at file)

-- ---- the names kept by place

module _ (file : List ℕ) (names : Names) (w : Within file names) where
  places_many : length (take names.count names.starts) ≡ names.count
  places_many = length-take-le names.count names.starts (omega (arith, w.few, w.places))

  pub names_many : length (names_at file names) ≡ names.count
  unfolding names_at
  names_many = length-map (take names.count names.starts) (λ at. value_in (drop at file)) ∙ places_many

  module _ (i : ℕ) (h : i < names.count) where
    there : i < length (take names.count names.starts)
    there = rw places_many h

    pub place_whole : is_whole (drop (get_or names.starts i 0) file) ≡ true
    place_whole =
        rw (← get_or-take names.count names.starts i 0 h)
        (all_at (λ at. is_whole (drop at file)) 0 (take names.count names.starts) i there w.whole)

    pub place_within : get_or names.starts i 0 ≤ length file
    place_within = omega (arith, length-drop (get_or names.starts i 0) file, whole_room (drop (get_or names.starts i 0) file) place_whole)

    pub name_there : get_or (names_at file names) i [] ≡ value_in (drop (get_or names.starts i 0) file)
    unfolding names_at
    name_there =
        map_at (λ at. value_in (drop at file)) (take names.count names.starts) i 0 [] there
        ∙ ap (λ (at : ℕ). value_in (drop at file)) (get_or-take names.count names.starts i 0 h)

  -- one name more
  module _ (at : ℕ) (room : names.count < line_count) where
    places_more : take (names.count + 1) (with_name names at).starts ≡ take names.count names.starts ++ (at ∷ [])
    unfolding with_name
    places_more =
        let h : names.count < length names.starts = omega (arith, w.places) in
        rw (add-one, take-suc-set names.starts names.count at h)

    pub names_more : names_at file (with_name names at) ≡ names_at file names ++ (value_in (drop at file) ∷ [])
    unfolding names_at with_name
    names_more = ap (map (λ at. value_in (drop at file))) places_more ∙ map-append (λ at. value_in (drop at file)) (take names.count names.starts) (at ∷ [])

    pub within_more : is_whole (drop at file) ≡ true → Within file (with_name names at)
    unfolding with_name
    within_more e = record {
      few = omega arith;
      places = length-set names.starts names.count at ∙ w.places;
      whole = ap (all (λ at. is_whole (drop at file))) places_more
          ∙ all_append (λ at. is_whole (drop at file)) (take names.count names.starts) (at ∷ []) w.whole (rw e);
    }

-- ---- lines written one after another

-- the lines of the first i names
abbrev pub lines_of : (names : List (List ℕ)) (i : ℕ) → List ℕ
lines_of names i = flatten (map line_of (take i names))

module _ (names : List (List ℕ)) (i : ℕ) where
  pub lines_more : i < length names → lines_of names (i + 1) ≡ lines_of names i ++ line_of (get_or names i [])
  lines_more h = rw (add-one, take-suc names i [] h, map-append, flatten_snoc)

  pub lines_long : all is_legal names ≡ true → i ≤ length names → length (lines_of names i) ≡ i * line_size
  lines_long legal h =
      length_flatten line_size (map line_of (take i names)) (sized_names (take i names) (all_take is_legal i names legal))
      ∙ ap (λ (n : ℕ). n * line_size) (length-map (take i names) line_of ∙ length-take-le i names h)

-- ---- a checked file

module _ (file : List ℕ) where
  pub known_good : (names : Names) → RosterKnown file (Ok names) → roster_of file ≡ applications (names_at file names)
  unfolding roster_in
  known_good names k = sym k.roster

  pub known_within : (names : Names) → RosterKnown file (Ok names) → Within file names
  unfolding KnownWithin
  known_within names k = k.within

  pub known_faulty : (fault : RosterFault) → RosterKnown file (Err fault) → roster_of file ≡ faulty fault
  unfolding roster_in
  known_faulty fault k = sym k.roster
