use Rattle.std.proofs.Common.{◌≡◌, sym, ap, ◌∙◌, ℕ, ◌-◌, ◌<◌, Bool, true, not, List, length, take, drop, get_or, arith}
use borrow.Author.Tests.{le-leb, lt-leb, eq-eqb, ne_eqb}
use Rattle.wire.specs.Numbers.{field}
use Rattle.wire.proofs.TestLaws.{not_across}
use Rattle.wire.proofs.NumberLaws.{field_byte}
use Rattle.wire.proofs.BufferLaws.{lent}
use Rattle.keys.specs.Names.{legal_name, application_name_most, is_new}
use Rattle.registry.specs.Registry.{line_count}
use Rattle.records.specs.Records.{value_in, is_whole}
use Rattle.records.proofs.RecordLaws.{whole_room}
use Rattle.roster.specs.code.Check.{loaded_of, names_at}
use Rattle.roster.proofs.LoadLaws.{fault_cut, fault_tag, fault_name, fault_ninth, fault_repeated, fault_none, names_many}
use Rattle.roster.proofs.check.check_record.Goals as goal

-- what each test says of the record, where it lies
module _ (at : ℕ) (file : List ℕ) where
  abbrev bytes : List ℕ
  bytes = drop at file

  abbrev part : List ℕ
  part = take (length file - at) bytes

  whole_test : {r t : Bool} → r ≡ is_whole part → r ≡ t → is_whole bytes ≡ t
  whole_test e q = sym (e ∙ ap is_whole (lent at file)) ∙ q

  module _ (whole : is_whole bytes ≡ true) where
    some_bytes : 0 < length part
    some_bytes = omega (arith, whole_room bytes whole, ap length (lent at file))

    tag_test : field 0 1 bytes ≡ get_or part 0 0
    tag_test = field_byte 0 bytes (omega (arith, whole_room bytes whole)) ∙ sym (ap (λ (l : List ℕ). get_or l 0 0) (lent at file))

  legal_test : {name : List ℕ} {r t : Bool} → name ≡ value_in part → r ≡ legal_name application_name_most name → r ≡ t → legal_name application_name_most (value_in bytes) ≡ t
  legal_test v e q = sym (e ∙ ap (legal_name application_name_most) (v ∙ ap value_in (lent at file))) ∙ q

  new_test : (names : List (List ℕ)) {name : List ℕ} {r t : Bool} → name ≡ value_in part → r ≡ not (is_new name names) → r ≡ t → is_new (value_in bytes) names ≡ not t
  new_test names v e q = not_across _ _ (sym (e ∙ ap (λ (n : List ℕ). not (is_new n names)) (v ∙ ap value_in (lent at file)))) ∙ ap not q

pub returns-then-not-is_whole : goal.returns-then-not-is_whole
unfolding loaded_of
returns-then-not-is_whole c =
    let a = c.args in
    rw (fault_cut (names_at a.file.now a.names) (drop a.at a.file.now) (whole_test a.at a.file.now c.is_whole.ensures c.if-not-is_whole.true))

pub bounds-bytes-0 : goal.bounds-bytes-0
bounds-bytes-0 c = some_bytes c.args.at c.args.file.now (whole_test c.args.at c.args.file.now c.is_whole.ensures c.if-not-is_whole.false)

pub returns-then-bytes-ne1 : goal.returns-then-bytes-ne1
unfolding loaded_of
returns-then-bytes-ne1 c =
    let a = c.args in
    let whole = whole_test a.at a.file.now c.is_whole.ensures c.if-not-is_whole.false in
    rw (fault_tag (names_at a.file.now a.names) (drop a.at a.file.now) whole (ne_eqb _ 1 (λ q. c.if-bytes-ne1.true (sym (tag_test a.at a.file.now whole) ∙ q))))

pub value_in-name-requires : goal.value_in-name-requires
value_in-name-requires c = sym c.is_whole.ensures ∙ c.if-not-is_whole.false

pub returns-then-not-is_legal : goal.returns-then-not-is_legal
unfolding loaded_of
returns-then-not-is_legal c =
    let a = c.args in
    let whole = whole_test a.at a.file.now c.is_whole.ensures c.if-not-is_whole.false in
    let tag = eq-eqb _ 1 (tag_test a.at a.file.now whole ∙ c.if-bytes-ne1.false) in
    let legal = legal_test a.at a.file.now c.value_in-name.ensures c.is_legal.ensures c.if-not-is_legal.true in
    rw (fault_name (names_at a.file.now a.names) (drop a.at a.file.now) whole tag legal)

pub returns-then-names-ge-LINES : goal.returns-then-names-ge-LINES
unfolding loaded_of
returns-then-names-ge-LINES c =
    let a = c.args in
    let names : List (List ℕ) = names_at a.file.now a.names in
    let whole = whole_test a.at a.file.now c.is_whole.ensures c.if-not-is_whole.false in
    let tag = eq-eqb _ 1 (tag_test a.at a.file.now whole ∙ c.if-bytes-ne1.false) in
    let legal = legal_test a.at a.file.now c.value_in-name.ensures c.is_legal.ensures c.if-not-is_legal.false in
    let ninth = le-leb line_count (length names) (omega (arith, names_many a.file.now a.names c.requires.1)) in
    rw (fault_ninth names (drop a.at a.file.now) whole tag legal ninth)

pub returns-then-contains : goal.returns-then-contains
unfolding loaded_of
returns-then-contains c =
    let a = c.args in
    let names : List (List ℕ) = names_at a.file.now a.names in
    let whole = whole_test a.at a.file.now c.is_whole.ensures c.if-not-is_whole.false in
    let tag = eq-eqb _ 1 (tag_test a.at a.file.now whole ∙ c.if-bytes-ne1.false) in
    let legal = legal_test a.at a.file.now c.value_in-name.ensures c.is_legal.ensures c.if-not-is_legal.false in
    let room = lt-leb line_count (length names) (omega (arith, names_many a.file.now a.names c.requires.1)) in
    let repeated = new_test a.at a.file.now names c.value_in-name.ensures c.contains.ensures c.if-contains.true in
    rw (fault_repeated names (drop a.at a.file.now) whole tag legal room repeated)

pub returns : goal.returns
unfolding loaded_of
returns c =
    let a = c.args in
    let names : List (List ℕ) = names_at a.file.now a.names in
    let whole = whole_test a.at a.file.now c.is_whole.ensures c.if-not-is_whole.false in
    let tag = eq-eqb _ 1 (tag_test a.at a.file.now whole ∙ c.if-bytes-ne1.false) in
    let legal = legal_test a.at a.file.now c.value_in-name.ensures c.is_legal.ensures c.if-not-is_legal.false in
    let room = lt-leb line_count (length names) (omega (arith, names_many a.file.now a.names c.requires.1)) in
    let new = new_test a.at a.file.now names c.value_in-name.ensures c.contains.ensures c.if-contains.false in
    rw (fault_none names (drop a.at a.file.now) whole tag legal room new)
