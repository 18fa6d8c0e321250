use Rattle.std.proofs.Common.{◌≡◌, refl, sym, ap, ◌∙◌, None, Err, ℕ, ◌+◌, ◌≤◌, ◌<◌, true, List, length, drop, arith, rules}
use lib.ListN.{length-drop}
use Rattle.wire.proofs.BufferLaws.{lent}
use Rattle.registry.specs.Registry.{line_count}
use Rattle.records.specs.Records.{record_length, is_whole}
use Rattle.records.proofs.RecordLaws.{whole_room}
use Rattle.roster.specs.Roster.{roster_of}
use Rattle.roster.specs.code.Check.{fault_in, names_at, no_names, roster_in, KnownWithin}
use Rattle.roster.proofs.LoadLaws.{passed_whole, passed_room, loaded_good, loaded_faulty, roster_from, roster_end, roster_fault, roster_on, names_many, names_more, within_more}
use Rattle.roster.proofs.load.check_roster.Goals as goal
use Rattle.roster.proofs.load.check_roster.Goals.{In_ok-check_record, After-record_length-at}

abbrev bytes : In_ok-check_record → List ℕ
bytes c = drop c.loop-at.at c.args.file.now

abbrev names : In_ok-check_record → List (List ℕ)
names c = names_at c.args.file.now c.loop-at.names

-- a record without a fault is whole, and there is room for its name
passed : (c : In_ok-check_record) → fault_in (names c) (bytes c) ≡ None
passed c = loaded_good _ (sym c.check_record.ensures ∙ c.in_ok-check_record.was)

whole : (c : In_ok-check_record) → is_whole (bytes c) ≡ true
whole c = passed_whole (names c) (bytes c) (passed c)

within : (c : In_ok-check_record) → c.loop-at.at + record_length (bytes c) ≤ length c.args.file.now
within c = omega (arith, whole_room (bytes c) (whole c), length-drop c.loop-at.at c.args.file.now)

few : (c : In_ok-check_record) → c.loop-at.names.count < line_count
few c = rw (← names_many c.args.file.now c.loop-at.names c.loop-at.invariant.0) (passed_room (names c) (bytes c) (passed c))

ahead : (c : After-record_length-at) → c.record_length-at.result ≡ record_length (drop c.loop-at.at c.args.file.now)
ahead c = c.record_length-at.ensures ∙ ap record_length (lent c.loop-at.at c.args.file.now)

pub loop-at-init : goal.loop-at-init
unfolding roster_of names_at no_names
loop-at-init c = rw c.none-names.ensures (record { few = omega arith; places = refl; whole = refl }, refl)

pub check_record-requires : goal.check_record-requires
check_record-requires c = (omega arith, c.loop-at.invariant.0)

pub push-requires : goal.push-requires
push-requires c = few (goal.at.push-requires c).In_ok-check_record

pub record_length-at-requires : goal.record_length-at-requires
record_length-at-requires c =
    let w = (goal.at.record_length-at-requires c).In_ok-check_record in
    omega (arith, whole_room (bytes w) (whole w), ap length (lent c.loop-at.at c.args.file.now))

pub overflow_add-at : goal.overflow_add-at
overflow_add-at c =
    let w = (goal.at.overflow_add-at c).In_ok-check_record in
    omega (arith, ahead c, within w)

pub loop-at-smaller : goal.loop-at-smaller
loop-at-smaller c = omega (arith, ahead c)

pub loop-at-preserved : goal.loop-at-preserved
loop-at-preserved c =
    let w = (goal.at.loop-at-preserved c).In_ok-check_record in
    let file : List ℕ = c.args.file.now in
    let l = c.loop-at in
    let more = names_more file l.names l.invariant.0 l.at (few w) in
    rw (c.push.ensures, ahead c) (
      within_more file l.names l.invariant.0 l.at (few w) (whole w),
      ap (roster_from file (l.at + record_length (bytes w))) more ∙ sym (roster_on file l.at (names w) c.loop-at-test.true (passed w)) ∙ l.invariant.1,
    )

pub returns-in_err-check_record : goal.returns-in_err-check_record
unfolding roster_in KnownWithin
returns-in_err-check_record c =
    let fault = c.in_err-check_record.field-0.0 in
    let failed : c.from_residual.result ≡ Err fault = search rules in
    let bad = loaded_faulty _ fault (sym c.check_record.ensures ∙ c.in_err-check_record.was) in
    let file : List ℕ = c.args.file.now in
    let l = c.loop-at in
    rw failed (record { roster = sym (roster_fault file l.at (names_at file l.names) fault c.loop-at-test.true bad) ∙ l.invariant.1; within = tt })

pub returns : goal.returns
unfolding roster_in KnownWithin
returns c =
    let s = c.args.file.now in
    let l = c.loop-at in
    record { roster = sym (roster_end s l.at (names_at s l.names) c.loop-at-test.false) ∙ l.invariant.1; within = l.invariant.0 }
