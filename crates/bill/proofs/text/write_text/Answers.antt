use Rattle.std.proofs.Common.{ℕ, List, ◌≡◌, ◌≤◌, refl, sym, arith, length, take, ℤ, Option, Some}
use Rattle.std.proofs.Math.Seq.{length-take-le}
use Rattle.starting.specs.Start.{MayGive}
use Rattle.starting.specs.code.Sources.{ListRead}
use Rattle.starting.proofs.SourceLaws.{list_kept, start_read, ready, billable}
use Rattle.file_input.specs.Argument.{argument_file}
use Rattle.bill.proofs.PrintLaws.{no_file_prints, outcome_prints}
use Rattle.bill.proofs.text.write_text.Goals as goal

pub returns-in_default : goal.returns-in_default
returns-in_default c = no_file_prints _ _ _ c.write_no_file.ensures refl

-- what was kept of the list is the front of the buffer
kept : {n : ℕ} {read : Option ℕ} (list : Option ℤ) (most : ℕ) (front : List ℕ) → ListRead list most read → read ≡ Some n → length front ≡ most
    → (n ≤ length front) × (length (take n front) ≡ n) × MayGive list (Some (take n front))
kept {n = n} list most front read is same =
    let (few, given) = list_kept list (take n front) read is in
    let fits : n ≤ length front = omega (arith, few, same) in
    (fits, length-take-le n front fits, given)

pub slice_bounds-front-end : goal.slice_bounds-front-end
slice_bounds-front-end c =
    let read = c.read_list-read in
    (kept (argument_file c.args.list) _ read.new.front read.ensures c.in-Some.is read.auto.front).0

pub slice_bounds-keys-end : goal.slice_bounds-keys-end
slice_bounds-keys-end c =
    let read = c.read_list-read in
    sym (kept (argument_file c.args.list) _ read.new.front read.ensures c.in-Some.is read.auto.front).1

pub read_stream-taken-requires : goal.read_stream-taken-requires
read_stream-taken-requires c =
    (sym c.connection_memory-connection.ensures, ready _ _ _ _ (start_read _ _ _ _ _ c.read_roster-source.ensures c.with_list-start.ensures))

pub write_outcome-requires : goal.write_outcome-requires
write_outcome-requires c =
    (c.requires, billable _ _ _ _ _ _ (ready _ _ _ _ (start_read _ _ _ _ _ c.read_roster-source.ensures c.with_list-start.ensures)) c.read_stream-taken.ensures)

pub returns : goal.returns
returns c =
    let read = c.read_list-read in
    let (fits, size, given) = kept (argument_file c.args.list) _ read.new.front read.ensures c.in-Some.is read.auto.front in
    outcome_prints _ _ _ _ _ _ given (start_read _ _ _ _ _ c.read_roster-source.ensures c.with_list-start.ensures) _ _ c.read_stream-taken.ensures c.write_outcome.ensures
