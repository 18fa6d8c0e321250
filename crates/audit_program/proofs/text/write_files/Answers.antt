use Rattle.std.proofs.Common.{◌≤◌, length, sym, arith, []}
use Rattle.std.proofs.Math.Seq.{length-take-le}
use Rattle.starting.proofs.SourceLaws.{list_kept}
use Rattle.file_input.specs.Argument.{argument_file}
use Rattle.audit_program.proofs.text.write_files.Goals as goal

pub slice_bounds-write_restored-end : goal.slice_bounds-write_restored-end
slice_bounds-write_restored-end c =
    let read = c.read_list-read in
    omega (arith, (list_kept (argument_file c.args.list) [] read.ensures c.in-Some.is).0, read.auto.front)

pub slice_bounds-write_restored-end-2 : goal.slice_bounds-write_restored-end-2
slice_bounds-write_restored-end-2 c =
    let read = c.read_list-read in
    let fits : c.in-Some.size ≤ length read.new.front =
    omega (arith, (list_kept (argument_file c.args.list) [] read.ensures c.in-Some.is).0, read.auto.front)
    in
    sym (length-take-le c.in-Some.size read.new.front fits)
