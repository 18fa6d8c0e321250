use Rattle.std.proofs.Common.{sym, arith}
use Rattle.std.proofs.Math.Seq.{length-take-le}
use Rattle.starting.proofs.FeedLaws.{read_bytes}
use Rattle.audit_program.proofs.restore.take_journal.Goals as goal

pub slice_bounds-read_journal-end : goal.slice_bounds-read_journal-end
slice_bounds-read_journal-end c =
    let input = c.read_some-input in
    omega (arith, (read_bytes input.ensures c.in-Bytes.is).1, input.auto.buffer)

pub slice_bounds-read_journal-end-in-loop : goal.slice_bounds-read_journal-end-in-loop
slice_bounds-read_journal-end-in-loop c =
    let input = c.read_some-input in
    sym (length-take-le _ input.new.buffer (omega (arith, (read_bytes input.ensures c.in-Bytes.is).1, input.auto.buffer)))
