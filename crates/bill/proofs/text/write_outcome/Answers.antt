use Rattle.std.proofs.Common.{sym, ◌∙◌, ap, not}
use Rattle.bill.proofs.PrintLaws.{has_bill, wrote_line, wrote_bill}
use Rattle.bill.proofs.text.write_outcome.Goals as goal

pub returns-then-is_err : goal.returns-then-is_err
returns-then-is_err c =
    wrote_line _ _ _ c.with_file-outcome.ensures (c.is_err.ensures.negation ∙ ap not c.if-is_err.true) c.write_line.ensures

pub write_memory-requires : goal.write_memory-requires
write_memory-requires c =
    let (connected, registered) = has_bill _ _ _ c.with_file-outcome.ensures (c.is_err.ensures.negation ∙ ap not c.if-is_err.false) c.requires.1 in
    (c.requires.0, connected, registered)

pub returns : goal.returns
returns c = wrote_bill _ _ _ c.with_file-outcome.ensures (c.is_err.ensures.negation ∙ ap not c.if-is_err.false) c.write_memory.ensures
