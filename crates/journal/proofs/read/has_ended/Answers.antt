use borrow.Author.Tests.{ne_eqb}
use Rattle.journal.proofs.StepLaws.{ended_fault, ended_most}
use Rattle.journal.proofs.read.has_ended.Goals as goal

pub returns-then-p-ne0 : goal.returns-then-p-ne0
returns-then-p-ne0 c =
    let p = c.args.p in
    rw (ne_eqb p.fault 0 c.if-p-ne0.true) (ended_fault p.fault p.kept p.count c.if-p-ne0.true)

pub returns-else-p-ne0 : goal.returns-else-p-ne0
returns-else-p-ne0 c =
    let p = c.args.p in
    ended_most p.fault p.kept p.count c.if-p-ne0.false
