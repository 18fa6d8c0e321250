use Rattle.journal.proofs.StepLaws.{front_past, front_set}
use Rattle.journal.proofs.read.keep_byte.Goals as goal

pub returns-then-count : goal.returns-then-count
returns-then-count c =
    let s = c in
    front_past s.args.front.now s.args.count s.args.byte c.if-count.true

pub returns : goal.returns
returns c =
    let s = c in
    front_set s.args.front.now s.args.count s.args.byte c.if-count.false
