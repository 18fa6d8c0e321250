use Rattle.std.proofs.Common.{arith}
use Rattle.audit.proofs.AlikeLaws.{all_alike, no_more, differs, one_more}
use Rattle.audit.proofs.compare.count_alike.Goals as goal

pub returns-then-b-i : goal.returns-then-b-i
returns-then-b-i c = omega (arith, c.loop-i.invariant, no_more c.args.a.now c.args.b.now c.loop-i.i c.if-b-i.true)

pub returns-then-byte-b : goal.returns-then-byte-b
returns-then-byte-b c =
    omega (arith, c.loop-i.invariant, differs c.args.a.now c.args.b.now c.loop-i.i c.loop-i-test.true c.if-b-i.false c.if-byte-b.true)

pub loop-i-preserved : goal.loop-i-preserved
loop-i-preserved c =
    omega (arith, c.loop-i.invariant, one_more c.args.a.now c.args.b.now c.loop-i.i c.loop-i-test.true c.if-b-i.false c.if-byte-b.false)

pub returns : goal.returns
returns c = omega (arith, c.loop-i.invariant, all_alike c.args.a.now c.args.b.now c.loop-i.i c.loop-i-test.false)
