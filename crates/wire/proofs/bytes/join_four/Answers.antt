use Rattle.std.proofs.Common.{sym, ◌∙◌, arith}
use Rattle.wire.proofs.BitLaws.{or_four, or_four_end}
use Rattle.wire.proofs.bytes.join_four.Goals as goal

pub loop-i-preserved : goal.loop-i-preserved
loop-i-preserved c =
    let x = c.args in
    or_four x.a.now x.b.now x.c.now x.d.now c.loop-i.joined c.loop-i.i (omega arith) (omega arith) (omega arith) (omega arith) ∙ c.loop-i.invariant

pub returns : goal.returns
returns c =
    let x = c.args in
    sym (or_four_end x.a.now x.b.now x.c.now x.d.now c.loop-i.joined c.loop-i.i (omega arith) (omega arith) (omega arith) (omega arith)) ∙ c.loop-i.invariant
