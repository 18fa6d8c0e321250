use Rattle.std.proofs.Common.{arith, sym}
use Rattle.protobuf.proofs.VarintLaws.{summed_more, tenth_large}
use Rattle.protobuf.proofs.varint.read_varint.Goals as goal

pub loop-preserved : goal.loop-preserved
loop-preserved c =
    let b = c.in_ok-get.ensures.lookup in
    rw c.from-b.ensures (summed_more c.loop.invariant c.in_ok-get.field-0.now b.3.0 b.1 c.loop-test.true (omega arith) (omega arith))

pub returns-then-b-gt1 : goal.returns-then-b-gt1
returns-then-b-gt1 c =
    let b = c.in_ok-get-2.ensures.lookup in
    sym (tenth_large c.loop.invariant c.in_ok-get-2.field-0.now b.3.0 b.1 c.loop-test.false (omega arith))
