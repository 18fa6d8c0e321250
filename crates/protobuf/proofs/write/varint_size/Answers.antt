use Rattle.std.proofs.Common.{arith}
use Rattle.protobuf.proofs.WrittenLaws.{counted_more}
use Rattle.protobuf.proofs.write.varint_size.Goals as goal

pub loop-rest-preserved : goal.loop-rest-preserved
loop-rest-preserved c = counted_more c.loop-rest.invariant (omega arith)
