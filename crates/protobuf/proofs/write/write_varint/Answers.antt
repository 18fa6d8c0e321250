use Rattle.std.proofs.Common.{arith}
use Rattle.protobuf.proofs.WrittenLaws.{begun_more, begun_all}
use Rattle.protobuf.proofs.write.write_varint.Goals as goal

pub loop-rest-preserved : goal.loop-rest-preserved
loop-rest-preserved c = begun_more c.loop-rest.invariant (omega arith) (omega arith)

pub returns : goal.returns
returns c = begun_all c.loop-rest.invariant (omega arith) (omega arith)
