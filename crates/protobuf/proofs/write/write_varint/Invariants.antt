use Rattle.protobuf.proofs.WrittenLaws.{Begun}
use Rattle.protobuf.proofs.write.write_varint.Given as goal

abbrev pub invariant-loop-rest : goal.invariant-loop-rest
invariant-loop-rest l = Begun l.n l.initial.out l.out l.rest l.k

abbrev pub decreases-loop-rest : goal.decreases-loop-rest
decreases-loop-rest l = l.rest
