use Rattle.protobuf.proofs.VarintLaws.{Summed}
use Rattle.protobuf.proofs.varint.read_varint.Given as goal

abbrev pub invariant-loop : goal.invariant-loop
invariant-loop l = Summed l.bytes l.at l.counter l.next l.value l.scale
