use Rattle.messages.proofs.PackedLaws.{Listing}
use Rattle.messages.proofs.read.read_packed.Given as goal

abbrev pub invariant-loop-count : goal.invariant-loop-count
invariant-loop-count l = Listing l.packed l.initial.entries l.entries l.count l.at
