use Prim.Native.Nat.{◌-◌}
use lib.ListN.{length}
use Rattle.client_responses.specs.State.{asked_in, bytes_in}
use Rattle.client_responses.proofs.ReadLaws.{Part}
use Rattle.client_responses.proofs.read.take_on.Given as goal

abbrev pub invariant-loop-taken : goal.invariant-loop-taken
invariant-loop-taken l = Part (asked_in l.initial.memory) (bytes_in l.initial.memory) l.chunk l.memory l.taken

abbrev pub decreases-loop-taken : goal.decreases-loop-taken
decreases-loop-taken l = length l.chunk - l.taken
