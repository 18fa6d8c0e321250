use Prim.Native.Nat.{◌-◌}
use lib.ListN.{length}
use Rattle.connection.specs.code.Gather.{held_in}
use Rattle.connection.proofs.GatherLaws.{Part}
use Rattle.connection.proofs.gather.gather.Given as goal

abbrev pub invariant-loop-used : goal.invariant-loop-used
invariant-loop-used l = Part (held_in l.held l.initial.memory) l.chunk l.memory l.used

abbrev pub decreases-loop-used : goal.decreases-loop-used
decreases-loop-used l = length l.chunk - l.used
