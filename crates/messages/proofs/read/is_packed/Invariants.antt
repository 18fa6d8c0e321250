use Prim.Native.Nat.{◌-◌}
use lib.ListN.{length}
use Rattle.messages.proofs.PackedLaws.{Packing}
use Rattle.messages.proofs.read.is_packed.Given as goal

abbrev pub invariant-loop-at : goal.invariant-loop-at
invariant-loop-at l = Packing l.bytes l.at

abbrev pub decreases-loop-at : goal.decreases-loop-at
decreases-loop-at l = length l.bytes - l.at
