-- The depth left falls at each call. The loop's invariant: skipping on from here gives what skipping from the start does.
use Rattle.std.proofs.Common.{length, ◌-◌, ◌≡◌}
use Rattle.protobuf.specs.Group.{group_at}
use Rattle.protobuf.proofs.group.+skip_within.Given as goal

abbrev pub decreases-skip_within : goal.decreases-skip_within
decreases-skip_within l = l.depth

abbrev pub invariant-loop-p : goal.invariant-loop-p
invariant-loop-p l = group_at l.depth l.body l.number l.p ≡ group_at l.depth l.body l.number l.at

abbrev pub decreases-loop-p : goal.decreases-loop-p
decreases-loop-p l = length l.body - l.p
