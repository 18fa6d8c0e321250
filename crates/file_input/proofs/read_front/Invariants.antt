use Rattle.std.proofs.Common.{◌≡◌, ◌-◌, ◌≤◌, length}
use Rattle.file_input.proofs.read_front.Given as goal

abbrev pub invariant-loop-size : goal.invariant-loop-size
invariant-loop-size l = (l.size ≤ length l.front) × (length l.front ≡ length l.initial.front)

abbrev pub decreases-loop-size : goal.decreases-loop-size
decreases-loop-size l = length l.front - l.size
