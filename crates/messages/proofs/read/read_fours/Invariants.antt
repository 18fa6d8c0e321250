use Rattle.messages.proofs.FoursLaws.{Fours}
use Rattle.messages.proofs.read.read_fours.Given as goal

abbrev pub invariant-loop-i : goal.invariant-loop-i
invariant-loop-i l = Fours l.list l.initial.entries l.entries l.i
