use Rattle.std.proofs.Common.{◌≡◌, ◌+◌, drop}
use Rattle.audit.specs.Audit.{alike}
use Rattle.audit.proofs.compare.count_alike.Given as goal

abbrev pub invariant-loop-i : goal.invariant-loop-i
invariant-loop-i l = alike l.a l.b ≡ alike (drop l.i l.a) (drop l.i l.b) + l.i
