use Rattle.std.proofs.Common.{◌≡◌, ◌++◌, length, take, drop}
use Rattle.rsa.proofs.encoding.write_whole.Given as goal

abbrev pub invariant-loop-i : goal.invariant-loop-i
invariant-loop-i l = (l.dst ≡ take l.i l.fn.src ++ drop l.i l.initial.dst) × (length l.dst ≡ length l.initial.dst)
