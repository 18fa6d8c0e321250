use Rattle.std.proofs.Common.{◌≡◌, ◌&&◌, eqb}
use Rattle.wire.proofs.BitLaws.{rests_zero}
use Rattle.wire.proofs.bytes.join_four.Given as goal

abbrev pub invariant-loop-i : goal.invariant-loop-i
invariant-loop-i l = eqb l.joined 0 && rests_zero l.a l.b l.c l.d l.i ≡ rests_zero l.a l.b l.c l.d 0
