use Prim.Native.Nat.{◌+◌, ◌-◌, ◌*◌, ◌≤◌}
use native.Mathlib.Omega.{arith}
use borrow.Author.Rules.{rules}
use Rattle.judgement.specs.Status.{refused_count}
use Rattle.billing.specs.Outcome.{refused_line_most}
use Rattle.billing.proofs.PlacedLaws.{Leaves, leaves_all, leaves_rest, leaves_none}
use Rattle.billing.proofs.LineLaws.{refused_from, refused_next, refused_end}
use Rattle.billing.proofs.lines.write_refusals.Given as goal

abbrev pub invariant-loop-i : goal.invariant-loop-i
invariant-loop-i l = Leaves (refused_from l.refused 0) l.initial.out l.at (refused_from l.refused l.i) l.out l.end × (l.i ≤ refused_count) × (l.end ≤ l.at + refused_line_most * l.i)

abbrev pub decreases-loop-i : goal.decreases-loop-i
decreases-loop-i l = refused_count - l.i
