use Prim.Native.Nat.{◌+◌, ◌-◌, ◌*◌, ◌≤◌}
use native.Mathlib.Omega.{arith}
use borrow.Author.Rules.{rules}
use Rattle.registry.specs.Registry.{slot_count}
use Rattle.billing.specs.Outcome.{key_line_most}
use Rattle.billing.proofs.PlacedLaws.{Leaves, leaves_all, leaves_rest, leaves_none}
use Rattle.billing.proofs.LineLaws.{slots_from, slot_line, slots_next, slots_end}
use Rattle.billing.proofs.lines.write_line_keys.Given as goal

abbrev pub invariant-loop-k : goal.invariant-loop-k
invariant-loop-k l = Leaves (slots_from l.registry l.line 0) l.initial.out l.at (slots_from l.registry l.line l.k) l.out l.end × (l.k ≤ slot_count) × (l.end ≤ l.at + key_line_most * l.k)

abbrev pub decreases-loop-k : goal.decreases-loop-k
decreases-loop-k l = slot_count - l.k
