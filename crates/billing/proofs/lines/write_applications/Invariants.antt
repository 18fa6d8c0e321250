use Prim.Native.Nat.{◌+◌, ◌-◌, ◌*◌, ◌≤◌, ◌<◌}
use mathlib.Core.Bool.{true}
use mathlib.Core.Path.{◌≡◌, sym, ap, ◌∙◌}
use native.Mathlib.Omega.{arith}
use borrow.Author.Rules.{rules}
use lib.ListN.{length}
use Rattle.registry.specs.Registry.{line_count, registry_size}
use Rattle.registry.specs.WellFormed.{well_formed_registry}
use Rattle.registry.proofs.WellFormedLaws.{good_of}
use Rattle.billing.specs.Outcome.{application_line_most}
use Rattle.billing.proofs.PlacedLaws.{Leaves, leaves_all, leaves_rest, leaves_none}
use Rattle.billing.proofs.LineLaws.{lines_from, name_at, lines_end, lines_none, lines_next, name_short}
use Rattle.billing.proofs.lines.write_applications.Given as goal

abbrev pub invariant-loop-i : goal.invariant-loop-i
invariant-loop-i l = Leaves (lines_from l.registry l.served 0) l.initial.out l.at (lines_from l.registry l.served l.i) l.out l.end × (l.i ≤ line_count) × (l.end ≤ l.at + application_line_most * l.i)

abbrev pub decreases-loop-i : goal.decreases-loop-i
decreases-loop-i l = line_count - l.i
