use Prim.Native.Nat.{◌+◌, ◌-◌, ◌*◌, ◌≤◌, ◌<◌}
use mathlib.Core.Bool.{true}
use mathlib.Core.Path.{◌≡◌, sym, ap, ◌∙◌}
use native.Mathlib.Omega.{arith}
use borrow.Author.Rules.{rules}
use lib.ListN.{length}
use Rattle.registry.specs.Registry.{line_count, slot_count, registry_size}
use Rattle.registry.specs.WellFormed.{well_formed_registry}
use Rattle.registry.proofs.WellFormedLaws.{good_of}
use Rattle.billing.specs.Outcome.{key_line_most}
use Rattle.billing.proofs.PlacedLaws.{Leaves, leaves_all, leaves_rest, leaves_none}
use Rattle.billing.proofs.LineLaws.{slots_from, keys_from, keys_end, keys_none, keys_next}
use Rattle.billing.proofs.lines.write_keys.Given as goal

abbrev pub invariant-loop-i : goal.invariant-loop-i
invariant-loop-i l = Leaves (keys_from l.registry 0) l.initial.out l.at (keys_from l.registry l.i) l.out l.end × (l.i ≤ line_count) × (l.end ≤ l.at + slot_count * key_line_most * l.i)

abbrev pub decreases-loop-i : goal.decreases-loop-i
decreases-loop-i l = line_count - l.i
