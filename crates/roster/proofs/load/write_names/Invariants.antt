use mathlib.Core.Path.{◌≡◌}
use lib.ListN.{length}
use Rattle.wire.specs.Lists.{over}
use Rattle.roster.specs.code.Check.{names_at}
use Rattle.roster.proofs.LoadLaws.{lines_of}
use Rattle.roster.proofs.load.write_names.Given as goal

abbrev pub invariant-loop-i : goal.invariant-loop-i
invariant-loop-i l = (l.registry ≡ over (lines_of (names_at l.file l.names) l.i) l.initial.registry) × (length l.registry ≡ length l.initial.registry)
