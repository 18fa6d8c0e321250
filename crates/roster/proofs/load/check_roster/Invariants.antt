use Prim.Native.Nat.{◌-◌}
use mathlib.Core.Path.{◌≡◌}
use lib.ListN.{length}
use Rattle.roster.specs.Roster.{roster_of}
use Rattle.roster.specs.code.Check.{names_at, Within}
use Rattle.roster.proofs.LoadLaws.{roster_from}
use Rattle.roster.proofs.load.check_roster.Given as goal

abbrev pub invariant-loop-at : goal.invariant-loop-at
invariant-loop-at l = Within l.file l.names × (roster_from l.file l.at (names_at l.file l.names) ≡ roster_of l.file)

abbrev pub decreases-loop-at : goal.decreases-loop-at
decreases-loop-at l = length l.file - l.at
