use mathlib.Core.Path.{◌≡◌}
use lib.ListN.{drop}
use Rattle.keys.specs.Names.{is_new}
use Rattle.roster.specs.code.Check.{names_at}
use Rattle.roster.proofs.check.Names.contains.Given as goal

abbrev pub invariant-loop-i : goal.invariant-loop-i
invariant-loop-i l = is_new l.name (names_at l.file l.self) ≡ is_new l.name (drop l.i (names_at l.file l.self))
