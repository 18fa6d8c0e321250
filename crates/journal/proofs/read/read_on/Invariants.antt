use mathlib.Core.Path.{◌≡◌}
use lib.ListN.{length}
use Rattle.registry.specs.Registry.{registry_size}
use Rattle.journal.specs.Compact.{front_most}
use Rattle.journal.specs.code.Done.{compact_with}
use Rattle.journal.proofs.ReadLaws.{Part}
use Rattle.journal.proofs.read.read_on.Given as goal

abbrev pub invariant-loop-i : goal.invariant-loop-i
invariant-loop-i l =
    Part (compact_with l.initial.registry l.initial.progress l.initial.front) l.chunk (compact_with l.registry l.progress l.front) l.i
    × (length l.front ≡ front_most) × (length l.registry ≡ registry_size)
