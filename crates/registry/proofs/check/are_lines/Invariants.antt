use Rattle.wire.specs.Lists.{all, blocks}
use Rattle.registry.specs.Registry.{line_size}
use Rattle.registry.specs.code.Check.{well_formed_line}
use mathlib.Core.Path.{◌≡◌}
use lib.ListN.{drop}
use Rattle.registry.proofs.check.are_lines.Given as goal

abbrev pub invariant-loop-i : goal.invariant-loop-i
invariant-loop-i l = all well_formed_line (blocks l.n line_size l.registry) ≡ all well_formed_line (drop l.i (blocks l.n line_size l.registry))
