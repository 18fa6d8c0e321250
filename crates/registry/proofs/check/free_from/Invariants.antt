use Rattle.std.proofs.Common.{◌≡◌, true, drop}
use Rattle.wire.specs.Lists.{all}
use Rattle.registry.specs.Registry.{slots_in}
use Rattle.registry.specs.code.Check.{is_free}
use Rattle.registry.proofs.check.free_from.Given as goal

abbrev pub invariant-loop-n : goal.invariant-loop-n
invariant-loop-n l = all is_free (drop l.n (slots_in l.line)) ≡ true
