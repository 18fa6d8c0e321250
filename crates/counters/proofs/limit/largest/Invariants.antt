use Prim.Native.Nat.{max}
use mathlib.Core.Path.{◌≡◌}
use lib.ListN.{drop}
use Rattle.counters.specs.Counters.{maximum}
use Rattle.counters.proofs.limit.largest.Given as goal

abbrev pub invariant-loop-counter : goal.invariant-loop-counter
invariant-loop-counter l = max l.most (maximum (drop l.counter-index l.counters)) ≡ maximum l.counters
