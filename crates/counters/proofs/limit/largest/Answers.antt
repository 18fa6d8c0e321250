use Prim.Native.Nat.{max}
use mathlib.Core.Path.{◌≡◌}
use native.Mathlib.Omega.{arith}
use lib.ListN.{get_or}
use borrow.Author.Rules.{rules}
use Rattle.counters.proofs.CountersLaws.{maximum_next, maximum_end}
use Rattle.counters.proofs.limit.largest.Goals as goal

pub loop-counter-preserved : goal.loop-counter-preserved
loop-counter-preserved c =
    let i = c.loop-counter.counter-index in
    let next = maximum_next c.args.counters.now i (omega arith) in
    let more : c.max-most.result ≡ max c.loop-counter.most (get_or c.args.counters.now i 0) = search rules in
    omega arith

pub returns : goal.returns
returns c = omega (arith, maximum_end c.args.counters.now c.loop-counter.counter-index c.loop-counter-test.false)
