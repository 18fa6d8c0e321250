use Prim.Native.Nat.{ℕ, ◌<◌}
use mathlib.Core.Path.{ap}
use native.Mathlib.Omega.{arith}
use borrow.Author.Rules.{rules}
use lib.ListN.{length, length-replicate}
use Rattle.billing.specs.Outcome.{digits_most}
use Rattle.billing.proofs.DecimalLaws.{Found, found_none, found_more, found_all, found_short}
use Rattle.billing.proofs.text.write_decimal.Goals as goal

pub loop-rest-init : goal.loop-rest-init
loop-rest-init c = found_none c.args.n _ (omega arith) (length-replicate {A = ℕ} digits_most 0)

pub loop-rest-preserved : goal.loop-rest-preserved
loop-rest-preserved c = found_more c.loop-rest.invariant (omega arith)

pub slice_bounds-write_word-end : goal.slice_bounds-write_word-end
slice_bounds-write_word-end c = search (rules, c.loop-rest.invariant.long)

pub write_word-requires : goal.write_word-requires
write_word-requires c =
    let l = c in
    let small : l.loop-rest.rest < 10 = omega arith in
    omega (arith, ap length (found_all l.loop-rest.invariant small), found_short l.loop-rest.invariant small)

pub returns : goal.returns
returns c =
    let w = c in
    let l = w in
    let small : l.loop-rest.rest < 10 = omega arith in
    let placed = rw (found_all l.loop-rest.invariant small) at w.write_word.ensures in
    (placed, omega (arith, placed.ends, found_short l.loop-rest.invariant small))
