use Rattle.std.proofs.Common.{sym}
use native.Mathlib.Omega.{arith}
use Rattle.messages.proofs.PlacedLaws.{reads_none, reads_on, reads_ahead, reads_broken, reads_end}
use Rattle.messages.proofs.read.read_packed_body.Goals as goal

pub loop-at-init : goal.loop-at-init
loop-at-init c = reads_none _

pub loop-at-smaller : goal.loop-at-smaller
loop-at-smaller c = omega (arith, reads_ahead c.args.body.now c.loop-at.at c.in_ok-found.found c.in_ok-found.next c.in_ok-found.ensures.1)

pub loop-at-preserved : goal.loop-at-preserved
loop-at-preserved c =
    let v = c.in_ok-found in
    rw c.unwrap_or-span.ensures (reads_on c.args.body.now c.loop-at.invariant v.found v.next c.loop-at-test.true v.ensures.1 v.ensures.0)

pub returns-in_err-found : goal.returns-in_err-found
returns-in_err-found c =
    rw c.from_residual.ensures (sym (reads_broken c.args.body.now c.loop-at.invariant c.loop-at-test.true c.in_err-found.ensures.0), tt)

pub returns : goal.returns
returns c = (sym (reads_end c.args.body.now c.loop-at.invariant c.loop-at-test.false), c.loop-at.invariant.within)
