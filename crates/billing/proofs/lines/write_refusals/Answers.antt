use Prim.Native.Nat.{◌+◌, ◌-◌, ◌*◌, ◌≤◌}
use native.Mathlib.Omega.{arith}
use borrow.Author.Rules.{rules}
use Rattle.judgement.specs.Status.{refused_count}
use Rattle.billing.specs.Outcome.{refused_line_most}
use Rattle.billing.proofs.PlacedLaws.{Leaves, leaves_all, leaves_rest, leaves_none}
use Rattle.billing.proofs.LineLaws.{refused_from, refused_next, refused_end}
use Rattle.billing.proofs.lines.write_refusals.Goals as goal

pub loop-i-init : goal.loop-i-init
loop-i-init c = let a = c.args in (leaves_all _ a.out.now a.at (omega arith), omega arith, omega arith)

pub write_refused-end-requires : goal.write_refused-end-requires
write_refused-end-requires c = omega (arith, c.loop-i.invariant.0.long)

pub loop-i-preserved : goal.loop-i-preserved
loop-i-preserved c =
    let w = c in
    let r = w in
    let l = r in
    let refused = l.args.refused.now in
    let next = refused_next refused l.loop-i.i (omega arith) (omega arith) in
    let line = rw r.refused_number.ensures at w.write_refused-end.ensures.0 in
    (leaves_rest (rw next at l.loop-i.invariant.0) line, omega arith, omega (arith, w.write_refused-end.ensures.1))

pub returns : goal.returns
returns c =
    let l = c in
    let refused = l.args.refused.now in
    (leaves_none (rw (refused_end refused l.loop-i.i (omega arith)) at l.loop-i.invariant.0), omega arith)
