use Rattle.std.proofs.Common.{is_some, sym, ap, ◌∙◌}
use native.Mathlib.Omega.{arith}
use Rattle.messages.proofs.PackedLaws.{varint_next, packing_none, packing_on, packing_cut, packing_end}
use Rattle.messages.proofs.read.is_packed.Goals as goal

pub loop-at-init : goal.loop-at-init
loop-at-init c = packing_none _

pub loop-at-smaller : goal.loop-at-smaller
loop-at-smaller c = let ahead = varint_next c.args.bytes.now _ _ c.in-Some.next (sym c.read_varint.ensures ∙ c.in-Some.is) in omega arith

pub loop-at-preserved : goal.loop-at-preserved
loop-at-preserved c = packing_on c.args.bytes.now c.loop-at.invariant _ c.in-Some.next c.loop-at-test.true (sym c.read_varint.ensures ∙ c.in-Some.is)

pub returns-in_default : goal.returns-in_default
returns-in_default c =
    sym (ap is_some (packing_cut c.args.bytes.now c.loop-at.invariant c.loop-at-test.true (sym c.read_varint.ensures ∙ c.in_default.is)))

pub returns : goal.returns
returns c = sym (ap is_some (packing_end _ c.loop-at.invariant c.loop-at-test.false))
