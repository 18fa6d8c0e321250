use Rattle.std.proofs.Common.{sym, ◌∙◌}
use native.Mathlib.Omega.{arith}
use Rattle.messages.proofs.PackedLaws.{listing_none, listing_on, listing_full, listing_out}
use Rattle.messages.proofs.read.read_packed.Goals as goal

pub loop-count-init : goal.loop-count-init
loop-count-init c = listing_none _ _

pub returns-in_default : goal.returns-in_default
returns-in_default c = listing_out _ c.loop-count.invariant (sym c.read_varint.ensures ∙ c.in_default.is)

pub loop-count-preserved : goal.loop-count-preserved
loop-count-preserved c =
    listing_on _ c.loop-count.invariant c.in-Some.value c.in-Some.next c.loop-count-test.true (sym c.read_varint.ensures ∙ c.in-Some.is)

pub returns : goal.returns
returns c = listing_full _ c.loop-count.invariant (omega arith)
