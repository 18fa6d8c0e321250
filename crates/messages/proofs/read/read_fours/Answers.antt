use Rattle.std.proofs.Common.{◌≡◌, ◌∙◌}
use native.Mathlib.Omega.{arith}
use Rattle.messages.proofs.FoursLaws.{fours_none, fours_on, fours_end}
use Rattle.messages.proofs.read.read_fours.Goals as goal

pub loop-i-init : goal.loop-i-init
loop-i-init c = fours_none _ _

pub loop-i-preserved : goal.loop-i-preserved
loop-i-preserved c = fours_on c.loop-i.invariant c.read_u32.result (omega arith) c.read_u32.ensures

pub returns : goal.returns
returns c =
    let at : c.loop-i.i ≡ c.min-count.result = omega arith in
    rw (← at) (fours_end c.loop-i.invariant (at ∙ c.min-count.ensures))
