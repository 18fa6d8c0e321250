use Rattle.std.proofs.Common.{refl}
use native.Mathlib.Omega.{arith}
use mathlib.Core.List.{[], ◌∷◌}
use Rattle.messages.specs.Message.{bytes}
use Rattle.messages.proofs.FoursLaws.{fours_read, fours_partial, fours_broken}
use Rattle.messages.proofs.PlacedLaws.{values_in}
use Rattle.messages.proofs.read.read_fours_body.Goals as goal

pub returns-in_err-m : goal.returns-in_err-m
returns-in_err-m c =
    rw c.from_residual.ensures (fours_broken c.args.body.now c.read_tagged.result (c.read_tagged.ensures.0 (bytes ∷ []) refl (omega arith) tt) c.in_err-m.ensures.value, tt)

pub returns-then-m-ne0 : goal.returns-then-m-ne0
returns-then-m-ne0 c =
    let v = c.in_ok-m in
    let within = values_in _ _ v.m c.read_tagged.ensures.1 v.ensures.value in
    (fours_partial c.args.body.now c.read_tagged.result (c.read_tagged.ensures.0 (bytes ∷ []) refl (omega arith) tt) v.m v.ensures.value within.in1 c.if-m-ne0.true, tt)

pub returns : goal.returns
returns c =
    let v = c.in_ok-m in
    let within = values_in _ _ v.m c.read_tagged.ensures.1 v.ensures.value in
    rw c.span_of.ensures
    (fours_read c.args.body.now c.read_tagged.result (c.read_tagged.ensures.0 (bytes ∷ []) refl (omega arith) tt) v.m v.ensures.value within.in1 c.if-m-ne0.false, within.in1)
