use mathlib.Core.Path.{sym, ◌∙◌}
use native.Mathlib.Omega.{arith}
use Rattle.fields.proofs.FieldsLaws.{with_value_in}
use Rattle.messages.proofs.TaggedPlacedLaws.{begins, ends, breaks, goes_on, falls}
use Rattle.messages.proofs.tagged.read_tagged.Goals as goal

pub loop-at-init : goal.loop-at-init
loop-at-init c = rw c.all_absent-m.ensures (λ kinds is few no-lists. begins kinds few no-lists _ is _, record { in1 = omega arith; in2 = omega arith; in3 = omega arith; in4 = omega arith; in5 = omega arith })

pub returns-then-number-last : goal.returns-then-number-last
returns-then-number-last c =
    let l = c.loop-at in
    let v = c.in-Some in
    (λ kinds is few no-lists. sym (falls kinds few no-lists _ is _ l.at l.last l.m c.loop-at-test.true _ _ _ v.ensures.1.0 v.ensures.0 c.if-number-last.true) ∙ l.invariant.0 kinds is few no-lists, omega arith)

pub loop-at-smaller : goal.loop-at-smaller
loop-at-smaller c = omega (arith, c.in-Some.ensures.1)

pub loop-at-preserved : goal.loop-at-preserved
loop-at-preserved c =
    let l = c.loop-at in
    let v = c.in-Some in
    rw c.with_value-m.ensures (
      λ kinds is few no-lists. sym (goes_on kinds few no-lists _ is _ l.at l.last l.m c.loop-at-test.true _ _ _ v.ensures.1.0 v.ensures.0 c.if-number-last.false) ∙ l.invariant.0 kinds is few no-lists,
      with_value_in _ l.m _ _ l.invariant.1 v.ensures.1.1,
    )

pub returns-in_default : goal.returns-in_default
returns-in_default c =
    let l = c.loop-at in
    (λ kinds is few no-lists. sym (breaks kinds few no-lists _ is _ l.at l.last l.m c.loop-at-test.true c.in_default.ensures.0) ∙ l.invariant.0 kinds is few no-lists, omega arith)

pub returns : goal.returns
returns c =
    let l = c.loop-at in
    (λ kinds is few no-lists. sym (ends kinds few no-lists _ is _ l.at l.last l.m c.loop-at-test.false) ∙ l.invariant.0 kinds is few no-lists, l.invariant.1)
