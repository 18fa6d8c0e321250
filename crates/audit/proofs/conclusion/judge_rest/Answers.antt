use Rattle.std.proofs.Common.{arith}
use Rattle.audit.specs.Step.{verdict_at}
use Rattle.audit.proofs.StepLaws.{good, within, verdict_inside, verdict_behind, verdict_accepted}
use Rattle.audit.proofs.conclusion.judge_rest.Goals as goal

pub returns-then-p : goal.returns-then-p
unfolding verdict_at
returns-then-p c = rw c.if-p.true

pub slice_bounds-left-count : goal.slice_bounds-left-count
slice_bounds-left-count c = (good c.args.p c.args.pending.now c.requires).placed

pub slice_bounds-left-start : goal.slice_bounds-left-start
slice_bounds-left-start c = (good c.args.p c.args.pending.now c.requires).placed

pub slice_bounds-left-end : goal.slice_bounds-left-end
slice_bounds-left-end c = (good c.args.p c.args.pending.now c.requires).held

pub overflow_add-result : goal.overflow_add-result
overflow_add-result c =
    let a = c.args in
    omega (arith, within a.p a.pending.now (good a.p a.pending.now c.requires) a.rest.now c.count_alike-n.result c.count_alike-n.ensures)

pub overflow_add-result-then-n-rest : goal.overflow_add-result-then-n-rest
overflow_add-result-then-n-rest c = omega (arith, (good c.args.p c.args.pending.now c.requires).numbered)

pub returns-then-n-left : goal.returns-then-n-left
returns-then-n-left c =
    let a = c.args in
    verdict_inside a.p a.pending.now a.rest.now c.count_alike-n.result c.if-p.false c.count_alike-n.ensures c.if-n-left.true

pub returns-then-n-rest : goal.returns-then-n-rest
returns-then-n-rest c =
    let a = c.args in
    verdict_behind a.p a.pending.now a.rest.now c.count_alike-n.result c.if-p.false c.count_alike-n.ensures c.if-n-left.false c.if-n-rest.true

pub returns : goal.returns
returns c =
    let a = c.args in
    verdict_accepted a.p a.pending.now a.rest.now c.count_alike-n.result c.if-p.false c.count_alike-n.ensures c.if-n-left.false c.if-n-rest.false
