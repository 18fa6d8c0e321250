use Rattle.std.proofs.Common.{arith}
use Rattle.audit.proofs.StepLaws.{good, within, compared_is}
use Rattle.audit.proofs.compare.compare.Goals as goal

pub slice_bounds-left-count : goal.slice_bounds-left-count
slice_bounds-left-count c = (good c.args.p c.args.pending.now c.requires).placed

pub slice_bounds-left-start : goal.slice_bounds-left-start
slice_bounds-left-start c = (good c.args.p c.args.pending.now c.requires).placed

pub slice_bounds-left-end : goal.slice_bounds-left-end
slice_bounds-left-end c = (good c.args.p c.args.pending.now c.requires).held

pub overflow_add-result : goal.overflow_add-result
overflow_add-result c =
    let a = c.args in
    omega (arith, within a.p a.pending.now (good a.p a.pending.now c.requires) a.captured.now c.count_alike-n.result c.count_alike-n.ensures)

pub returns : goal.returns
returns c =
    let a = c.args in
    compared_is a.p a.pending.now a.captured.now a.is_last c.count_alike-n.result c.is_found.result c.count_alike-n.ensures c.is_found.ensures
