use mathlib.Core.Path.{sym, ◌∙◌}
use Rattle.journal.proofs.StepLaws.{step_whole, step_more}
use Rattle.journal.proofs.read.take_on.Goals as goal

pub returns-then-is_whole : goal.returns-then-is_whole
returns-then-is_whole c =
    step_whole c.args.registry.now c.args.p c.args.front.now _ c.args.byte _ c.keep_byte.ensures c.take_byte.ensures (sym c.is_whole.ensures ∙ c.if-is_whole.true) _ c.end_record.ensures

pub returns : goal.returns
returns c =
    step_more c.args.registry.now c.args.p c.args.front.now _ c.args.byte _ c.keep_byte.ensures c.take_byte.ensures (sym c.is_whole.ensures ∙ c.if-is_whole.false)
