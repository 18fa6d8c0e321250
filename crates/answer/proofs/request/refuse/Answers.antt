use Rattle.answer.proofs.request.refuse.Goals as goal

pub returns : goal.returns
returns c = rw (← c.format_for.ensures) c.refuse_as.ensures
