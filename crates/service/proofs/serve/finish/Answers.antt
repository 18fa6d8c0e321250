use Rattle.service.proofs.serve.finish.Goals as goal

pub returns : goal.returns
returns c = rw c.event_of.ensures
