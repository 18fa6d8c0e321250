use Rattle.judgement.proofs.StatusLaws.{refused_number, served_number}
use Rattle.counters.specs.code.Counted.{served_for, event_of}
use Rattle.counters.proofs.events.event_of.Goals as goal

pub returns-then-ne : goal.returns-then-ne
unfolding event_of
returns-then-ne c = rw (refused_number _ c.if-ne.ensures)

pub returns-in-None : goal.returns-in-None
unfolding event_of served_for
returns-in-None c = rw (served_number _ c.if-ne.ensures, c.in-None.is)

pub returns-in-Some : goal.returns-in-Some
unfolding event_of served_for
returns-in-Some c = rw (served_number _ c.if-ne.ensures, c.in-Some.is)
