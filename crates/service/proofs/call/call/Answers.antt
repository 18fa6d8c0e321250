use mathlib.Core.Path.{ap, ◌∙◌}
use Rattle.std.proofs.Common.{Ok}
use Rattle.counters.specs.declared.Counters.{Counters}
use Rattle.service.specs.Contract.{lent_memory, outcome_in}
use Rattle.service.specs.code.Called.{answer_of, ran_by}
use Rattle.service.proofs.call.call.Goals as goal

pub returns-in-Ok : goal.returns-in-Ok
returns-in-Ok c =
    let new = c.handle.new in
    ap (λ (x : Counters). outcome_in (ran_by (answer_of (Ok c.in-Ok.h)) (lent_memory new.connection new.registry x) new.response new.journal)) c.count.ensures
    ∙ c.in-Ok.ensures.0
