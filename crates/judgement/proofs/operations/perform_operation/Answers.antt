use native.Mathlib.Omega.{arith}
use Rattle.judgement.proofs.DecidedLaws.{readable, unreadable}
use Rattle.judgement.proofs.operations.perform_operation.Goals as goal

pub perform-requires : goal.perform-requires
perform-requires c = (c.requires.0, c.requires.1, c.requires.2, c.in-Ok.ensures.1)

pub overflow_cast-at : goal.overflow_cast-at
overflow_cast-at c = omega (arith, c.in-Err.ensures.1, c.requires.3)

pub returns-in-Ok : goal.returns-in-Ok
returns-in-Ok c = rw (readable _ _ _ _ _ _ c.in-Ok.ensures.0) c.perform.ensures

pub returns-in-Err : goal.returns-in-Err
returns-in-Err c = rw c.broken.ensures (unreadable _ _ _ _ _ _ c.in-Err.ensures.0)
