use mathlib.Core.Path.{sym}
use native.Mathlib.Omega.{arith}
use Rattle.connection.proofs.CheckLaws.{other_size, other_kind}
use Rattle.connection.proofs.check.is_well_formed.Goals as goal

pub returns-then-memory-ne-CONNECTION_SIZE : goal.returns-then-memory-ne-CONNECTION_SIZE
returns-then-memory-ne-CONNECTION_SIZE c = sym (other_size _ c.if-memory-ne-CONNECTION_SIZE.true)

pub returns-in_default : goal.returns-in_default
returns-in_default c = sym (other_kind _ (λ e. omega arith) (λ e. omega arith) (λ e. omega arith))
