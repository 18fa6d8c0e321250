use Prim.Native.Nat.{ℕ, ◌<◌}
use mathlib.Core.Path.{ap}
use native.Mathlib.Omega.{arith}
use borrow.Author.Rules.{rules}
use lib.ListN.{length, length-replicate}
use Rattle.billing.specs.Outcome.{digits_most}
use Rattle.billing.proofs.DecimalLaws.{Found, found_none, found_more, found_all, found_short}
use Rattle.billing.proofs.text.write_decimal.Given as goal

abbrev pub invariant-loop-rest : goal.invariant-loop-rest
invariant-loop-rest l = Found l.n l.digits l.from l.rest

abbrev pub decreases-loop-rest : goal.decreases-loop-rest
decreases-loop-rest l = l.rest
