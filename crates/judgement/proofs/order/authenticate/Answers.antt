use mathlib.Core.Path.{sym, ◌∙◌}
use borrow.Author.Tests.{eq-eqb, ne_eqb, lt-ltb, le-ltb}
use native.Mathlib.Omega.{arith}
use lib.ListN.{length}
use Rattle.std.proofs.lemmas.Bool.Decides.{nat_tests}
use Rattle.judgement.specs.code.Decided.{named_or, auth_of}
use Rattle.judgement.proofs.order.authenticate.Goals as goal

pub returns-then-not-is_empty : goal.returns-then-not-is_empty
unfolding auth_of
returns-then-not-is_empty c = let h = c.if-not-is_empty.ensures in rw (eq-eqb _ _ c.if-auth_type-eq0.true, lt-ltb 0 (length c.args.auth.now) (grind (arith, nat_tests)))

pub returns-then-auth_type-eq0 : goal.returns-then-auth_type-eq0
unfolding auth_of
returns-then-auth_type-eq0 c = let h = c.if-not-is_empty.ensures in rw (eq-eqb _ _ c.if-auth_type-eq0.true, le-ltb 0 (length c.args.auth.now) (grind (arith, nat_tests)))

pub returns-in-Some : goal.returns-in-Some
unfolding auth_of named_or
returns-in-Some c = rw (ne_eqb _ _ c.if-auth_type-eq0.false, sym c.find_application.ensures ∙ c.in-Some.is)

pub returns-in-None : goal.returns-in-None
unfolding auth_of named_or
returns-in-None c = rw (ne_eqb _ _ c.if-auth_type-eq0.false, sym c.find_application.ensures ∙ c.in-None.is)
