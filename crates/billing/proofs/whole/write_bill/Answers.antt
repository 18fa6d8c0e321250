use mathlib.Core.Path.{sym, ◌∙◌}
use native.Mathlib.Omega.{arith}
use borrow.Author.Tests.{lt-ltb, le-ltb, not-false}
use borrow.Author.Rules.{rules}
use Rattle.wire.specs.Choice.{first_of}
use Rattle.billing.specs.Outcome.{refusal_tests, outcome_of, bill_outcome}
use Rattle.billing.proofs.whole.write_bill.Goals as goal

pub returns-then-out-lt-BILL_MOST : goal.returns-then-out-lt-BILL_MOST
unfolding bill_outcome outcome_of first_of refusal_tests
returns-then-out-lt-BILL_MOST c = rw (lt-ltb _ _ c.if-out-lt-BILL_MOST.true)

pub returns-then-not-is_well_formed : goal.returns-then-not-is_well_formed
unfolding bill_outcome outcome_of first_of refusal_tests
returns-then-not-is_well_formed c = rw (le-ltb _ _ c.if-out-lt-BILL_MOST.false, ← c.is_well_formed.ensures, c.if-not-is_well_formed.true)

pub returns-then-not-is_well_formed-2 : goal.returns-then-not-is_well_formed-2
unfolding bill_outcome outcome_of first_of refusal_tests
returns-then-not-is_well_formed-2 c =
    rw (le-ltb _ _ c.if-out-lt-BILL_MOST.false, ← c.is_well_formed.ensures, c.if-not-is_well_formed.false, ← c.is_well_formed-2.ensures, c.if-not-is_well_formed-2.true)

pub write_lines-requires : goal.write_lines-requires
write_lines-requires c = (
  sym c.is_well_formed.ensures ∙ c.if-not-is_well_formed.false,
  sym c.is_well_formed-2.ensures ∙ c.if-not-is_well_formed-2.false,
  omega arith,
)

pub returns : goal.returns
unfolding bill_outcome outcome_of first_of refusal_tests
returns c =
    rw (
      le-ltb _ _ c.if-out-lt-BILL_MOST.false,
      ← c.is_well_formed.ensures,
      c.if-not-is_well_formed.false,
      ← c.is_well_formed-2.ensures,
      c.if-not-is_well_formed-2.false,
      c.write_lines.ensures.0.count,
      c.write_lines.ensures.0.bytes,
    )
