use native.Mathlib.Omega.{arith}
use borrow.Author.Rules.{rules}
use Rattle.billing.specs.Ascii.{ascii}
use Rattle.billing.specs.Bill.{text_line}
use Rattle.billing.proofs.PlacedLaws.{placed_none, placed_on}
use Rattle.billing.proofs.LineLaws.{refused_line_none, refused_line_some}
use Rattle.billing.proofs.lines.write_refused.Goals as goal

pub returns-then-n-eq0 : goal.returns-then-n-eq0
returns-then-n-eq0 c =
    let a = c.args in
    let none = refused_line_none a.number a.n c.if-n-eq0.true in
    (rw none (placed_none a.out.now a.at (omega arith)), search rules)

pub returns : goal.returns
unfolding text_line ascii
returns c =
    let a = c.args in
    let some = refused_line_some a.number a.n c.if-n-eq0.false in
    let behind = placed_on c.write_number-numbered.ensures.0 (placed_on c.write_number-counted.ensures.0 c.write_word.ensures) in
    (rw some (placed_on c.write_word-begun.ensures behind), search rules)
