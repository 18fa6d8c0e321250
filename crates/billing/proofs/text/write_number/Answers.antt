use borrow.Author.Rules.{rules}
use Rattle.billing.proofs.PlacedLaws.{placed_on}
use Rattle.billing.proofs.text.write_number.Goals as goal

pub returns : goal.returns
returns c =
    let number = c in
    let space = number in
    (placed_on space.write_word-end.ensures number.write_decimal.ensures.0, search rules)
