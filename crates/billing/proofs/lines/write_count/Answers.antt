use borrow.Author.Rules.{rules}
use Rattle.billing.specs.Bill.{text_line}
use Rattle.billing.proofs.PlacedLaws.{placed_on}
use Rattle.billing.proofs.lines.write_count.Goals as goal

pub returns : goal.returns
unfolding text_line
returns c =
    let end = c in
    let number = end in
    let word = number in
    (placed_on word.write_word-named.ensures (placed_on number.write_number-counted.ensures.0 end.write_word.ensures), search rules)
