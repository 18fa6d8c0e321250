use native.Mathlib.Omega.{arith}
use borrow.Author.Rules.{rules}
use Rattle.billing.specs.Ascii.{ascii}
use Rattle.billing.specs.Bill.{text_line}
use Rattle.billing.proofs.PlacedLaws.{placed_on}
use Rattle.billing.proofs.lines.write_application.Goals as goal

pub returns : goal.returns
unfolding text_line ascii
returns c =
    let end = c in
    let served = end in
    let name = served in
    let space = name in
    let number = space in
    let word = number in
    let after-name = placed_on served.write_number-counted.ensures.0 end.write_word.ensures in
    let after-number = placed_on space.write_word-apart.ensures (placed_on name.write_word-named.ensures after-name) in (
      placed_on word.write_word-begun.ensures (placed_on number.write_number-numbered.ensures.0 after-number),
      omega (
        arith,
        word.write_word-begun.ensures.ends,
        number.write_number-numbered.ensures.1,
        space.write_word-apart.ensures.ends,
        name.write_word-named.ensures.ends,
        served.write_number-counted.ensures.1,
        end.write_word.ensures.ends,
        word.requires.0,
      ),
    )
