use mathlib.Core.Path.{◌∙◌}
use Rattle.billing.specs.Ascii.{ascii}
use Rattle.billing.specs.Bill.{text_line, refused_roster}
use Rattle.billing.proofs.PlacedLaws.{placed_on, placed_front}
use borrow.Author.Rules.{rules}
use Rattle.starting.proofs.text.write_refused.Goals as goal

pub returns : goal.returns
unfolding refused_roster text_line ascii
returns c =
    let last = c in
    let number = last in
    let fault = number in
    let word = fault in
    placed_front (placed_on word.write_word-named.ensures (placed_on (rw (fault.from-2.ensures ∙ fault.from.ensures) at number.write_decimal-numbered.ensures.0) last.write_word.ensures))
