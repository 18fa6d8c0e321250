use Rattle.billing.specs.Ascii.{ascii}
use Rattle.billing.specs.Bill.{text_line, no_file}
use Rattle.billing.proofs.PlacedLaws.{placed_front}
use borrow.Author.Rules.{rules}
use Rattle.starting.proofs.text.write_no_file.Goals as goal

pub returns : goal.returns
unfolding no_file text_line ascii
returns c = placed_front c.write_word.ensures
