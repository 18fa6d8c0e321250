use Rattle.billing.specs.Ascii.{ascii}
use Rattle.billing.specs.Bill.{text_line, refused_list}
use Rattle.billing.proofs.PlacedLaws.{placed_front}
use borrow.Author.Rules.{rules}
use Rattle.starting.proofs.text.write_list_refused.Goals as goal

pub returns : goal.returns
unfolding refused_list text_line ascii
returns c = placed_front c.write_word.ensures
