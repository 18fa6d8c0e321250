use Rattle.billing.specs.Ascii.{ascii}
use Rattle.billing.proofs.PlacedLaws.{placed_front}
use Rattle.audit_program.specs.Lines.{verdict_line}
use Rattle.audit_program.proofs.text.write_accepted.Goals as goal

pub returns : goal.returns
unfolding verdict_line ascii
returns c = placed_front c.write_word.ensures
