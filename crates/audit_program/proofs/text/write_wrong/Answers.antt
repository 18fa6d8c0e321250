use Rattle.billing.specs.Ascii.{ascii}
use Rattle.billing.proofs.PlacedLaws.{placed_on, placed_front}
use Rattle.audit_program.specs.Lines.{wrong_line}
use Rattle.audit_program.proofs.text.write_wrong.Goals as goal

pub returns : goal.returns
unfolding wrong_line ascii
returns c =
    placed_front (placed_on c.write_word-named.ensures (placed_on c.write_number-numbered.ensures.0 (placed_on c.write_number-placed.ensures.0 c.write_word.ensures)))
