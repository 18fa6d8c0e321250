use Rattle.std.proofs.Common.{◌∙◌}
use Rattle.billing.specs.Ascii.{ascii}
use Rattle.billing.proofs.PlacedLaws.{placed_on, placed_front}
use Rattle.audit_program.specs.Lines.{journal_line}
use Rattle.audit_program.proofs.text.write_refused.Goals as goal

pub returns : goal.returns
unfolding journal_line ascii
returns c =
    placed_front (placed_on c.write_word-named.ensures (placed_on (rw (c.from-2.ensures ∙ c.from.ensures) at c.write_decimal-numbered.ensures.0) c.write_word.ensures))
