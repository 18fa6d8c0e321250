use mathlib.Core.Path.{sym, ◌∙◌}
use Rattle.connection.proofs.CheckLaws.{closed_tests}
use Rattle.connection.proofs.check.closed_well_formed.Goals as goal

pub returns : goal.returns
returns c =
    c.is_zero_from.ensures ∙ sym (closed_tests _ c.requires.0 c.requires.1)
