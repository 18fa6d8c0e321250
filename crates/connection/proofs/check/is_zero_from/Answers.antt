use mathlib.Core.Path.{ap, ◌∙◌}
use Rattle.wire.specs.Lists.{all, is_zero}
use Rattle.wire.proofs.BufferLaws.{lent}
use Rattle.connection.proofs.check.is_zero_from.Goals as goal

pub returns : goal.returns
returns c =
    let a = c.args in
    c.all_zero_long.ensures ∙ ap (all is_zero) (lent a.from a.memory.now)
