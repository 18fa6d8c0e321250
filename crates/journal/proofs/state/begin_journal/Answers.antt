use mathlib.Core.Path.{ap, ◌∙◌}
use Rattle.journal.specs.Memory.{front_at, state_bytes}
use Rattle.journal.specs.declared.Progress.{Progress}
use Rattle.journal.specs.code.Done.{compact_with}
use mathlib.Core.List.{[]}
use lib.ListN.{drop}
use Rattle.journal.proofs.StateLaws.{begun_not, begun_fresh}
use Rattle.journal.proofs.state.begin_journal.Goals as goal

pub returns-then-state-ne-STATE_SIZE : goal.returns-then-state-ne-STATE_SIZE
returns-then-state-ne-STATE_SIZE c =
    begun_not c.args.state.now c.if-state-ne-STATE_SIZE.true

pub returns : goal.returns
returns c =
    begun_fresh c.args.state.now c.clear.new.dst _ c.if-state-ne-STATE_SIZE.false c.clear.ensures
    (c.store.ensures ∙ ap (λ (p : Progress). state_bytes (compact_with [] p (drop front_at c.clear.new.dst))) c.between.ensures)
