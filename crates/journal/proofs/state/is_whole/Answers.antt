use mathlib.Core.Path.{◌∙◌}
use borrow.Author.Tests.{lt-leb}
use Rattle.journal.proofs.StepLaws.{begun_short, begun_told}
use Rattle.journal.proofs.state.is_whole.Goals as goal

pub returns-then-count-ge3 : goal.returns-then-count-ge3
returns-then-count-ge3 c =
    begun_told c.args.count c.args.front.now _ c.if-count-ge3.true (c.from.ensures ∙ c.read_u16.ensures)

pub returns-else-count-ge3 : goal.returns-else-count-ge3
returns-else-count-ge3 c =
    lt-leb 3 c.args.count c.if-count-ge3.false ∙ begun_short c.args.count c.args.front.now c.if-count-ge3.false
