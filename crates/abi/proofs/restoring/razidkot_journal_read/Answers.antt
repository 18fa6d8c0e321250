use mathlib.Core.Path.{ap}
use Rattle.abi.specs.Restoring.{restored_with}
use borrow.Author.Rules.{rules}
use Rattle.abi.proofs.restoring.razidkot_journal_read.Goals as goal

pub returns : goal.returns
returns c = rw c.number_restored.ensures (ap restored_with c.read_journal.ensures)
