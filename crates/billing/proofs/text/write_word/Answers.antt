use native.Mathlib.Omega.{arith}
use borrow.Author.Rules.{rules}
use Rattle.billing.proofs.PlacedLaws.{placed_part}
use Rattle.billing.proofs.text.write_word.Goals as goal

pub returns : goal.returns
returns c = placed_part _ _ _ _ _ (omega arith) c.copy_into-copied.ensures
