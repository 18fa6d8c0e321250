use Rattle.std.proofs.Common.{◌≡◌, sym, ◌∙◌, List, ℕ, [], length, arith}
use borrow.Author.Tests.{eqb-true}
use Rattle.shipped.specs.Shipped.{list_of}
use Rattle.shipped.proofs.ListLaws.{list_good, pairs_end}
use Rattle.shipped.proofs.check.is_well_formed.Goals as goal

pub returns-then-is_empty : goal.returns-then-is_empty
unfolding list_of
returns-then-is_empty c =
    let list : List ℕ = c.args.list.now in
    let empty : length list ≡ 0 = eqb-true _ 0 (sym c.is_empty.ensures ∙ c.if-is_empty.true) in
    c.if-is_empty.true ∙ sym (list_good list [] (pairs_end [] list (omega arith)))
