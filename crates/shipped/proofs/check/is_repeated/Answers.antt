use Rattle.std.proofs.Common.{◌≡◌, sym, ap, ◌∙◌, ℕ, true, not, take, rules}
use borrow.Author.Tests.{not-false}
use lib.Seq.{length-take-le}
use Rattle.wire.specs.Lists.{all}
use Rattle.keys.specs.code.Marks.{differs_from}
use Rattle.shipped.specs.Shipped.{keys_in}
use Rattle.shipped.specs.code.Marks.{mark_of}
use Rattle.shipped.proofs.ListLaws.{finds_some}
use Rattle.shipped.proofs.MarkLaws.{unmarked_new}
use Rattle.shipped.proofs.check.is_repeated.Goals as goal

pub slice_bounds-find_listed-end : goal.slice_bounds-find_listed-end
slice_bounds-find_listed-end c = sym (length-take-le c.args.at c.args.list.now c.requires.0)

pub returns-then-is_among : goal.returns-then-is_among
returns-then-is_among c =
    let found = c.is_some.ensures ∙ finds_some (take c.args.at c.args.list.now) c.args.name.now c.find_listed.result c.find_listed.ensures in
    search rules

pub returns-else-is_among : goal.returns-else-is_among
returns-else-is_among c =
    let none : all (differs_from (mark_of c.args.name.now)) c.args.marks.now ≡ true =
    ap (λ (m : ℕ). all (differs_from m) c.args.marks.now) (sym c.requires.3)
    ∙ not-false (all (differs_from c.args.mark) c.args.marks.now) (sym c.is_among.ensures ∙ c.if-is_among.false) in
    c.if-is_among.false ∙ sym (ap not (unmarked_new (keys_in (take c.args.at c.args.list.now)) c.args.marks.now c.requires.2 c.args.name.now none))
