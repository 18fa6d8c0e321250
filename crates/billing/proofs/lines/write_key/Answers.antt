use mathlib.Core.Path.{sym, ◌∙◌}
use native.Mathlib.Omega.{arith}
use borrow.Author.Rules.{rules}
use Rattle.registry.proofs.WellFormedLaws.{good_of}
use Rattle.billing.specs.Ascii.{ascii}
use Rattle.billing.specs.Bill.{text_line}
use Rattle.billing.proofs.PlacedLaws.{placed_none, placed_on}
use Rattle.billing.proofs.LineLaws.{slot_line_none, slot_line_some}
use Rattle.billing.proofs.lines.write_key.Goals as goal

pub is_free-requires : goal.is_free-requires
is_free-requires c = ((good_of c.args.registry.now c.requires.0).size, c.requires.1, c.requires.2)

pub returns-then-is_free : goal.returns-then-is_free
returns-then-is_free c =
    let a = c.args in
    let none = slot_line_none a.registry.now a.line a.slot.0 c.requires.2 (sym c.is_free.ensures ∙ c.if-is_free.true) in
    (rw none (placed_none a.out.now a.at (omega (arith, c.requires.3))), search rules)

pub returns : goal.returns
unfolding text_line ascii
returns c =
    let a = c.args in
    let some = slot_line_some a.registry.now a.line a.slot.0 c.requires.2 (sym c.is_free.ensures ∙ c.if-is_free.false) in
    let counted = rw c.key_uses-uses.ensures at c.write_number-counted.ensures.0 in
    let behind = placed_on c.write_number-numbered.ensures.0 (placed_on counted c.write_word.ensures) in
    (rw some (placed_on c.write_word-begun.ensures (placed_on c.write_number-lined.ensures.0 behind)), search rules)
