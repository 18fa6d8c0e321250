use Rattle.std.proofs.Common.{sym, ap, ◌∙◌, ℕ, List, arith}
use mathlib.Core.Bool.{and-true}
use borrow.Author.Tests.{le-leb, lt-leb}
use Rattle.wire.specs.Lists.{all, is_zero}
use Rattle.keys.specs.Key.{legal_bits}
use Rattle.keys.specs.Names.{legal_name, key_name_most}
use Rattle.keys.proofs.NameLaws.{legal_short}
use Rattle.registry.proofs.SlotLaws.{free_slot, key_slot, key_fails, behind_lent, data_tested, data_short, data_lent}
use Rattle.registry.proofs.slots.is_slot.Goals as goal

pub returns-then-s-eq0 : goal.returns-then-s-eq0
returns-then-s-eq0 c = c.all_zero.ensures ∙ sym (free_slot c.args.s.now c.if-s-eq0.true)

pub returns-then-not-is_legal : goal.returns-then-not-is_legal
returns-then-not-is_legal c =
    sym (key_fails c.args.s.now c.if-s-eq0.false 0 (ap (legal_name key_name_most) (sym c.name_of-name.ensures.name) ∙ sym c.is_legal.ensures ∙ c.if-not-is_legal.true))

pub slice_bounds-all_zero-count : goal.slice_bounds-all_zero-count
slice_bounds-all_zero-count c = omega (arith, legal_short key_name_most _ (sym c.is_legal.ensures ∙ c.if-not-is_legal.false))

pub slice_bounds-all_zero-start : goal.slice_bounds-all_zero-start
slice_bounds-all_zero-start c = omega (arith, legal_short key_name_most _ (sym c.is_legal.ensures ∙ c.if-not-is_legal.false))

pub returns-then-not-all_zero : goal.returns-then-not-all_zero
returns-then-not-all_zero c =
    sym (key_fails c.args.s.now c.if-s-eq0.false 1 (ap (all is_zero) (sym (behind_lent key_name_most _ c.args.s.now c.name_of-name.ensures.size)) ∙ sym c.all_zero-2.ensures ∙ c.if-not-all_zero.true))

pub returns-then-not-is_legal_data : goal.returns-then-not-is_legal_data
returns-then-not-is_legal_data c =
    sym (key_fails c.args.s.now c.if-s-eq0.false 2 (sym (data_tested c.args.s.now c.requires c.size_at-d.ensures.0 c.is_legal_data.ensures) ∙ c.if-not-is_legal_data.true))

pub slice_bounds-all_zero-count-2 : goal.slice_bounds-all_zero-count-2
slice_bounds-all_zero-count-2 c = omega (arith, data_short c.size_at-d.result c.if-not-is_legal_data.false c.is_legal_data.ensures)

pub slice_bounds-all_zero-start-2 : goal.slice_bounds-all_zero-start-2
slice_bounds-all_zero-start-2 c = omega (arith, data_short c.size_at-d.result c.if-not-is_legal_data.false c.is_legal_data.ensures)

pub returns-then-not-all_zero-2 : goal.returns-then-not-all_zero-2
returns-then-not-all_zero-2 c =
    sym (key_fails c.args.s.now c.if-s-eq0.false 3 (ap (all is_zero) (sym (data_lent c.size_at-d.result c.args.s.now c.size_at-d.ensures.0)) ∙ sym c.all_zero-3.ensures ∙ c.if-not-all_zero-2.true))

pub returns-then-not-are_legal_bits : goal.returns-then-not-are_legal_bits
returns-then-not-are_legal_bits c =
    sym (key_fails c.args.s.now c.if-s-eq0.false 4 (ap legal_bits (sym c.size_at.ensures.0) ∙ sym c.are_legal_bits.ensures ∙ c.if-not-are_legal_bits.true))

pub returns-then-s-gt1 : goal.returns-then-s-gt1
returns-then-s-gt1 c = sym (key_fails c.args.s.now c.if-s-eq0.false 5 (lt-leb _ 1 c.if-s-gt1.true))

pub returns : goal.returns
returns c =
    let s : List ℕ = c.args.s.now in
    let name = ap (legal_name key_name_most) (sym c.name_of-name.ensures.name) ∙ sym c.is_legal.ensures ∙ c.if-not-is_legal.false in
    let behind = ap (all is_zero) (sym (behind_lent key_name_most _ s c.name_of-name.ensures.size)) ∙ sym c.all_zero-2.ensures ∙ c.if-not-all_zero.false in
    let key_data = sym (data_tested s c.requires c.size_at-d.ensures.0 c.is_legal_data.ensures) ∙ c.if-not-is_legal_data.false in
    let rest = ap (all is_zero) (sym (data_lent c.size_at-d.result s c.size_at-d.ensures.0)) ∙ sym c.all_zero-3.ensures ∙ c.if-not-all_zero-2.false in
    let bits = ap legal_bits (sym c.size_at.ensures.0) ∙ sym c.are_legal_bits.ensures ∙ c.if-not-are_legal_bits.false in
    sym (key_slot s c.if-s-eq0.false ∙ rw (name, behind, key_data, rest, bits, le-leb _ 1 c.if-s-gt1.false) (and-true _))
