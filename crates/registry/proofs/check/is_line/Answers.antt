use Rattle.std.proofs.Common.{sym, ap, ◌∙◌, List, ℕ, arith}
use mathlib.Core.Bool.{and-true}
use Rattle.wire.specs.Lists.{all, is_zero}
use Rattle.keys.specs.Names.{legal_name, application_name_most}
use Rattle.keys.proofs.NameLaws.{legal_short}
use Rattle.registry.specs.Registry.{slots_in}
use Rattle.registry.specs.code.Check.{line_tests, well_formed_line}
use Rattle.registry.proofs.SlotLaws.{every_fails, behind_lent}
use Rattle.registry.proofs.FreeLaws.{distinct_free_from}
use Rattle.registry.proofs.check.is_line.Goals as goal

pub returns-then-not-is_legal : goal.returns-then-not-is_legal
unfolding well_formed_line
returns-then-not-is_legal c =
    sym (every_fails (line_tests c.args.line.now) 0 (ap (legal_name application_name_most) (sym c.name_of-name.ensures.name) ∙ sym c.is_legal.ensures ∙ c.if-not-is_legal.true))

pub slice_bounds-all_zero-count : goal.slice_bounds-all_zero-count
slice_bounds-all_zero-count c = omega (arith, legal_short application_name_most _ (sym c.is_legal.ensures ∙ c.if-not-is_legal.false))

pub slice_bounds-all_zero-start : goal.slice_bounds-all_zero-start
slice_bounds-all_zero-start c = omega (arith, legal_short application_name_most _ (sym c.is_legal.ensures ∙ c.if-not-is_legal.false))

pub returns-then-not-all_zero : goal.returns-then-not-all_zero
unfolding well_formed_line
returns-then-not-all_zero c =
    sym (every_fails (line_tests c.args.line.now) 1 (ap (all is_zero) (sym (behind_lent application_name_most _ c.args.line.now c.name_of-name.ensures.size)) ∙ sym c.all_zero.ensures ∙ c.if-not-all_zero.true))

pub are_all_slots-requires : goal.are_all_slots-requires
are_all_slots-requires c = (c.requires, c.free_from-free.ensures.0, c.free_from-free.ensures.1)

pub returns-then-not-are_all_slots : goal.returns-then-not-are_all_slots
unfolding well_formed_line
returns-then-not-are_all_slots c = sym (every_fails (line_tests c.args.line.now) 2 (sym c.are_all_slots.ensures ∙ c.if-not-are_all_slots.true))

pub returns-then-free-lt2 : goal.returns-then-free-lt2
unfolding well_formed_line
returns-then-free-lt2 c =
    let line : List ℕ = c.args.line.now in
    let name = ap (legal_name application_name_most) (sym c.name_of-name.ensures.name) ∙ sym c.is_legal.ensures ∙ c.if-not-is_legal.false in
    let behind = ap (all is_zero) (sym (behind_lent application_name_most _ line c.name_of-name.ensures.size)) ∙ sym c.all_zero.ensures ∙ c.if-not-all_zero.false in
    let slots = sym c.are_all_slots.ensures ∙ c.if-not-are_all_slots.false in
    sym (rw (name, behind, slots, distinct_free_from (slots_in line) c.free_from-free.result c.if-free-lt2.true c.free_from-free.ensures.1))

pub are_keys_distinct-requires : goal.are_keys_distinct-requires
are_keys_distinct-requires c = (c.requires, sym c.are_all_slots.ensures ∙ c.if-not-are_all_slots.false)

pub returns : goal.returns
unfolding well_formed_line
returns c =
    let line : List ℕ = c.args.line.now in
    let name = ap (legal_name application_name_most) (sym c.name_of-name.ensures.name) ∙ sym c.is_legal.ensures ∙ c.if-not-is_legal.false in
    let behind = ap (all is_zero) (sym (behind_lent application_name_most _ line c.name_of-name.ensures.size)) ∙ sym c.all_zero.ensures ∙ c.if-not-all_zero.false in
    let slots = sym c.are_all_slots.ensures ∙ c.if-not-are_all_slots.false in
    c.are_keys_distinct.ensures ∙ sym (rw (name, behind, slots) (and-true _))
