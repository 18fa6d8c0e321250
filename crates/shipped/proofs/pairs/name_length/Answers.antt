use Rattle.std.proofs.Common.{sym, ap, ◌∙◌, arith}
use borrow.Author.Tests.{eq-eqb, ne_eqb}
use Rattle.keys.specs.Names.{legal_name, key_name_most}
use Rattle.records.proofs.RecordLaws.{whole_room}
use Rattle.shipped.specs.code.Pairs.{is_name, name_length}
use Rattle.shipped.proofs.PairLaws.{tag_there}
use Rattle.shipped.proofs.pairs.name_length.Goals as goal

pub returns-then-not-is_whole : goal.returns-then-not-is_whole
unfolding name_length is_name
returns-then-not-is_whole c = rw (sym c.is_whole.ensures ∙ c.if-not-is_whole.true)

pub bounds-bytes-0 : goal.bounds-bytes-0
bounds-bytes-0 c = omega (arith, whole_room c.args.bytes.now (sym c.is_whole.ensures ∙ c.if-not-is_whole.false))

pub returns-then-bytes-ne1 : goal.returns-then-bytes-ne1
unfolding name_length is_name
returns-then-bytes-ne1 c =
    let whole = sym c.is_whole.ensures ∙ c.if-not-is_whole.false in
    rw (whole, ne_eqb _ 1 (λ q. c.if-bytes-ne1.true (sym (tag_there c.args.bytes.now whole) ∙ q)))

pub returns-then-not-is_legal : goal.returns-then-not-is_legal
unfolding name_length is_name
returns-then-not-is_legal c =
    let whole = sym c.is_whole.ensures ∙ c.if-not-is_whole.false in
    let tag = eq-eqb _ 1 (tag_there c.args.bytes.now whole ∙ c.if-bytes-ne1.false) in
    rw (whole, tag, ap (legal_name key_name_most) (sym c.value_in.ensures) ∙ sym c.is_legal.ensures ∙ c.if-not-is_legal.true)

pub record_length-requires : goal.record_length-requires
record_length-requires c = omega (arith, whole_room c.args.bytes.now (sym c.is_whole.ensures ∙ c.if-not-is_whole.false))

pub returns : goal.returns
unfolding name_length is_name
returns c =
    let whole = sym c.is_whole.ensures ∙ c.if-not-is_whole.false in
    let tag = eq-eqb _ 1 (tag_there c.args.bytes.now whole ∙ c.if-bytes-ne1.false) in
    rw (whole, tag, ap (legal_name key_name_most) (sym c.value_in.ensures) ∙ sym c.is_legal.ensures ∙ c.if-not-is_legal.false, c.record_length.ensures)
