use Rattle.std.proofs.Common.{◌≡◌, sym, ◌∙◌, ◌-◌, length, arith}
use borrow.Author.Tests.{eq-eqb, ne_eqb}
use Rattle.records.specs.Records.{value_in}
use Rattle.records.proofs.RecordLaws.{whole_room, value_length}
use Rattle.shipped.specs.code.Pairs.{is_data, data_length}
use Rattle.shipped.proofs.PairLaws.{tag_there}
use Rattle.shipped.proofs.pairs.data_length.Goals as goal

pub returns-then-not-is_whole : goal.returns-then-not-is_whole
unfolding data_length is_data
returns-then-not-is_whole c = rw (sym c.is_whole.ensures ∙ c.if-not-is_whole.true)

pub bounds-bytes-0 : goal.bounds-bytes-0
bounds-bytes-0 c = omega (arith, whole_room c.args.bytes.now (sym c.is_whole.ensures ∙ c.if-not-is_whole.false))

pub returns-then-bytes-ne2 : goal.returns-then-bytes-ne2
unfolding data_length is_data
returns-then-bytes-ne2 c =
    let whole = sym c.is_whole.ensures ∙ c.if-not-is_whole.false in
    rw (whole, ne_eqb _ 2 (λ q. c.if-bytes-ne2.true (sym (tag_there c.args.bytes.now whole) ∙ q)))

pub record_length-n-requires : goal.record_length-n-requires
record_length-n-requires c = omega (arith, whole_room c.args.bytes.now (sym c.is_whole.ensures ∙ c.if-not-is_whole.false))

pub overflow_sub-n : goal.overflow_sub-n
overflow_sub-n c = omega (arith, c.record_length-n.ensures, value_length c.args.bytes.now (sym c.is_whole.ensures ∙ c.if-not-is_whole.false))

pub returns-then-not-is_legal_data : goal.returns-then-not-is_legal_data
unfolding data_length is_data
returns-then-not-is_legal_data c =
    let whole = sym c.is_whole.ensures ∙ c.if-not-is_whole.false in
    let tag = eq-eqb _ 2 (tag_there c.args.bytes.now whole ∙ c.if-bytes-ne2.false) in
    let size : length (value_in c.args.bytes.now) ≡ c.record_length-n.result - 3 = omega (arith, c.record_length-n.ensures, value_length c.args.bytes.now whole) in
    rw (whole, tag, sym (c.is_legal_data.ensures (value_in c.args.bytes.now) size) ∙ c.if-not-is_legal_data.true)

pub returns : goal.returns
unfolding data_length is_data
returns c =
    let whole = sym c.is_whole.ensures ∙ c.if-not-is_whole.false in
    let tag = eq-eqb _ 2 (tag_there c.args.bytes.now whole ∙ c.if-bytes-ne2.false) in
    let size : length (value_in c.args.bytes.now) ≡ c.record_length-n.result - 3 = omega (arith, c.record_length-n.ensures, value_length c.args.bytes.now whole) in
    rw (whole, tag, sym (c.is_legal_data.ensures (value_in c.args.bytes.now) size) ∙ c.if-not-is_legal_data.false, c.record_length-n.ensures)
