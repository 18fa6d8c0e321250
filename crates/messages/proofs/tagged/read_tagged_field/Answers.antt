use native.Mathlib.Omega.{arith}
use Rattle.messages.proofs.TaggedPlacedLaws.{field_cut, record_room, field_here}
use Rattle.messages.proofs.tagged.read_tagged_field.Goals as goal

pub returns-then-not-is_whole : goal.returns-then-not-is_whole
returns-then-not-is_whole c = (field_cut c.args.body.now c.args.at c.args.schema c.if-not-is_whole.ensures, tt)

pub record_length-size-requires : goal.record_length-size-requires
record_length-size-requires c = (record_room c.args.body.now c.args.at c.if-not-is_whole.ensures).0

pub value_as-requires : goal.value_as-requires
value_as-requires c = omega (arith, record_room c.args.body.now c.args.at c.if-not-is_whole.ensures, c.record_length-size.ensures)

pub overflow_add-result : goal.overflow_add-result
overflow_add-result c = omega (arith, record_room c.args.body.now c.args.at c.if-not-is_whole.ensures, c.record_length-size.ensures, c.well_formed)

pub returns-in_err-value : goal.returns-in_err-value
returns-in_err-value c =
    let s = c.args in
    rw c.from_residual.ensures (
      field_here s.body.now s.at c.if-not-is_whole.ensures s.schema _ _ _ c.from-number.ensures c.record_length-size.ensures (rw c.kind_of.ensures at c.in_err-value.ensures.0),
      tt,
    )

pub returns : goal.returns
returns c =
    let s = c.args in
    let w = c.if-not-is_whole.ensures in
    let room = record_room s.body.now s.at w in
    let v = rw c.kind_of.ensures at c.in_ok-value.ensures in (
      field_here s.body.now s.at w s.schema _ _ _ c.from-number.ensures c.record_length-size.ensures v.0,
      (v.1.0, v.1.1, omega (arith, c.record_length-size.ensures), omega (arith, c.record_length-size.ensures)),
    )
