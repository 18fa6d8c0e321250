use Rattle.std.proofs.Common.{arith}
use Rattle.wire.proofs.BufferLaws.{wrote_on}
use Rattle.protobuf.proofs.WrittenLaws.{wrote_short, number_field_lem}
use Rattle.protobuf.proofs.write.write_number_field.Goals as goal

pub write_varint-size-requires : goal.write_varint-size-requires
write_varint-size-requires c = omega (arith, wrote_short _ c.write_varint-tag.ensures)

pub returns : goal.returns
returns c =
    let a = c.args in
    rw (number_field_lem a.number a.value c.if-value-eq0.false) (wrote_on c.write_varint-tag.ensures c.write_varint-size.ensures)
