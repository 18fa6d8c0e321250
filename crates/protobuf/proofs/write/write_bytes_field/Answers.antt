use Rattle.std.proofs.Common.{◌+◌, ◌*◌, ◌≤◌, length, arith}
use mathlib.Core.List.{append_assoc}
use Rattle.protobuf.specs.Written.{varint}
use Rattle.wire.proofs.BufferLaws.{wrote_on}
use Rattle.protobuf.proofs.WrittenLaws.{wrote_short, bytes_field_lem}
use Rattle.protobuf.proofs.write.write_bytes_field.Goals as goal

pub write_varint-size-requires : goal.write_varint-size-requires
write_varint-size-requires c = omega (arith, wrote_short _ c.write_varint-tag.ensures)

pub copy_into-copied-requires : goal.copy_into-copied-requires
copy_into-copied-requires c = omega (arith, wrote_short _ c.write_varint-tag.ensures, wrote_short _ c.write_varint-size.ensures)

pub returns : goal.returns
returns c =
    let bytes = c.args.bytes.now in
    let some : 1 ≤ length bytes = grind arith in
    rw (bytes_field_lem c.args.number bytes some, ← append_assoc (varint (8 * c.args.number + 2)) (varint (length bytes)) bytes)
    (wrote_on (wrote_on c.write_varint-tag.ensures c.write_varint-size.ensures) c.copy_into-copied.ensures)
