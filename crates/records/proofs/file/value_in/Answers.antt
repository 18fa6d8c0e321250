use native.Mathlib.Omega.{arith}
use Rattle.records.proofs.RecordLaws.{whole_room}
use Rattle.records.proofs.file.value_in.Goals as goal

pub record_length-requires : goal.record_length-requires
record_length-requires c = omega (arith, whole_room c.args.bytes.now c.requires)
