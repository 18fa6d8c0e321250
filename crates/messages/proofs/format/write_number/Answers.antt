use native.Mathlib.Omega.{arith}
use Rattle.messages.proofs.WriteLaws.{number_short}
use Rattle.messages.proofs.TaggedWriteLaws.{tagged_number_short}
use Rattle.messages.proofs.format.write_number.Goals as goal

pub returns-in-Protobuf : goal.returns-in-Protobuf
returns-in-Protobuf c = let w = rw (c.from.ensures, c.from-in-Protobuf.ensures) at c.write_number_field.ensures in rw c.in-Protobuf.is (w, number_short _ _ w)

pub returns-in-Tagged : goal.returns-in-Tagged
returns-in-Tagged c = let w = c.write_tagged_number.ensures in rw c.in-Tagged.is (w, omega (arith, tagged_number_short _ c.args.value w))
