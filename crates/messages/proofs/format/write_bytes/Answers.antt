use native.Mathlib.Omega.{arith}
use Rattle.messages.proofs.WriteLaws.{bytes_short}
use Rattle.messages.proofs.TaggedWriteLaws.{tagged_short}
use Rattle.messages.proofs.format.write_bytes.Goals as goal

pub returns-in-Protobuf : goal.returns-in-Protobuf
returns-in-Protobuf c = let w = rw c.from.ensures at c.write_bytes_field.ensures in rw c.in-Protobuf.is (w, bytes_short _ _ w)

pub returns-in-Tagged : goal.returns-in-Tagged
returns-in-Tagged c = let w = c.write_tagged.ensures in rw c.in-Tagged.is (w, omega (arith, tagged_short _ _ w))
