use native.Mathlib.Omega.{arith}
use Rattle.messages.proofs.WriteLaws.{bytes_short, list_field}
use Rattle.messages.proofs.TaggedWriteLaws.{tagged_list_short}
use Rattle.messages.proofs.format.write_list.Goals as goal

pub returns-in-Protobuf : goal.returns-in-Protobuf
returns-in-Protobuf c =
    let w = rw c.from.ensures at c.write_bytes_field.ensures in
    rw (c.in-Protobuf.is, list_field _ _ c.requires.0) (w, omega (arith, bytes_short _ _ w))

pub returns-in-Tagged : goal.returns-in-Tagged
returns-in-Tagged c = let w = c.write_tagged_list.ensures in rw c.in-Tagged.is (w, omega (arith, tagged_list_short _ _ w))
