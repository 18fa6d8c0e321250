use mathlib.Core.Path.{sym}
use Rattle.protobuf.proofs.BodyLaws.{body_in}
use Rattle.messages.proofs.PlacesLaws.{placed}
use Rattle.messages.proofs.format.read_fields.Goals as goal

pub returns-in-Protobuf : goal.returns-in-Protobuf
returns-in-Protobuf c =
    let a = c.args in
    rw (c.in-Protobuf.is, c.read_body.ensures)
    (λ kinds is few no-lists. rw is (sym (placed kinds a.body.now few no-lists)), body_in a.schema a.body.now)

pub returns-in-Tagged : goal.returns-in-Tagged
returns-in-Tagged c = rw c.in-Tagged.is c.read_tagged.ensures
