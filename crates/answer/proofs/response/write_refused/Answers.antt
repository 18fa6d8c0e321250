use mathlib.Core.List.{append-nil}
use Rattle.wire.specs.Response.{response_bytes}
use Rattle.answer.proofs.response.write_refused.Goals as goal

pub returns : goal.returns
unfolding response_bytes
returns c =
    rw (append-nil, ← c.content_type_of.ensures, ← c.status_number.ensures, ← c.response_header-head.ensures) c.copy_into.ensures
