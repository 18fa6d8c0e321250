use Prim.Native.Nat.{◌≤◌, ◌<◌}
use native.Mathlib.Omega.{arith}
use Rattle.wire.specs.Request.{content_length}
use Rattle.wire.specs.code.Header.{header_of}
use Rattle.messages.specs.Formats.{content_type_of}
use Rattle.stream.specs.Frame.{content_most}
use Rattle.judgement.specs.Status.{status_number}
use Rattle.answer.proofs.AnswerLaws.{oversized_content, oversized_auth, answered_oversized}
use Rattle.answer.proofs.request.answer_oversized.Goals as goal

pub returns-then-h-gt-CONTENT_MOST : goal.returns-then-h-gt-CONTENT_MOST
unfolding header_of status_number content_type_of
returns-then-h-gt-CONTENT_MOST c =
    let header = c.args.header.now in
    let large : content_most < content_length header = rw c.read_header-h.ensures at c.if-h-gt-CONTENT_MOST.true in
    answered_oversized header _ (oversized_content header large) (omega arith) (rw c.read_header-h.ensures at c.refuse_as.ensures)

pub returns : goal.returns
unfolding header_of status_number content_type_of
returns c =
    let header = c.args.header.now in
    let small : content_length header ≤ content_most = rw c.read_header-h.ensures at c.if-h-gt-CONTENT_MOST.false in
    answered_oversized header _ (oversized_auth header small) (omega arith) (rw c.read_header-h.ensures at c.refuse_as-2.ensures)
