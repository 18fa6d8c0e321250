use mathlib.Core.Path.{◌≡◌, sym}
use native.Mathlib.Omega.{arith}
use lib.ListN.{length, take}
use lib.Seq.{length-take-le}
use Rattle.answer.proofs.request.answer_skipped.Goals as goal
use Rattle.answer.proofs.request.answer_skipped.Goals.{After-header_length-end}

pub header_length-end-requires : goal.header_length-end-requires
header_length-end-requires c = let p = c.requires in omega (arith, p)

-- the header is whole
whole : (c : After-header_length-end) → length (take c.header_length-end.result c.args.bytes.now) ≡ c.header_length-end.result
whole c =
    length-take-le _ _ (omega (arith, c.header_length-end.ensures, c.requires.1))

pub slice_bounds-answer_oversized-end : goal.slice_bounds-answer_oversized-end
slice_bounds-answer_oversized-end c =
    let w = (goal.at.slice_bounds-answer_oversized-end c).After-header_length-end in
    sym (whole w)

pub answer_oversized-requires : goal.answer_oversized-requires
answer_oversized-requires c =
    let w = (goal.at.answer_oversized-requires c).After-header_length-end in
    (omega (arith, whole w, c.header_length-end.ensures, c.requires.0), c.requires.2)

pub returns : goal.returns
returns c =
    λ list registry journal. rw c.header_length-end.ensures at (c.answer_oversized.ensures list registry journal)
