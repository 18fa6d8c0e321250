use mathlib.Core.Path.{◌≡◌, sym, ◌∙◌}
use mathlib.Core.Bool.{true, false}
use native.Mathlib.Omega.{arith}
use Rattle.stream.specs.Rules.{judge}
use Rattle.stream.specs.Frame.{oversized}
use Rattle.stream.proofs.FrameLaws.{legal_size}
use Rattle.answer.proofs.request.answer_whole.Goals as goal

pub is_oversized-requires : goal.is_oversized-requires
is_oversized-requires c = omega (arith, c.requires.1, legal_size c.args.request.now c.requires.0)

pub answer_skipped-requires : goal.answer_skipped-requires
answer_skipped-requires c = (omega (arith, legal_size c.args.request.now c.requires.0), omega (arith, c.requires.1), c.requires.3)

pub returns-then-is_oversized : goal.returns-then-is_oversized
unfolding judge
returns-then-is_oversized c =
    let large : oversized c.args.request.now ≡ true = sym c.is_oversized.ensures ∙ c.if-is_oversized.true in
    rw large (c.answer_skipped.ensures c.args.list.now c.args.registry.now c.args.journal.now)

pub answer_request-requires : goal.answer_request-requires
answer_request-requires c =
    (c.requires.0, c.requires.1, sym c.is_oversized.ensures ∙ c.if-is_oversized.false, c.requires.2, c.requires.3, c.requires.4, c.requires.5)

pub returns : goal.returns
unfolding judge
returns c =
    let small : oversized c.args.request.now ≡ false = sym c.is_oversized.ensures ∙ c.if-is_oversized.false in
    rw small c.answer_request.ensures
