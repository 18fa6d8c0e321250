use Rattle.std.proofs.Common.{Some}
use Rattle.registry.specs.Registry.{slots_of}
use Rattle.registry.proofs.WellFormedLaws.{good_of}
use Rattle.judgement.specs.Operations.{Result}
use Rattle.judgement.specs.code.Decided.{result_in, Decided}
use Rattle.answer.specs.code.Answers.{result_for_named}
use Rattle.answer.proofs.AnswerLaws.{decided_answered}
use Rattle.answer.proofs.request.answer_named.Goals as goal

pub write_record-recorded-requires : goal.write_record-recorded-requires
write_record-recorded-requires c = (c.requires.0, c.requires.1, c.perform_operation-status.ensures.edit, c.requires.4)

pub make_edit-requires : goal.make_edit-requires
make_edit-requires c = ((good_of c.args.registry.now c.requires.0).size, c.requires.1, c.perform_operation-status.ensures.edit)

pub returns : goal.returns
unfolding result_in
returns c =
    let a = c.args in
    let x : Result = result_for_named a.h a.body.now a.registry.now a.list.now a.line in
    let decided : Decided (slots_of a.registry.now a.line) a.list.now a.body.now x c.perform_operation-status.result
    = rw (← c.format_for-format.ensures) c.perform_operation-status.ensures in
    (decided_answered {x = x} a.h (Some a.line) decided c.write_response-written.ensures c.write_record-recorded.result, rw (← decided.result) c.make_edit.ensures, rw (← decided.result) c.write_record-recorded.ensures)
