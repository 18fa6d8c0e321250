use Rattle.std.proofs.Common.{None}
use mathlib.Core.Path.{refl}
use mathlib.Core.List.{[]}
use native.Mathlib.Omega.{arith}
use borrow.Author.Tests.{eq-eqb, ne_eqb}
use Rattle.messages.specs.Formats.{format_of, format_for}
use Rattle.messages.proofs.FormatsLaws.{nothing_bytes}
use Rattle.registry.specs.Registry.{slots_of}
use Rattle.shipped.specs.Shipped.{keys_in}
use Rattle.judgement.specs.Operations.{refuse}
use Rattle.judgement.proofs.AskerLaws.{core_alone}
use Rattle.answer.specs.code.Answers.{result_for_nobody}
use Rattle.answer.proofs.AnswerLaws.{core_opcode, provider_small, decided_answered}
use Rattle.answer.proofs.request.answer_nobody.Goals as goal

pub returns-then-h-eq1 : goal.returns-then-h-eq1
unfolding result_for_nobody refuse
returns-then-h-eq1 c =
    let e = c.refuse.ensures in
    let h = c.args.h in
    rw (eq-eqb _ _ c.if-h-eq1.true) (record { status = e.0; asker = e.1; response = rw (nothing_bytes (format_for h.accept_type)) e.2 }, e.3)

pub returns : goal.returns
unfolding result_for_nobody
returns c =
    let a = c.args in
    let core = core_opcode a.h c.requires.0 (omega (arith, provider_small a.h c.requires.0, c.if-h-eq1.false)) in
    let keys = keys_in a.list.now in
    rw (ne_eqb _ _ c.if-h-eq1.false, core_alone (format_of (format_for a.h.content_type)) a.h.opcode a.body.now [] (slots_of a.registry.now (record { 0 = 0 })) keys keys core)
    (decided_answered a.h None (rw c.format_for-format.ensures at c.perform_operation-status.ensures) c.write_response-written.ensures 0, refl)
