use mathlib.Core.Path.{sym}
use borrow.Author.Rules.{rules}
use native.Mathlib.Omega.{arith}
use Rattle.messages.specs.Operations.{list_opcodes}
use Rattle.client_requests.specs.Writing.{write_tests}
use Rattle.client_requests.proofs.WritingLaws.{short_passed, refused_outcome, body_outcome}
use Rattle.client_requests.proofs.write.write_list_opcodes.Goals as goal

pub returns-in_err-judge_sender : goal.returns-in_err-judge_sender
unfolding write_tests
returns-in_err-judge_sender c = let r = refused_outcome _ c.args.client.session _ _ (list_opcodes c.args.provider) _ (sym c.in_err-judge_sender.ensures) in search rules

pub write_around-requires-clause-few : goal.write_around-requires-clause-few
unfolding write_tests
write_around-requires-clause-few c = omega (arith, short_passed _ _ _ (list_opcodes c.args.provider) (sym c.in_ok-judge_sender.ensures), rw c.format_for-format.ensures at c.write_provider_body-size.ensures.count)

pub returns : goal.returns
unfolding write_tests
returns c = body_outcome _ _ _ _ (list_opcodes c.args.provider) (sym c.in_ok-judge_sender.ensures) (rw c.format_for-format.ensures at c.write_provider_body-size.ensures) c.write_around.ensures
