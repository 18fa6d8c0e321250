use mathlib.Core.Path.{sym}
use borrow.Author.Rules.{rules}
use Rattle.messages.specs.Format.{message_bytes}
use Rattle.messages.specs.Operations.{list_providers, operation_body}
use Rattle.client_requests.specs.Writing.{write_tests}
use Rattle.client_requests.proofs.WritingLaws.{refused_outcome, written_outcome}
use Rattle.client_requests.proofs.write.write_list_providers.Goals as goal

pub returns-in_err-judge_sender : goal.returns-in_err-judge_sender
unfolding write_tests
returns-in_err-judge_sender c = let r = refused_outcome _ c.args.client.session _ _ list_providers _ (sym c.in_err-judge_sender.ensures) in search rules

pub returns : goal.returns
unfolding write_tests operation_body message_bytes
returns c = written_outcome _ _ _ _ list_providers (sym c.in_ok-judge_sender.ensures) c.write_around.ensures
