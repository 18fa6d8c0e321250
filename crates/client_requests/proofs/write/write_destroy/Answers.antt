use mathlib.Core.Path.{sym}
use borrow.Author.Rules.{rules}
use native.Mathlib.Omega.{arith}
use Rattle.messages.specs.Operations.{destroy_key, operation_body}
use Rattle.client_requests.proofs.WritingLaws.{room_passed, name_short, short_passed, refused_outcome, body_outcome}
use Rattle.client_requests.proofs.write.write_destroy.Goals as goal

pub returns-in_err-judge_name : goal.returns-in_err-judge_name
returns-in_err-judge_name c = let r = refused_outcome _ c.args.client.session _ _ (destroy_key c.args.name.now) _ (sym c.in_err-judge_name.ensures) in search rules

pub write_bytes_body-size-requires : goal.write_bytes_body-size-requires
write_bytes_body-size-requires c = omega (arith, room_passed _ _ _ _ (sym c.in_ok-judge_name.ensures), name_short _ _ _ _ (sym c.in_ok-judge_name.ensures))

pub write_around-requires-clause-few : goal.write_around-requires-clause-few
unfolding operation_body
write_around-requires-clause-few c = omega (arith, short_passed _ _ _ (destroy_key c.args.name.now) (sym c.in_ok-judge_name.ensures), rw c.format_for-format.ensures at c.write_bytes_body-size.ensures.count)

pub returns : goal.returns
unfolding operation_body
returns c = body_outcome _ _ _ _ (destroy_key c.args.name.now) (sym c.in_ok-judge_name.ensures) (rw c.format_for-format.ensures at c.write_bytes_body-size.ensures) c.write_around.ensures
