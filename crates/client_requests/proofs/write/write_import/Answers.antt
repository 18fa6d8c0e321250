use mathlib.Core.Path.{sym}
use borrow.Author.Rules.{rules}
use native.Mathlib.Omega.{arith}
use Rattle.client_requests.proofs.WritingLaws.{room_passed, sender_passed, key_short, short_passed, refused_outcome, body_outcome}
use Rattle.client_requests.proofs.write.write_import.Goals as goal

pub returns-in_err-judge_key : goal.returns-in_err-judge_key
returns-in_err-judge_key c = let r = refused_outcome _ c.args.client.session _ _ _ _ (sym c.in_err-judge_key.ensures.own) in search rules

pub write_key_body-size-requires : goal.write_key_body-size-requires
write_key_body-size-requires c = let short = key_short _ _ _ _ (sym c.in_ok-judge_key.ensures.own) in omega (arith, room_passed _ _ _ _ (sym c.in_ok-judge_key.ensures.own))

pub write_around-requires-clause-few : goal.write_around-requires-clause-few
write_around-requires-clause-few c = omega (arith, short_passed _ _ _ _ (sym c.in_ok-judge_key.ensures.own), rw c.format_for-format.ensures at c.write_key_body-size.ensures.count)

pub returns : goal.returns
returns c = body_outcome _ _ _ _ _ (sym c.in_ok-judge_key.ensures.own) (rw c.format_for-format.ensures at c.write_key_body-size.ensures) c.write_around.ensures
