use mathlib.Core.Path.{sym}
use borrow.Author.Rules.{rules}
use native.Mathlib.Omega.{arith}
use Rattle.messages.specs.Formats.{format_for}
use Rattle.messages.proofs.FormatsLaws.{verify_body_least}
use Rattle.client_requests.proofs.WritingLaws.{room_passed, short_passed, refused_outcome, body_outcome}
use Rattle.client_requests.proofs.write.write_verify.Goals as goal

pub returns-in_err-judge_verify : goal.returns-in_err-judge_verify
returns-in_err-judge_verify c = let r = refused_outcome _ c.args.client.session _ _ _ _ (sym c.in_err-judge_verify.ensures) in search rules

pub write_verify_body-size-requires : goal.write_verify_body-size-requires
write_verify_body-size-requires c =
    let a = c.args in
    omega (arith, room_passed _ _ _ _ (sym c.in_ok-judge_verify.ensures), short_passed _ _ _ _ (sym c.in_ok-judge_verify.ensures), verify_body_least (format_for a.client.types.content) a.signed.name.now a.signed.hash.now a.signed.signature.now)

pub write_around-requires-clause-few : goal.write_around-requires-clause-few
write_around-requires-clause-few c = omega (arith, short_passed _ _ _ _ (sym c.in_ok-judge_verify.ensures), rw c.format_for-format.ensures at c.write_verify_body-size.ensures.count)

pub returns : goal.returns
returns c = body_outcome _ _ _ _ _ (sym c.in_ok-judge_verify.ensures) (rw c.format_for-format.ensures at c.write_verify_body-size.ensures) c.write_around.ensures
