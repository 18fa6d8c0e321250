use mathlib.Core.Path.{◌≡◌, refl, sym, ap, subst, ◌∙◌}
use mathlib.Core.List.{List, [], append-nil}
use Prim.Native.Nat.{ℕ}
use native.Mathlib.Omega.{arith}
use Rattle.wire.specs.Response.{response_header, response_bytes}
use Rattle.wire.specs.code.Wrote.{Wrote}
use Rattle.judgement.specs.Status.{status_number}
use Rattle.judgement.specs.Judgement.{judgement}
use Rattle.journal.specs.Journalling.{journalling}
use Rattle.answer.proofs.AnswerLaws.{answered_early}
use Rattle.answer.proofs.request.answer_bad_start.Goals as goal

-- a header with no body behind it
alone : (provider session type opcode status : ℕ) → response_header provider session type 0 opcode status ≡ response_bytes provider session type opcode status []
unfolding response_bytes
alone provider session type opcode status = sym (append-nil _)

pub returns : goal.returns
unfolding journalling judgement status_number
returns c = λ list.
    let head = c.response_header-head.ensures ∙ ap (λ (n : ℕ). response_header 0 0 1 0 0 n) c.status_number.ensures ∙ alone 0 0 1 0 17 in
    answered_early 0 0 0 _ (omega arith) (refl, refl, subst (λ (x : List ℕ). Wrote x c.args.out.now c.copy_into.new.dst c.copy_into.result) head c.copy_into.ensures, refl)
