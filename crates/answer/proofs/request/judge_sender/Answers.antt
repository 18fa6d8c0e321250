use mathlib.Core.Path.{sym, ◌∙◌}
use borrow.Author.Rules.{rules}
use Rattle.judgement.proofs.OrderLaws.{passed_none, refused_some}
use Rattle.answer.proofs.request.judge_sender.Goals as goal

pub returns-in_err-check_header : goal.returns-in_err-check_header
returns-in_err-check_header c =
    rw (refused_some _ _ (sym c.check_header.ensures ∙ c.in_err-check_header.was)) (search rules)

pub returns : goal.returns
returns c = rw (passed_none _ (sym c.check_header.ensures ∙ c.in_ok-check_header.was)) c.authenticate.ensures
