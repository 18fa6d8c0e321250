use Rattle.std.proofs.Common.{◌≡◌, ◌∙◌, refl, sym, ap, Err}
use Rattle.journal.specs.declared.state.BeginRefusal.{BeginRefusal}
use Rattle.journal.specs.declared.state.BeginRefusal.TheVariants.{WrongSize}
use Rattle.abi.specs.Restoring.{begun_number, begun_with}
use borrow.Author.Rules.{rules}
use Rattle.abi.proofs.restoring.razidkot_journal_begin.Goals as goal

-- there is one refusal
refused : (refusal : BeginRefusal) → 1 ≡ begun_number (Err refusal)
unfolding begun_number
refused WrongSize = refl

pub returns-in-Ok : goal.returns-in-Ok
unfolding begun_number
returns-in-Ok c = rw (← ap begun_with c.begin_journal.ensures, c.in-Ok.is)

pub returns-in-Err-WrongSize : goal.returns-in-Err-WrongSize
returns-in-Err-WrongSize c =
    ap (λ n. (n, c.begin_journal.new.state)) (refused _ ∙ ap begun_number (sym c.in-Err-WrongSize.is)) ∙ ap begun_with c.begin_journal.ensures
