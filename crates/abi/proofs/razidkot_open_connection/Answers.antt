use Rattle.std.proofs.Common.{◌≡◌, ◌∙◌, refl, sym, ap, Err}
use Rattle.connection.specs.declared.change.OpenRefusal.{OpenRefusal}
use Rattle.connection.specs.declared.change.OpenRefusal.TheVariants.{WrongSize}
use Rattle.abi.specs.Numbers.{opened_number, opened_with}
use borrow.Author.Rules.{rules}
use Rattle.abi.proofs.razidkot_open_connection.Goals as goal

-- there is one refusal
refused : (refusal : OpenRefusal) → 1 ≡ opened_number (Err refusal)
unfolding opened_number
refused WrongSize = refl

pub returns-in-Ok : goal.returns-in-Ok
unfolding opened_number
returns-in-Ok c = rw (← ap opened_with c.open_connection.ensures, c.in-Ok.is)

pub returns-in-Err-WrongSize : goal.returns-in-Err-WrongSize
returns-in-Err-WrongSize c =
    ap (λ n. (n, c.open_connection.new.memory)) (refused _ ∙ ap opened_number (sym c.in-Err-WrongSize.is)) ∙ ap opened_with c.open_connection.ensures
