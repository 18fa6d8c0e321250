-- What the functions below the step say of it, in the reading copy's terms.
use Rattle.std.specs.Prelude.{ℕ, Bool, List, length, Result, Ok, Err}
use Rattle.counters.specs.declared.Counters.{Counters}
use Rattle.service.specs.declared.Outcome.{Outcome}
use Rattle.audit.specs.Audit.{alike}
use Rattle.audit.specs.Step.{left_of, is_found, advanced, after_call}
use Rattle.audit.specs.declared.Progress.{Progress}
use Rattle.audit.specs.declared.Stepped.{Stepped}
use Rattle.service.specs.declared.Refusal.{Refusal}
use Rattle.audit.specs.declared.StepRefusal.{StepRefusal}
use Rattle.audit.specs.declared.StepRefusal.TheVariants.{IllFormed, Call}
use Rattle.audit.specs.declared.compare.Compared.{Compared}

abbrev pub compared_at : Progress → (n : ℕ) (isWrong : Bool) → Compared
compared_at p n isWrong = record { taken = n; progress = advanced p n isWrong }

unfoldable pub compared_with : Progress → (pending captured : List ℕ) (is_last : Bool) → Compared
compared_with p pending captured is_last =
    let left = left_of p pending in
    let n = alike left captured in
    compared_at p n (is_found n (length left) (length captured) is_last)

abbrev pub still_at : Progress → Counters → Stepped
still_at progress counters = record { code = Err IllFormed; requests = 0; responses = 0; progress = progress; counters = counters }

abbrev pub compared_step : Compared → Counters → Stepped
compared_step c counters = record { code = Ok tt; requests = 0; responses = c.taken; progress = c.progress; counters = counters }

abbrev pub code_called : Result (Unit {0}) Refusal → Result (Unit {0}) StepRefusal
code_called (Ok tt) = Ok tt
code_called (Err refusal) = Err (Call refusal)

abbrev pub called_to : Progress → Outcome → Stepped
called_to p o = record { code = code_called o.answer.code; requests = o.answer.taken; responses = 0; progress = p; counters = o.counters }

abbrev pub called_step : Progress → Outcome → Stepped
called_step p o = called_to (after_call p o.answer.written) o
