-- What the functions below the call say of it, in the reading copy's terms.
use Rattle.std.specs.Prelude.{ℕ, List, Option, Some, None, Result, Ok, Err}
use Rattle.counters.specs.code.Counted.{counted, Fits}
use Rattle.counters.specs.declared.Counters.{Counters}
use Rattle.service.specs.Call.{Memory}
use Rattle.service.specs.Contract.{code_number, Ran, ran_with}
use Rattle.service.specs.declared.Refusal.{Refusal}
use Rattle.service.specs.declared.Handled.{Handled}
use Rattle.service.specs.declared.CallAnswer.{CallAnswer}

unfoldable pub code_for : Option Refusal → Result (Unit {0}) Refusal
code_for None = Ok tt
code_for (Some refusal) = Err refusal

-- what a call says: a refused one takes and writes nothing
abbrev pub answer_of : Result Handled Refusal → CallAnswer
answer_of (Ok h) = record { code = Ok tt; taken = h.added.taken; written = h.written; recorded = h.recorded }
answer_of (Err refusal) = record { code = Err refusal; taken = 0; written = 0; recorded = 0 }

-- the counters after it: a refused one counts nothing
abbrev pub counted_by : Counters → Result Handled Refusal → Counters
counted_by c (Ok h) = counted c h.added
counted_by c (Err refusal) = c

-- there is room in them
abbrev pub FitsBy : Counters → Result Handled Refusal → Type 0
FitsBy c (Ok h) = Fits c h.added
FitsBy c (Err refusal) = Unit {0}

-- what was said and left, as the contract has it
abbrev pub ran_by : CallAnswer → Memory → (response journal : List ℕ) → Ran
ran_by a memory response journal = ran_with (code_number a.code) a.taken a.written a.recorded memory response journal
