-- What the functions exported to C answer, as numbers.
use Rattle.std.specs.Prelude.{ℕ, ◌+◌, List, Result, Ok, Err}
use Rattle.roster.specs.Roster.{fault_number, RosterOutcome}
use Rattle.connection.specs.Connection.{Opening}
use Rattle.connection.specs.declared.change.OpenRefusal.{OpenRefusal}
use Rattle.connection.specs.declared.change.OpenRefusal.TheVariants.{WrongSize}
use Rattle.service.specs.Contract.{code_number}
use Rattle.service.specs.declared.CallAnswer.{CallAnswer}
use Rattle.billing.specs.Outcome.{BillOutcome}
use Rattle.billing.specs.declared.BillRefusal.{BillRefusal}
use Rattle.billing.specs.declared.BillRefusal.TheVariants.{BufferTooSmall, ConnectionIllFormed, RegistryIllFormed}
use Rattle.abi.specs.declared.Answer.{Answer}
use Rattle.abi.specs.declared.Bill.{Bill}
use Rattle.roster.specs.declared.RosterFault.{RosterFault}

-- 0 for a good file, else 1 + the R number
unfoldable pub loaded_number : Result (Unit {0}) RosterFault → ℕ
loaded_number (Ok tt) = 0
loaded_number (Err fault) = 1 + fault_number fault

-- what loading a roster says, and the memory after it
abbrev pub loaded_with : RosterOutcome → ℕ × List ℕ
loaded_with o = (loaded_number o.answer, o.registry)

unfoldable pub opened_number : Result (Unit {0}) OpenRefusal → ℕ
opened_number (Ok tt) = 0
opened_number (Err WrongSize) = 1

-- what opening a connection says, and the memory after it
abbrev pub opened_with : Opening → ℕ × List ℕ
opened_with o = (opened_number o.answer, o.memory)

abbrev pub numbered : CallAnswer → Answer
numbered a = record { code = code_number a.code; taken = a.taken; written = a.written; recorded = a.recorded }

unfoldable pub billed_number : Result ℕ BillRefusal → ℕ
billed_number (Ok written) = 0
billed_number (Err BufferTooSmall) = 1
billed_number (Err ConnectionIllFormed) = 2
billed_number (Err RegistryIllFormed) = 3

-- a refused bill has no bytes
unfoldable pub billed_bytes : Result ℕ BillRefusal → ℕ
billed_bytes (Ok written) = written
billed_bytes (Err BufferTooSmall) = 0
billed_bytes (Err ConnectionIllFormed) = 0
billed_bytes (Err RegistryIllFormed) = 0

abbrev pub bill_numbered : Result ℕ BillRefusal → Bill
bill_numbered b = record { code = billed_number b; written = billed_bytes b }

-- what writing a bill says, and the buffer after it
abbrev pub billed_with : BillOutcome → Bill × List ℕ
billed_with o = (bill_numbered o.answer, o.out)
