-- What the journal's reader answers to C, as numbers (document 02, "Surviving a power cut").
use Rattle.std.specs.Prelude.{ℕ, List, Result, Ok, Err}
use Rattle.journal.specs.Replay.{fault_number}
use Rattle.journal.specs.Memory.{Beginning, ReadOutcome}
use Rattle.journal.specs.declared.state.BeginRefusal.{BeginRefusal}
use Rattle.journal.specs.declared.state.BeginRefusal.TheVariants.{WrongSize}
use Rattle.journal.specs.declared.read.Said.{Said}
use Rattle.journal.specs.declared.read.Said.TheVariants.{RegistryIllFormed, StateIllFormed, Waiting, AtBorder, Refused}
use Rattle.journal.specs.declared.read.ReadAnswer.{ReadAnswer}
use Rattle.abi.specs.declared.restoring.Restored.{Restored}

-- 0 for a reader that begins, 1 for memory of another size
unfoldable pub begun_number : Result (Unit {0}) BeginRefusal → ℕ
begun_number (Ok tt) = 0
begun_number (Err WrongSize) = 1

-- what beginning says, and the memory after it
abbrev pub begun_with : Beginning → ℕ × List ℕ
begun_with o = (begun_number o.answer, o.state)

-- J1 to J3 by their numbers
unfoldable pub said_number : Said → ℕ
said_number AtBorder = 0
said_number (Refused fault) = fault_number fault
said_number Waiting = 4
said_number RegistryIllFormed = 5
said_number StateIllFormed = 6

abbrev pub restored_numbered : ReadAnswer → Restored
restored_numbered a = record { code = said_number a.said; taken = a.taken; kept = a.kept }

-- what a call says, and the state and the registry after it
abbrev pub restored_with : ReadOutcome → Restored × (List ℕ × List ℕ)
restored_with o = (record { code = said_number o.said; taken = o.taken; kept = o.kept }, (o.state, o.registry))
