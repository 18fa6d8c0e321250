-- What the reader's parts leave: no part of the reading copy.
use Rattle.std.specs.Prelude.{ℕ, List, get_or, eqb, Option, Some, None, Result as Judgement, Ok, Err}
use Rattle.wire.specs.Choice.{when◌then◌else◌}
use Rattle.wire.specs.Numbers.{field}
use Rattle.registry.specs.Registry.{changed}
use Rattle.registry.specs.declared.Line.{Line}
use Rattle.judgement.specs.Status.{status_number}
use Rattle.judgement.specs.Operations.{Result}
use Rattle.crc.specs.Crc.{all_ones}
use Rattle.journal.specs.declared.Fault.{Fault}
use Rattle.journal.specs.declared.Fault.TheVariants.{NotAllowed}
use Rattle.journal.specs.declared.Progress.{Progress}
use Rattle.journal.specs.Replay.{fault_number, Judged, good, bad}
use Rattle.journal.specs.Compact.{Compact}
use Rattle.journal.specs.Memory.{kept_at, count_at, register_at}

-- what is said of a record, and the registry after it
pub record Left : Type 0 where
  pub judged : Judgement (Unit {0}) Fault
  pub registry : List ℕ

unfoldable pub left_by : (registry : List ℕ) → Judged → Left
left_by registry (good after) = record { judged = Ok tt; registry = after }
left_by registry (bad fault) = record { judged = Err fault; registry = registry }

-- of an operation: where it is not served, the record is not allowed
unfoldable pub done_on : (registry : List ℕ) → Line → Result → Left
done_on registry line x =
    let served = eqb (status_number x.status) 0 in
    record { judged = when served then Ok tt else Err NotAllowed; registry = when served then changed registry line x.change else registry }

-- a fault as a state's first byte has it
unfoldable pub fault_code : Option Fault → ℕ
fault_code None = 0
fault_code (Some fault) = fault_number fault

-- the reader's state, from what the code holds of it
abbrev pub compact_with : (registry : List ℕ) → Progress → (front : List ℕ) → Compact
compact_with registry p front = record {
  registry = registry;
  fault = p.fault;
  kept = p.kept;
  count = p.count;
  register = p.register;
  front = front;
}

unfoldable pub progress_in : (state : List ℕ) → Progress
progress_in state = record { fault = get_or state 0 0; kept = field kept_at 8 state; count = field count_at 8 state; register = field register_at 4 state }

-- no record is begun
abbrev pub progress_between : (fault kept : ℕ) → Progress
progress_between fault kept = record { fault = fault; kept = kept; count = 0; register = all_ones }
