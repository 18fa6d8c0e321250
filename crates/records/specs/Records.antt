-- A file of records, one behind the other: tag, length, value ("Roster, registry, connection, tally").
use Rattle.std.specs.Prelude.{ℕ, ◌+◌, Bool, not, ◌||◌, List, length, take, drop, ltb}
use Rattle.wire.specs.Choice.{when◌then◌else◌}
use Rattle.wire.specs.Numbers.{field}
use Rattle.wire.specs.Scan.{Turn, on, out, scan_at}

pub record Record : Type 0 where
  pub tag : ℕ
  pub value : List ℕ

-- ---- the record that `bytes` begin with: tag (1 byte), length (2), value

abbrev pub record_length : (bytes : List ℕ) → ℕ
record_length bytes = 3 + field 1 2 bytes

abbrev pub value_in : (bytes : List ℕ) → List ℕ
value_in bytes = take (field 1 2 bytes) (drop 3 bytes)

abbrev pub record_in : (bytes : List ℕ) → Record
record_in bytes = record { tag = field 0 1 bytes; value = value_in bytes }

-- the bytes begin with a whole record
unfoldable pub is_whole : (bytes : List ℕ) → Bool
is_whole bytes = not (ltb (length bytes) 3 || ltb (length bytes) (record_length bytes))

-- ---- a whole file

-- what a record makes of what was read before it: the state for the next one, or the answer
pub data Step (S A : Type 0) : Type 0 where
  next : S → Step S A
  stop : A → Step S A

abbrev pub turn_by : {S A : Type 0} → Step S A → (behind : ℕ) → Turn S A
turn_by (next state) behind = on state behind
turn_by (stop answer) behind = out answer

-- the record that `bytes` begin with, at byte `at` of the file
unfoldable pub record_turn : {S A : Type 0} → (cut : A) (step : S → Record → Step S A) → (state : S) (at : ℕ) (bytes : List ℕ) → Turn S A
record_turn cut step state at bytes =
    when is_whole bytes then turn_by (step state (record_in bytes)) (at + record_length bytes) else out cut

-- record by record from the file's front; `cut` where the bytes that are left begin with no whole record, `done` at its end
unfoldable pub read_records : {S A : Type 0} → (cut : A) (step : S → Record → Step S A) (done : S → A) → (file : List ℕ) → S → A
read_records cut step done file state =
    scan_at (λ at state. record_turn cut step state at (drop at file)) done (length file) 0 state
