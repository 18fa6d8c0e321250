-- What is claimed of bodies in a format: written and read, and where one broke. proofs/FormatsLaws.antt and proofs/BrokenLaws.antt
-- prove it of both formats.
use Rattle.std.specs.Prelude.{ℕ, ◌<◌, ◌≡◌, true, List, ◌++◌, map, length, take, Some}
use Rattle.wire.specs.Lists.{one_of}
use Rattle.wire.specs.Scan.{on, out}
use Rattle.messages.specs.Message.{kind_of, Schema, Message, absent}
use Rattle.messages.specs.Format.{unreadable, Format, message_bytes, AllFit, read, broken, SoFar, turn_at, read_message}
use Rattle.messages.specs.Opcodes.{core_opcodes, keystore_opcodes}
use Rattle.messages.specs.Operations.{Operation, opcode_of, input_of, operation_body, input_fields, garbled, asked, operation_of, Output, Carries, message_of, output_bytes, answer_of}

-- ---- document 02, "A second body format": a message written is read as itself

pub record ReadsBack (format : Format) : Type 0 where
  pub message : (m : Message) → length m < 256 → AllFit format m → read_message format (map kind_of m) (message_bytes format m) ≡ read m
  -- what is asked is read as what was asked
  pub operation : (operation : Operation) → AllFit format (input_of operation)
      → operation_of format (opcode_of operation) (operation_body format operation) ≡ Some operation
  -- what a response carries is read as what it carries, whatever its status
  pub answer : (opcode status : ℕ) (output : Output) → Carries opcode status output → AllFit format (message_of output)
      → answer_of format opcode status (output_bytes format output) ≡ Some output

-- ---- document 02, "Where the body broke"

-- Reading the body's own fields, each where the one before it ended, comes to `at`, with `so` read so far. A group is one such
-- field: reading never comes to a place inside of it.
pub data Arrives (format : Format) (schema : Schema) (body : List ℕ) : (at : ℕ) → SoFar → Type 0 where
  at_start : Arrives format schema body 0 (0, map absent schema)
  behind : (at next : ℕ) (so more : SoFar)
      → Arrives format schema body at so → at < length body → turn_at format schema body at so ≡ on more next
      → Arrives format schema body next more

-- the first unreadable field of a body starts at `at`
pub record BreaksAt (format : Format) (schema : Schema) (body : List ℕ) (at : ℕ) : Type 0 where
  pub so : SoFar
  pub arrives : Arrives format schema body at so  -- every field before it is readable, and it is one of the body's own
  pub within : at < length body
  pub stops : turn_at format schema body at so ≡ out (broken at)  -- it can't be read, or may not stand there
  pub front : read_message format schema (take at body) ≡ read so.1  -- the body cut there reads well, with the same values

-- a format says where a body broke
abbrev pub SaysWhere : Format → Type 0
SaysWhere format =
    (schema : Schema) (body : List ℕ) (at : ℕ) → read_message format schema body ≡ broken at → BreaksAt format schema body at

-- and says it only there
abbrev pub OnlyThere : Format → Type 0
OnlyThere format =
    (schema : Schema) (body : List ℕ) (at : ℕ) → BreaksAt format schema body at → read_message format schema body ≡ broken at

-- the field there is unreadable, whatever stands before it
abbrev pub UnreadableThere : Format → Type 0
UnreadableThere format =
    (schema : Schema) (body : List ℕ) (at : ℕ) → read_message format schema body ≡ broken at → format.field_at schema body at ≡ unreadable

-- what a listed opcode's body that can't be read is said to be: broken there, by the fields of its operation
abbrev pub AskedWhere : Format → Type 0
AskedWhere format =
    (opcode : ℕ) (body : List ℕ) (at : ℕ)
    → one_of (core_opcodes ++ keystore_opcodes) opcode ≡ true → asked format opcode body ≡ garbled at
    → BreaksAt format (input_fields opcode) body at
