-- A reader's state in memory, and a call on it (docs/LAYOUT.md).
use Rattle.std.specs.Prelude.{ℕ, ◌+◌, Bool, List, [], ◌∷◌, ◌++◌, length, take, drop, leb, eqb, Option, Some, None, Result, Ok, Err}
use Rattle.wire.specs.Choice.{when◌then◌else◌}
use Rattle.wire.specs.Lists.{all, every, one_of, is_zero, padded}
use Rattle.wire.specs.Numbers.{little_endian_of, field}
use Rattle.wire.specs.Response.{response_least}
use Rattle.reading.specs.Calls.{Call, Layout, call_on}
use Rattle.messages.specs.Opcodes.{core_opcodes, keystore_opcodes}
use Rattle.messages.specs.Formats.{content_types}
use Rattle.client_responses.specs.Reading.{Asked, response_content_most, Reply, found, response_reader}
use Rattle.client_responses.specs.declared.BeginRefusal.{BeginRefusal}
use Rattle.client_responses.specs.declared.BeginRefusal.TheVariants.{WrongSize, UnlistedOpcode, UnlistedType}

-- ---- how it lies in memory: the request's opcode, session and accept type, how many bytes are held, and they, with zeros behind

-- the longest response
abbrev pub response_most : ℕ
response_most = response_least + response_content_most

abbrev pub session_at : ℕ
session_at = 2

abbrev pub accept_at : ℕ
accept_at = session_at + 8

abbrev pub count_at : ℕ
count_at = accept_at + 1

abbrev pub bytes_at : ℕ
bytes_at = count_at + 2

abbrev pub state_size : ℕ
state_size = bytes_at + response_most

unfoldable pub state_bytes : Asked → (bytes : List ℕ) → List ℕ
state_bytes asked bytes =
    little_endian_of 2 asked.opcode
    ++ (little_endian_of 8 asked.session
    ++ (little_endian_of 1 asked.accept_type
    ++ (little_endian_of 2 (length bytes)
    ++ padded response_most bytes)))

unfoldable pub asked_in : (memory : List ℕ) → Asked
asked_in memory = record { opcode = field 0 2 memory; session = field session_at 8 memory; accept_type = field accept_at 1 memory }

unfoldable pub bytes_in : (memory : List ℕ) → List ℕ
bytes_in memory = take (field count_at 2 memory) (drop bytes_at memory)

unfoldable pub layout : Asked → Layout (List ℕ) (List ℕ) Reply (Unit {0}) (Option Reply)
layout asked = record { load = bytes_in; store = state_bytes asked; give = λ reply _. reply }

-- ---- which memory is a state: of the one exact size, for a listed opcode and accept type, with at most the longest response and
-- zeros behind

unfoldable pub well_formed_state : (memory : List ℕ) → Bool
well_formed_state memory =
    every (
    eqb (length memory) state_size
    ∷ one_of (core_opcodes ++ keystore_opcodes) (field 0 2 memory)
    ∷ one_of content_types (field accept_at 1 memory)
    ∷ leb (field count_at 2 memory) response_most
    ∷ all is_zero (drop (bytes_at + field count_at 2 memory) memory)
    ∷ [])

-- ---- a state begun for a request

pub record Beginning : Type 0 where
  pub answer : Result (Unit {0}) BeginRefusal
  pub memory : List ℕ

unfoldable pub begin_state : (memory : List ℕ) → Asked → Beginning
begin_state memory asked =
    when eqb (length memory) state_size then
    (when one_of (core_opcodes ++ keystore_opcodes) asked.opcode then
    (when one_of content_types asked.accept_type then record { answer = Ok tt; memory = state_bytes asked [] }
    else record { answer = Err UnlistedType; memory = memory })
    else record { answer = Err UnlistedOpcode; memory = memory })
    else record { answer = Err WrongSize; memory = memory }

-- ---- A CALL'S WHOLE OUTCOME

pub data Said : Type 0 where
  ill_formed : Said
  waiting : Said
  said : Reply → Said

abbrev pub said_of : Option Reply → Said
said_of None = waiting
said_of (Some reply) = said reply

pub record ReadOutcome : Type 0 where
  pub said : Said
  pub taken : ℕ
  pub memory : List ℕ

-- an ill-formed state is refused: nothing is taken and nothing changes
unfoldable pub refusal : (memory : List ℕ) → Call (Unit {0}) → Option (Unit {0})
refusal memory call = when well_formed_state memory then None else Some tt

-- what is said is told by the bytes that are held after the call
unfoldable pub read_outcome : (memory chunk : List ℕ) → ReadOutcome
read_outcome memory chunk =
    let asked = asked_in memory in
    let o = call_on (response_reader asked) (layout asked) refusal memory (record { chunk = chunk; lent = tt }) in
    elim o.answer.refusal [
      | Some code ↦ record { said = ill_formed; taken = 0; memory = memory }
      | None ↦ record { said = said_of (found asked (bytes_in o.memory)); taken = o.answer.taken; memory = o.memory }
    ]
