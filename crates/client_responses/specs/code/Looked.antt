-- What looking at the bytes held comes to, and what filling up does.
use Rattle.std.specs.Prelude.{ℕ, ◌+◌, ◌≤◌, ◌<◌, ◌≡◌, Bool, true, false, List, ◌++◌, length, take, ltb, Option, Some, None, Result, Ok, Err}
use Rattle.wire.specs.Choice.{when◌then◌else◌}
use Rattle.wire.specs.Response.{response_least, response_of}
use Rattle.wire.specs.declared.span.Span.{Span}
use Rattle.messages.specs.declared.read.Output.{Output as OutputPlaces}
use Rattle.messages.specs.declared.read.Output.TheVariants.{Nothing, Version, Providers, Opcodes, Data, Offset}
use Rattle.client_responses.specs.Reading.{Asked, Reply, found}
use Rattle.client_responses.specs.State.{bytes_at, response_most, state_bytes, asked_in, bytes_in, well_formed_state, said_of}
use Rattle.client_responses.specs.Handed.{SaidPlaces, said_in, SaidWithin}
use Rattle.client_responses.specs.declared.ReadRefusal.{ReadRefusal}
use Rattle.client_responses.specs.declared.ReadFault.TheVariants.{Refused}
use Rattle.client_responses.specs.declared.look.Response.{Response}
use Rattle.client_responses.specs.declared.read.ReadAnswer.{ReadAnswer}

-- where the body lies in a state's memory
abbrev pub body_at : ℕ
body_at = bytes_at + response_least

-- ---- places, told from an earlier byte on

abbrev pub span_moved : (by : ℕ) → Span → Span
span_moved by span = record { start = by + span.start; len = span.len }

abbrev pub output_moved : (by : ℕ) → OutputPlaces → OutputPlaces
output_moved by Nothing = Nothing
output_moved by (Version major minor) = Version major minor
output_moved by (Providers span) = Providers (span_moved by span)
output_moved by (Opcodes span) = Opcodes (span_moved by span)
output_moved by (Data span) = Data (span_moved by span)
output_moved by (Offset at) = Offset at

-- ---- looking

-- what was looked at, as a call says it
abbrev pub said_as : Result (Option Response) ReadRefusal → SaidPlaces
said_as (Ok o) = Ok o
said_as (Err refusal) = Err (Refused refusal)

abbrev pub answered_as : Result (Option Response) ReadRefusal → (taken : ℕ) → ReadAnswer
answered_as looked taken = record { said = said_as looked; taken = taken }

abbrev pub is_waiting : Result (Option Response) ReadRefusal → Bool
is_waiting (Ok None) = true
is_waiting (Ok (Some response)) = false
is_waiting (Err refusal) = false

-- a whole response is more than nothing yet
abbrev pub whole : Result Response ReadRefusal → Result (Option Response) ReadRefusal
whole (Ok response) = Ok (Some response)
whole (Err refusal) = Err refusal

-- what is said of the bytes in a state's memory
pub record Looked (memory : List ℕ) (reply : Option Reply) (r : Result (Option Response) ReadRefusal) : Type 0 where
  pub said_is : said_in memory (said_as r) ≡ said_of reply
  pub within : SaidWithin (length memory) (said_as r)

-- ---- filling up

-- how many bytes must be there before more can be said
unfoldable pub wanted_of : (bytes : List ℕ) → ℕ
wanted_of bytes =
    when ltb (length bytes) 6 then 6
    else when ltb (length bytes) response_least then response_least
    else response_least + (response_of bytes).content_length

-- a state that holds the beginning of a response
pub record Holding (memory : List ℕ) : Type 0 where
  pub well : well_formed_state memory ≡ true
  pub memory_is : memory ≡ state_bytes (asked_in memory) (bytes_in memory)
  pub begun : found (asked_in memory) (bytes_in memory) ≡ None

-- k bytes of `rest` can be put behind the bytes held: nothing can be said of fewer
pub record Run (asked : Asked) (bytes rest : List ℕ) (k : ℕ) : Type 0 where
  pub one : 1 ≤ k
  pub few : length bytes + k ≤ response_most
  pub nothing_before : (j : ℕ) → j < k → j ≤ length rest → found asked (bytes ++ take j rest) ≡ None

-- k of the bytes stand behind those held: nothing can be said of fewer, and one at least is taken where there are more
pub record Filled (memory rest : List ℕ) (after : List ℕ) (k : ℕ) : Type 0 where
  pub left : k ≤ length rest
  pub few : length (bytes_in memory) + k ≤ response_most
  pub nothing_before : (j : ℕ) → j < k → found (asked_in memory) (bytes_in memory ++ take j rest) ≡ None
  pub after_is : after ≡ state_bytes (asked_in memory) (bytes_in memory ++ take k rest)
  pub more : k < length rest → 1 ≤ k
