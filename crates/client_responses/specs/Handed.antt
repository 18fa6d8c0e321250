-- What a call hands back, by the memory after it: its places read as their bytes there; and the contract of a call.
use Rattle.std.specs.Prelude.{◌≡◌, ℕ, List, Option, Some, None, Result, Ok, Err}
use Rattle.wire.specs.Numbers.{field}
use Rattle.messages.specs.Formats.{format_for}
use Rattle.messages.specs.Placed.{output_in, OutputWithin}
use Rattle.messages.specs.declared.format.BodyFormat.{BodyFormat}
use Rattle.client_responses.specs.Reading.{answered, refused}
use Rattle.client_responses.specs.State.{accept_at, Said, ill_formed, waiting, said, ReadOutcome, read_outcome}
use Rattle.client_responses.specs.declared.ReadFault.{ReadFault}
use Rattle.client_responses.specs.declared.ReadFault.TheVariants.{IllFormed, Refused}
use Rattle.client_responses.specs.declared.look.Response.{Response}
use Rattle.client_responses.specs.declared.read.ReadAnswer.{ReadAnswer}

-- the format that was asked for
abbrev pub format_in : (memory : List ℕ) → BodyFormat
format_in memory = format_for (field accept_at 1 memory)

-- what a call said
abbrev pub SaidPlaces : Type 0
SaidPlaces = Result (Option Response) ReadFault

abbrev pub said_in : (memory : List ℕ) → SaidPlaces → Said
said_in memory (Ok None) = waiting
said_in memory (Ok (Some response)) = said (answered response.status (output_in (format_in memory) memory response.output))
said_in memory (Err IllFormed) = ill_formed
said_in memory (Err (Refused refusal)) = said (refused refusal)

abbrev pub handed : (memory : List ℕ) → ReadAnswer → ReadOutcome
handed memory answer = record { said = said_in memory answer.said; taken = answer.taken; memory = memory }

-- THE CONTRACT of `read`, but that its places lie within the memory: what it says, takes and leaves is the outcome
abbrev pub ReadContract : (before chunk : List ℕ) → ReadAnswer → (after : List ℕ) → Type 0
ReadContract before chunk answer after = handed after answer ≡ read_outcome before chunk

-- the places lie within so many bytes
abbrev pub SaidWithin : (most : ℕ) → SaidPlaces → Type 0
SaidWithin most (Ok None) = Unit {0}
SaidWithin most (Ok (Some response)) = OutputWithin most response.output
SaidWithin most (Err fault) = Unit {0}
