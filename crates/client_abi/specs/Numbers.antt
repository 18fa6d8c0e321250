-- What the client's functions exported to C answer, as numbers. Those of a refusal are in the order in which they are judged; one
-- that is added later comes last, as 8, which is judged first.
use Rattle.std.specs.Prelude.{ℕ, ◌≡◌, List, length, Option, Some, None, Result, Ok, Err}
use Rattle.wire.specs.declared.span.Span.{Span}
use Rattle.messages.specs.declared.read.Output.{Output}
use Rattle.messages.specs.declared.read.Output.TheVariants.{Nothing, Version, Providers, Opcodes, Data, Offset}
use Rattle.client_requests.specs.Writing.{WriteOutcome}
use Rattle.client_responses.specs.State.{Beginning, ReadOutcome}
use Rattle.client_responses.specs.Handed.{handed, SaidWithin}
use Rattle.client_requests.specs.declared.WriteRefusal.{WriteRefusal}
use Rattle.client_requests.specs.declared.WriteRefusal.TheVariants.{BufferTooSmall, ApplicationNameIllegal, KeyNameIllegal, DataIllegal, BitsIllegal, HashIllegal, BodyTooLong, TypeUnlisted}
use Rattle.client_responses.specs.declared.BeginRefusal.{BeginRefusal}
use Rattle.client_responses.specs.declared.BeginRefusal.TheVariants.{WrongSize, UnlistedOpcode, UnlistedType}
use Rattle.client_responses.specs.declared.ReadRefusal.{ReadRefusal}
use Rattle.client_responses.specs.declared.ReadRefusal.TheVariants.{WrongMagic, WrongHeaderSize, WrongVersion, WrongContentType, NotItsRequests, ContentTooLong, UnreadableBody}
use Rattle.client_responses.specs.declared.look.Response.{Response}
use Rattle.client_responses.specs.declared.ReadFault.{ReadFault}
use Rattle.client_responses.specs.declared.ReadFault.TheVariants.{IllFormed, Refused}
use Rattle.client_responses.specs.declared.read.ReadAnswer.{ReadAnswer}
use Rattle.client_abi.specs.declared.write.Request.{Request}
use Rattle.client_abi.specs.declared.read.OutputNumbers.{OutputNumbers}
use Rattle.client_abi.specs.declared.read.Answer.{Answer}

-- ---- requests written

unfoldable pub refusal_number : WriteRefusal → ℕ
refusal_number BufferTooSmall = 1
refusal_number ApplicationNameIllegal = 2
refusal_number KeyNameIllegal = 3
refusal_number DataIllegal = 4
refusal_number BitsIllegal = 5
refusal_number HashIllegal = 6
refusal_number BodyTooLong = 7
refusal_number TypeUnlisted = 8

-- a refused request has no bytes
unfoldable pub request_numbers : Result ℕ WriteRefusal → Request
request_numbers (Ok length) = record { code = 0; written = length }
request_numbers (Err refusal) = record { code = refusal_number refusal; written = 0 }

-- what writing a request says, and the buffer after it
abbrev pub written_with : WriteOutcome → Request × List ℕ
written_with o = (request_numbers o.answer, o.out)

-- ---- responses read

unfoldable pub begin_refusal_number : BeginRefusal → ℕ
begin_refusal_number WrongSize = 1
begin_refusal_number UnlistedOpcode = 2
begin_refusal_number UnlistedType = 3

unfoldable pub begun_number : Result (Unit {0}) BeginRefusal → ℕ
begun_number (Ok begun) = 0
begun_number (Err refusal) = begin_refusal_number refusal

-- what beginning a state says, and the memory after it
abbrev pub began_with : Beginning → ℕ × List ℕ
began_with o = (begun_number o.answer, o.memory)

unfoldable pub read_refusal_number : ReadRefusal → ℕ
read_refusal_number WrongMagic = 3
read_refusal_number WrongHeaderSize = 4
read_refusal_number WrongVersion = 5
read_refusal_number WrongContentType = 6
read_refusal_number NotItsRequests = 7
read_refusal_number ContentTooLong = 8
read_refusal_number UnreadableBody = 9

abbrev pub placed_numbers : (kind : ℕ) → Span → OutputNumbers
placed_numbers kind span = record { kind = kind; major = 0; minor = 0; offset = 0; start = span.start; length = span.len }

unfoldable pub output_numbers : Output → OutputNumbers
output_numbers Nothing = record { kind = 0; major = 0; minor = 0; offset = 0; start = 0; length = 0 }
output_numbers (Version major minor) = record { kind = 1; major = major; minor = minor; offset = 0; start = 0; length = 0 }
output_numbers (Providers span) = placed_numbers 2 span
output_numbers (Opcodes span) = placed_numbers 3 span
output_numbers (Data span) = placed_numbers 4 span
output_numbers (Offset at) = record { kind = 5; major = 0; minor = 0; offset = at; start = 0; length = 0 }

abbrev pub without_response : (code taken : ℕ) → Answer
without_response code taken = record { code = code; status = 0; taken = taken; output = output_numbers Nothing }

abbrev pub response_numbers : (taken : ℕ) → Response → Answer
response_numbers taken response = record { code = 1; status = response.status; taken = taken; output = output_numbers response.output }

unfoldable pub said_numbers : (taken : ℕ) → Result (Option Response) ReadFault → Answer
said_numbers taken (Ok None) = without_response 0 taken
said_numbers taken (Ok (Some response)) = response_numbers taken response
said_numbers taken (Err IllFormed) = without_response 2 taken
said_numbers taken (Err (Refused refusal)) = without_response (read_refusal_number refusal) taken

abbrev pub answer_numbers : ReadAnswer → Answer
answer_numbers answer = said_numbers answer.taken answer.said

-- the numbers are those of an answer that, its places read in the memory after the call, is the outcome; the places lie within it
abbrev pub Says : (memory : List ℕ) → ReadOutcome → Answer → Type 0
Says memory outcome numbers =
    (answer : ReadAnswer) × ((numbers ≡ answer_numbers answer) × ((handed memory answer ≡ outcome) × SaidWithin (length memory) answer.said))
