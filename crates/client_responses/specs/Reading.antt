-- A response read, uncut (document 02, "The client's half").
use Rattle.std.specs.Prelude.{ℕ, ◌+◌, Bool, not, ◌&&◌, ◌||◌, List, [], ◌∷◌, ◌++◌, length, take, drop, ltb, eqb, Option, Some, None, is_some}
use Rattle.wire.specs.Choice.{when◌then◌else◌, first_of}
use Rattle.wire.specs.Lists.{every, one_of}
use Rattle.wire.specs.Request.{magic_number, magic, header_size}
use Rattle.wire.specs.Response.{response_header_size, response_least, response_of}
use Rattle.wire.specs.declared.response.ResponseHeader.{ResponseHeader}
use Rattle.reading.specs.Reader.{Reader}
use Rattle.messages.specs.Formats.{format_of, format_for}
use Rattle.messages.specs.Opcodes.{core_opcodes}
use Rattle.messages.specs.Operations.{Output, answer_of}
use Rattle.messages.specs.declared.format.BodyFormat.{BodyFormat}
-- the request that is answered: its opcode, session and accept type
pub use Rattle.client_responses.specs.declared.Asked.{Asked}
use Rattle.client_responses.specs.declared.ReadRefusal.{ReadRefusal}
use Rattle.client_responses.specs.declared.ReadRefusal.TheVariants.{WrongMagic, WrongHeaderSize, WrongVersion, WrongContentType, NotItsRequests, ContentTooLong, UnreadableBody}

-- provider 0 is core, 1 keystore
abbrev pub provider_for : (opcode : ℕ) → ℕ
provider_for opcode = when one_of core_opcodes opcode then 0 else 1

-- ---- what a response is read as

pub data Reply : Type 0 where
  answered : (status : ℕ) → Output → Reply
  refused : ReadRefusal → Reply

-- ---- the header, once it is whole

abbrev pub response_content_most : ℕ
response_content_most = 998

-- its opcode, session and provider are its request's
unfoldable pub is_its : (opcode session : ℕ) → ResponseHeader → Bool
is_its opcode session h =
    every (eqb h.opcode opcode ∷ eqb h.session session ∷ eqb h.provider (provider_for opcode) ∷ [])

-- the content type that it must have: the accept type that was sent, with status 17 always 1
unfoldable pub type_for : (accept_type status : ℕ) → ℕ
type_for accept_type status = when eqb status 17 then 1 else accept_type

-- status 17 with these three zero and no content, which is read as it stands
unfoldable pub is_invalid_header : ResponseHeader → Bool
is_invalid_header h =
    every (eqb h.status 17 ∷ eqb h.opcode 0 ∷ eqb h.session 0 ∷ eqb h.provider 0 ∷ eqb h.content_length 0 ∷ [])

unfoldable pub header_tests : Asked → ResponseHeader → List (Bool × ReadRefusal)
header_tests asked h =
    (not (eqb h.major 1 && eqb h.minor 0), WrongVersion)
    ∷ (not (eqb h.content_type (type_for asked.accept_type h.status)), WrongContentType)
    ∷ (not (is_its asked.opcode asked.session h || is_invalid_header h), NotItsRequests)
    ∷ (ltb response_content_most h.content_length, ContentTooLong)
    ∷ []

-- ---- the body, once it is whole

abbrev pub of_output : (status : ℕ) → Option Output → Reply
of_output status None = refused UnreadableBody
of_output status (Some output) = answered status output

unfoldable pub body_reply : BodyFormat → (opcode status : ℕ) (body : List ℕ) → Reply
body_reply format opcode status body = of_output status (answer_of (format_of format) opcode status body)

-- ---- what bytes are read as, if that can be said yet

-- behind a whole header
unfoldable pub found_behind : Asked → ResponseHeader → (bytes : List ℕ) → Option Reply
found_behind asked h bytes = elim (first_of (header_tests asked h)) [
  | Some refusal ↦ Some (refused refusal)
  | None ↦
      when ltb (length bytes) (response_least + h.content_length) then None
      else Some (body_reply (format_for asked.accept_type) asked.opcode h.status (take h.content_length (drop response_least bytes)))
]

unfoldable pub found : Asked → (bytes : List ℕ) → Option Reply
found asked bytes =
    when ltb (length bytes) 6 then None
    else when not (eqb (magic bytes) magic_number) then Some (refused WrongMagic)
    else when not (eqb (header_size bytes) response_header_size) then Some (refused WrongHeaderSize)
    else when ltb (length bytes) response_least then None
    else found_behind asked (response_of bytes) bytes

-- THE READER: it keeps the bytes, and ends with a response or a refusal
unfoldable pub response_reader : Asked → Reader (List ℕ) Reply
response_reader asked = record {
  byte = λ bytes b. record { kept = bytes ++ (b ∷ []); event = found asked (bytes ++ (b ∷ [])) };
  ended = λ bytes. is_some (found asked bytes);
}
