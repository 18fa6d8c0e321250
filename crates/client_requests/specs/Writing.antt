-- A request written for an operation (document 02, "The client's half", "Checking signatures", "A second body format").
use Rattle.std.specs.Prelude.{ℕ, Bool, true, not, ◌&&◌, List, [], ◌∷◌, length, ltb, leb, eqb, Option, Some, None, Result, Ok, Err}
use Rattle.wire.specs.Choice.{when◌then◌else◌, first_of}
use Rattle.wire.specs.Lists.{one_of, over}
use Rattle.wire.specs.Request.{content_most, Request, request_bytes}
use Rattle.keys.specs.Names.{application_name_most, key_name_most, legal_name}
use Rattle.keys.specs.Key.{legal_data, import_bits}
use Rattle.messages.specs.Formats.{format_of, format_for, content_types}
use Rattle.messages.specs.Operations.{Operation, ping, list_providers, list_opcodes, import_key, destroy_key, export_public_key, verify_signature, opcode_of, provider_of, operation_body}
pub use Rattle.messages.specs.Operations.{hash_size}
use Rattle.messages.specs.declared.format.BodyFormat.{BodyFormat}
use Rattle.client_requests.specs.declared.Types.{Types}
use Rattle.client_requests.specs.declared.WriteRefusal.{WriteRefusal}
use Rattle.client_requests.specs.declared.WriteRefusal.TheVariants.{BufferTooSmall, ApplicationNameIllegal, KeyNameIllegal, DataIllegal, BitsIllegal, HashIllegal, BodyTooLong, TypeUnlisted}

-- ---- the request

-- who asks: nobody that is named, or an application
abbrev pub Sender : Type 0
Sender = Option (List ℕ)

abbrev pub sender_of : (named : Bool) (application : List ℕ) → Sender
sender_of named application = when named then Some application else None

abbrev pub auth_type_of : Sender → ℕ
auth_type_of None = 0
auth_type_of (Some name) = 1

abbrev pub auth_of : Sender → List ℕ
auth_of None = []
auth_of (Some name) = name

-- around a body, of version 1.0
abbrev pub request_around : (session : ℕ) → Types → Sender → (provider opcode : ℕ) (body : List ℕ) → Request
request_around session types sender provider opcode body = record {
  major = 1;
  minor = 0;
  provider = provider;
  session = session;
  content_type = types.content;
  accept_type = types.accept;
  auth_type = auth_type_of sender;
  opcode = opcode;
  body = body;
  auth = auth_of sender;
}

-- the format that the body is written in
abbrev pub body_format : Types → BodyFormat
body_format types = format_for types.content

unfoldable pub request_for : (session : ℕ) → Types → Sender → Operation → Request
request_for session types sender operation =
    request_around session types sender (provider_of operation) (opcode_of operation) (operation_body (format_of (body_format types)) operation)

-- ---- what is refused, before a byte is written: a type that is neither 1 nor 2; a buffer below 5,120 bytes; names; data; bits;
-- hash; body

abbrev pub request_buffer_least : ℕ
request_buffer_least = 5120

abbrev pub legal_types : Types → Bool
legal_types types = one_of content_types types.content && one_of content_types types.accept

abbrev pub legal_sender : Sender → Bool
legal_sender None = true
legal_sender (Some name) = legal_name application_name_most name

abbrev pub key_name_test : (name : List ℕ) → Bool × WriteRefusal
key_name_test name = (not (legal_name key_name_most name), KeyNameIllegal)

-- verify's body as it would be written; those of the others are short
abbrev pub legal_body : BodyFormat → (name hash signature : List ℕ) → Bool
legal_body format name hash signature = leb (length (operation_body (format_of format) (verify_signature name hash signature))) content_most

-- of what each operation carries
abbrev pub field_tests : BodyFormat → Operation → List (Bool × WriteRefusal)
field_tests format ping = []
field_tests format list_providers = []
field_tests format (list_opcodes provider) = []
field_tests format (import_key key) = key_name_test key.name ∷ (not (legal_data key.bytes), DataIllegal) ∷ (not (import_bits key.bits), BitsIllegal) ∷ []
field_tests format (destroy_key name) = key_name_test name ∷ []
field_tests format (export_public_key name) = key_name_test name ∷ []
field_tests format (verify_signature name hash signature) =
    key_name_test name ∷ (not (eqb (length hash) hash_size), HashIllegal) ∷ (not (legal_body format name hash signature), BodyTooLong) ∷ []

unfoldable pub write_tests : (out : List ℕ) → Types → Sender → Operation → List (Bool × WriteRefusal)
write_tests out types sender operation =
    (not (legal_types types), TypeUnlisted)
    ∷ (ltb (length out) request_buffer_least, BufferTooSmall)
    ∷ (not (legal_sender sender), ApplicationNameIllegal)
    ∷ field_tests (body_format types) operation

-- ---- WRITING'S WHOLE OUTCOME

pub record WriteOutcome : Type 0 where
  pub answer : Result ℕ WriteRefusal
  pub out : List ℕ

-- the request over the front of the buffer, or the first refusal that applies and the buffer as it came
unfoldable pub write_outcome : (out : List ℕ) (session : ℕ) → Types → Sender → Operation → WriteOutcome
write_outcome out session types sender operation =
    let bytes = request_bytes (request_for session types sender operation) in
    elim (first_of (write_tests out types sender operation)) [
      | Some refusal ↦ record { answer = Err refusal; out = out }
      | None ↦ record { answer = Ok (length bytes); out = over bytes out }
    ]
