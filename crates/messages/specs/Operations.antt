-- "Operations and their fields"; document 02, "Checking signatures": what each operation asks and answers, and the fields of its
-- bodies.
use Rattle.std.specs.Prelude.{ℕ, ◌≡◌, List, [], ◌∷◌, length, eqb, Option, Some, None}
use Rattle.wire.specs.Choice.{when◌then◌else◌}
use Rattle.keys.specs.Key.{Key}
use Rattle.messages.specs.Message.{uint32, bool, bytes, uint32s, number, flag, octets, numbers, Schema, Message, number_of, flag_of, octets_of, numbers_of, value_at}
use Rattle.messages.specs.Format.{Format, Reading, read, broken, message_bytes, read_message}

-- ---- what a request asks for

pub data Operation : Type 0 where
  ping : Operation
  list_providers : Operation
  list_opcodes : (provider : ℕ) → Operation
  import_key : Key → Operation
  destroy_key : (name : List ℕ) → Operation
  export_public_key : (name : List ℕ) → Operation
  verify_signature : (name hash signature : List ℕ) → Operation

-- the bytes of a hash (SHA-256)
abbrev pub hash_size : ℕ
hash_size = 32

abbrev pub opcode_of : Operation → ℕ
opcode_of ping = 1
opcode_of list_providers = 8
opcode_of (list_opcodes provider) = 9
opcode_of (import_key key) = 6
opcode_of (destroy_key name) = 3
opcode_of (export_public_key name) = 7
opcode_of (verify_signature name hash signature) = 5

-- provider 0 is core, 1 keystore
abbrev pub provider_of : Operation → ℕ
provider_of ping = 0
provider_of list_providers = 0
provider_of (list_opcodes provider) = 0
provider_of (import_key key) = 1
provider_of (destroy_key name) = 1
provider_of (export_public_key name) = 1
provider_of (verify_signature name hash signature) = 1

-- the fields of its body
abbrev pub input_of : Operation → Message
input_of ping = []
input_of list_providers = []
input_of (list_opcodes provider) = number provider ∷ []
input_of (import_key key) = octets key.name ∷ octets key.bytes ∷ number key.bits ∷ flag key.export_allowed ∷ flag key.verify_allowed ∷ []
input_of (destroy_key name) = octets name ∷ []
input_of (export_public_key name) = octets name ∷ []
input_of (verify_signature name hash signature) = octets name ∷ octets hash ∷ octets signature ∷ []

-- the body of the operation's request
unfoldable pub operation_body : Format → Operation → List ℕ
operation_body format operation = message_bytes format (input_of operation)

-- 1 name, 2 data (bytes), 3 bits (uint32), 4 export allowed, 5 verify allowed (bool)
abbrev pub key_of : Message → Key
key_of m = record {
  name = octets_of (value_at m 1);
  bytes = octets_of (value_at m 2);
  bits = number_of (value_at m 3);
  export_allowed = flag_of (value_at m 4);
  verify_allowed = flag_of (value_at m 5);
}

abbrev pub when_read : {A : Type 0} → (Message → A) → Reading → Option A
when_read f (read message) = Some (f message)
when_read f (broken at) = None

-- what `f` makes of a readable body
unfoldable pub read_body : {A : Type 0} → Format → Schema → (body : List ℕ) → (Message → A) → Option A
read_body format schema body f = when_read f (read_message format schema body)

-- the fields of the body that each listed opcode has
unfoldable pub input_fields : (opcode : ℕ) → Schema
input_fields opcode =
    when eqb opcode 9 then uint32 ∷ []
    else when eqb opcode 6 then bytes ∷ bytes ∷ uint32 ∷ bool ∷ bool ∷ []
    else when eqb opcode 3 then bytes ∷ []
    else when eqb opcode 7 then bytes ∷ []
    else when eqb opcode 5 then bytes ∷ bytes ∷ bytes ∷ []
    else []

-- what a body asks for, or where its first unreadable field starts
pub data Asking : Type 0 where
  asks : Operation → Asking
  garbled : (at : ℕ) → Asking

unfoldable pub asking_of : (opcode : ℕ) → Message → Asking
asking_of opcode m =
    when eqb opcode 1 then asks ping
    else when eqb opcode 8 then asks list_providers
    else when eqb opcode 9 then asks (list_opcodes (number_of (value_at m 1)))
    else when eqb opcode 6 then asks (import_key (key_of m))
    else when eqb opcode 3 then asks (destroy_key (octets_of (value_at m 1)))
    else when eqb opcode 7 then asks (export_public_key (octets_of (value_at m 1)))
    else when eqb opcode 5 then asks (verify_signature (octets_of (value_at m 1)) (octets_of (value_at m 2)) (octets_of (value_at m 3)))
    else garbled 0

abbrev pub asking_by : (opcode : ℕ) → Reading → Asking
asking_by opcode (read message) = asking_of opcode message
asking_by opcode (broken at) = garbled at

unfoldable pub asked : Format → (opcode : ℕ) (body : List ℕ) → Asking
asked format opcode body = asking_by opcode (read_message format (input_fields opcode) body)

abbrev pub operation_in : Asking → Option Operation
operation_in (asks operation) = Some operation
operation_in (garbled at) = None

-- the operation that a listed opcode and a readable body ask for
unfoldable pub operation_of : Format → (opcode : ℕ) (body : List ℕ) → Option Operation
operation_of format opcode body = operation_in (asked format opcode body)

-- ---- what a served request answers

pub data Output : Type 0 where
  nothing : Output
  version : (major minor : ℕ) → Output
  providers : List ℕ → Output
  opcodes : List ℕ → Output
  exported : (data' : List ℕ) → Output
  offset : (at : ℕ) → Output  -- where the body broke (document 02), with status 7

-- the output that each opcode has
pub data Answers : (opcode : ℕ) → Output → Type 0 where
  of_ping : {major minor : ℕ} → Answers 1 (version major minor)
  of_list_providers : {list : List ℕ} → Answers 8 (providers list)
  of_list_opcodes : {list : List ℕ} → Answers 9 (opcodes list)
  of_import : Answers 6 nothing
  of_destroy : Answers 3 nothing
  of_export : {data' : List ℕ} → Answers 7 (exported data')
  of_verify : Answers 5 nothing

-- the output that each status has
pub data Carries : (opcode status : ℕ) → Output → Type 0 where
  served : {opcode : ℕ} {output : Output} → Answers opcode output → Carries opcode 0 output
  not_read : {opcode at : ℕ} → Carries opcode 7 (offset at)
  refused : {opcode status : ℕ} → (status ≡ 0 → ⊥) → (status ≡ 7 → ⊥) → Carries opcode status nothing

abbrev pub message_of : Output → Message
message_of nothing = []
message_of (version major minor) = number major ∷ number minor ∷ []
message_of (providers list) = numbers list ∷ []
message_of (opcodes list) = numbers list ∷ []
message_of (exported data') = octets data' ∷ []
message_of (offset at) = number at ∷ []

-- the body of a response with status 0, or with 7
unfoldable pub output_bytes : Format → Output → List ℕ
output_bytes format output = message_bytes format (message_of output)

-- ---- what a response's body is read as

-- with status 0
unfoldable pub output_of : Format → (opcode : ℕ) (body : List ℕ) → Option Output
output_of format opcode body =
    when eqb opcode 1 then read_body format (uint32 ∷ uint32 ∷ []) body (λ m. version (number_of (value_at m 1)) (number_of (value_at m 2)))
    else when eqb opcode 8 then read_body format (uint32s ∷ []) body (λ m. providers (numbers_of (value_at m 1)))
    else when eqb opcode 9 then read_body format (uint32s ∷ []) body (λ m. opcodes (numbers_of (value_at m 1)))
    else when eqb opcode 6 then read_body format [] body (λ m. nothing)
    else when eqb opcode 3 then read_body format [] body (λ m. nothing)
    else when eqb opcode 7 then read_body format (bytes ∷ []) body (λ m. exported (octets_of (value_at m 1)))
    else when eqb opcode 5 then read_body format [] body (λ m. nothing)
    else None

-- with status 7
unfoldable pub offset_of : Format → (body : List ℕ) → Option Output
offset_of format body = read_body format (uint32 ∷ []) body (λ m. offset (number_of (value_at m 1)))

-- with any status: all but these two have no body
unfoldable pub answer_of : Format → (opcode status : ℕ) (body : List ℕ) → Option Output
answer_of format opcode status body =
    when eqb status 0 then output_of format opcode body
    else when eqb status 7 then offset_of format body
    else when eqb (length body) 0 then Some nothing
    else None
