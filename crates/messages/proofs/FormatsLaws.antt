-- Both formats are lawful: a message written is read as itself. And how long bodies are at most in either.
use Prim.Native.Nat.{ℕ, ◌+◌, ◌*◌, ◌≤◌}
use native.Mathlib.Omega.{arith}
use mathlib.Core.Path.{◌≡◌, refl, ap}
use mathlib.Core.Bool.{Bool, true}
use mathlib.Core.List.{List, [], ◌∷◌}
use lib.ListN.{length, length-append}
use lib.Dec.{ltb, eqb}
use Rattle.wire.specs.Choice.{when◌then◌else◌}
use Rattle.wire.specs.Lists.{all}
use Rattle.wire.proofs.TestLaws.{either}
use Rattle.keys.specs.Key.{Key, data_most}
use Rattle.messages.specs.Message.{number, flag, octets, numbers}
use Rattle.messages.specs.Format.{Format, message_bytes}
use Rattle.messages.specs.Claims.{ReadsBack}
use Rattle.messages.specs.Tagged.{value_bytes}
use Rattle.messages.specs.Formats.{format_of}
use Rattle.messages.specs.Opcodes.{core_opcodes, keystore_opcodes, opcodes_of}
use Rattle.messages.specs.Operations.{list_opcodes, import_key, verify_signature, operation_body, nothing, version, providers, opcodes, exported, offset, output_bytes}
use Rattle.messages.specs.code.Bodies.{field_room, bytes_body_room, key_numbers, key_body_room}
use Rattle.messages.specs.declared.format.BodyFormat.{BodyFormat}
use Rattle.messages.specs.declared.format.BodyFormat.TheVariants.{Protobuf, Tagged}
use Rattle.messages.proofs.RoundTrip.{Lawful, round_trip}
use Rattle.messages.proofs.OperationLaws.{operation_back, answer_back}
use Rattle.messages.proofs.ProtobufLaws.{protobuf_lawful}
use Rattle.messages.proofs.TaggedLaws.{tagged_lawful, list_length}
use Rattle.messages.proofs.WriteLaws.{provider_body, one_body, key_body_lem, verify_body, offset_body, version_body, list_field, number_within, bytes_within, bytes_room, bytes_field_least}
use Rattle.messages.proofs.TaggedWriteLaws.{tagged_within, tagged_least, one_most, four_most}

pub lawful : (f : BodyFormat) → Lawful (format_of f)
lawful Protobuf = protobuf_lawful
lawful Tagged = tagged_lawful

-- A MESSAGE WRITTEN IS READ AS ITSELF, and so is what is asked and what is answered
pub reads_back : (format : Format) → Lawful format → ReadsBack format
reads_back format law = record {
  message = round_trip format law;
  operation = operation_back format law;
  answer = answer_back format law;
}

pub body_reads_back : (f : BodyFormat) → ReadsBack (format_of f)
body_reads_back f = reads_back (format_of f) (lawful f)

-- ---- the bodies of responses

pub nothing_bytes : (f : BodyFormat) → output_bytes (format_of f) nothing ≡ []
unfolding output_bytes message_bytes
nothing_bytes f = refl

number_most_lem : (f : BodyFormat) (n v : ℕ) → length ((format_of f).bytes_of n (number v)) ≤ field_room
number_most_lem Protobuf n v = number_within n v
number_most_lem Tagged n v = omega (arith, tagged_within n (value_bytes (number v)), four_most v)

list_most_lem : (f : BodyFormat) (list : List ℕ) → all (λ n. ltb n 128) list ≡ true → length list ≤ data_most
    → length ((format_of f).bytes_of 1 (numbers list)) ≤ 3 + 4 * length list
list_most_lem Protobuf list h short = omega (arith, ap length (list_field 1 list h), bytes_within list short)
list_most_lem Tagged list h short = omega (arith, tagged_within 1 (value_bytes (numbers list)), list_length list)

bytes_most : (f : BodyFormat) (bytes : List ℕ) → length bytes ≤ data_most → length ((format_of f).bytes_of 1 (octets bytes)) ≤ 3 + length bytes
bytes_most Protobuf bytes h = bytes_within bytes h
bytes_most Tagged bytes h = omega (arith, tagged_within 1 bytes)

-- but for exported data
abbrev pub short_most : ℕ
short_most = 2 * field_room

module _ (f : BodyFormat) where
  pub version_short : (major minor : ℕ) → length (output_bytes (format_of f) (version major minor)) ≤ short_most
  version_short major minor =
      omega (arith, ap length (version_body (format_of f) major minor), length-append ((format_of f).bytes_of 1 (number major)) ((format_of f).bytes_of 2 (number minor)), number_most_lem f 1 major, number_most_lem f 2 minor)

  pub offset_short : (at : ℕ) → length (output_bytes (format_of f) (offset at)) ≤ short_most
  offset_short at = omega (arith, ap length (offset_body (format_of f) at), number_most_lem f 1 at)

  list_short : (list : List ℕ) → all (λ n. ltb n 128) list ≡ true → length list ≤ 4 → length (message_bytes (format_of f) (numbers list ∷ [])) ≤ short_most
  list_short list h short = omega (arith, ap length (one_body (format_of f) (numbers list)), list_most_lem f list h (omega arith))

  pub providers_short : length (output_bytes (format_of f) (providers (0 ∷ 1 ∷ []))) ≤ short_most
  unfolding output_bytes
  providers_short = list_short (0 ∷ 1 ∷ []) refl (omega arith)

  pub opcodes_short : (provider : ℕ) → length (output_bytes (format_of f) (opcodes (opcodes_of provider))) ≤ short_most
  unfolding output_bytes opcodes_of
  opcodes_short provider =
      either (λ (list : List ℕ). length (message_bytes (format_of f) (numbers list ∷ [])) ≤ short_most) (eqb provider 0)
      (λ _. list_short core_opcodes refl (omega arith)) (λ _. list_short keystore_opcodes refl (omega arith))

  pub exported_short : (data' : List ℕ) → length data' ≤ data_most → length (output_bytes (format_of f) (exported data')) ≤ 3 + data_most
  unfolding output_bytes
  exported_short data' h = omega (arith, ap length (one_body (format_of f) (octets data')), bytes_most f data' h)

-- ---- the bodies of requests

field_room_lem : (f : BodyFormat) (n : ℕ) (bytes : List ℕ) → length ((format_of f).bytes_of n (octets bytes)) ≤ length bytes + field_room
field_room_lem Protobuf n bytes = bytes_room n bytes
field_room_lem Tagged n bytes = omega (arith, tagged_within n bytes)

field_least : (f : BodyFormat) (n : ℕ) (bytes : List ℕ) → length bytes ≤ length ((format_of f).bytes_of n (octets bytes))
field_least Protobuf n bytes = bytes_field_least n bytes
field_least Tagged n bytes = tagged_least n bytes

flag_room : (f : BodyFormat) (n : ℕ) (b : Bool) → length ((format_of f).bytes_of n (flag b)) ≤ field_room
flag_room Protobuf n b = number_within n (when b then 1 else 0)
flag_room Tagged n b = omega (arith, tagged_within n (value_bytes (flag b)), one_most b)

module _ (f : BodyFormat) where
  pub provider_body_short : (provider : ℕ) → length (operation_body (format_of f) (list_opcodes provider)) ≤ field_room
  provider_body_short provider = omega (arith, ap length (provider_body (format_of f) provider), number_most_lem f 1 provider)

  pub bytes_body_short : (bytes : List ℕ) → length (message_bytes (format_of f) (octets bytes ∷ [])) ≤ bytes_body_room bytes
  bytes_body_short bytes = omega (arith, ap length (one_body (format_of f) (octets bytes)), field_room_lem f 1 bytes)

  pub key_body_short : (key : Key) → length (operation_body (format_of f) (import_key key)) ≤ key_body_room key.name key.bytes
  unfolding key_numbers
  key_body_short key =
      let name = field_room_lem f 1 key.name in
      let bytes = field_room_lem f 2 key.bytes in
      let bits = number_most_lem f 3 key.bits in
      let exported = flag_room f 4 key.export_allowed in
      let verified = flag_room f 5 key.verify_allowed in
      rw (key_body_lem (format_of f)) (simp length-append (omega arith))

  module _ (name hash signature : List ℕ) where
    pub verify_body_length : length (operation_body (format_of f) (verify_signature name hash signature))
        ≡ length ((format_of f).bytes_of 1 (octets name)) + length ((format_of f).bytes_of 2 (octets hash)) + length ((format_of f).bytes_of 3 (octets signature))
    verify_body_length = rw (verify_body (format_of f)) (simp length-append refl)

    -- at least what it carries
    pub verify_body_least : length name + length hash + length signature ≤ length (operation_body (format_of f) (verify_signature name hash signature))
    verify_body_least = omega (arith, verify_body_length, field_least f 1 name, field_least f 2 hash, field_least f 3 signature)
