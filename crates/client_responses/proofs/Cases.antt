-- Responses read, whole, cut and damaged, computed from the definitions.
use Rattle.std.proofs.Common.{Some, None}
use Prim.Native.Nat.{ℕ}
use mathlib.Core.Path.{◌≡◌, refl}
use mathlib.Core.List.{List, [], ◌∷◌, ◌++◌}
use Rattle.wire.specs.Choice.{first_of}
use Rattle.wire.specs.Lists.{one_of}
use Rattle.wire.specs.Numbers.{little_endian, little_endian_of, field}
use Rattle.wire.specs.Response.{response_header, response_of}
use Rattle.wire.specs.Scan.{scan_from, scan_at}
use Rattle.protobuf.specs.Varint.{varint_of}
use Rattle.protobuf.specs.Field.{number_at, fixed_at, span_at, content_at, field_at}
use Rattle.messages.specs.Format.{listed, read_message}
use Rattle.messages.specs.Protobuf.{packed_of}
use Rattle.messages.specs.Formats.{format_for}
use Rattle.messages.specs.Operations.{nothing, version, providers, exported, offset, read_body, output_of, offset_of, answer_of}
use Rattle.client_responses.specs.Reading.{Asked, answered, refused, is_its, is_invalid_header, type_for, header_tests, body_reply, found_behind, found}
use Rattle.client_responses.specs.declared.ReadRefusal.TheVariants.{WrongMagic, WrongHeaderSize, WrongContentType, NotItsRequests, ContentTooLong, UnreadableBody}

-- a request of the session 7
abbrev asks : (opcode : ℕ) → Asked
asks opcode = record { opcode = opcode; session = 7; accept_type = 1 }

-- and one that asks for format 2
abbrev asks2 : (opcode : ℕ) → Asked
asks2 opcode = record { opcode = opcode; session = 7; accept_type = 2 }

-- the header of the answer to it
abbrev header : (provider content_length opcode status : ℕ) → List ℕ
header provider content_length opcode status = response_header provider 7 1 content_length opcode status

pub cases :
    (found (asks 1) (header 0 2 1 0 ++ (0x08 ∷ 0x01 ∷ [])) ≡ Some (answered 0 (version 1 0)))
    × (found (asks 1) (header 0 2 1 0 ++ (0x08 ∷ [])) ≡ None)
    × (found (asks 8) (header 0 4 8 0 ++ (0x0A ∷ 0x02 ∷ 0x00 ∷ 0x01 ∷ [])) ≡ Some (answered 0 (providers (0 ∷ 1 ∷ []))))
    × (found (asks 8) (header 0 0 8 0) ≡ Some (answered 0 (providers [])))
    × (found (asks 7) (header 1 4 7 0 ++ (0x0A ∷ 0x02 ∷ 0xAA ∷ 0xBB ∷ [])) ≡ Some (answered 0 (exported (0xAA ∷ 0xBB ∷ []))))
    × (found (asks 6) (header 1 0 6 1139) ≡ Some (answered 1139 nothing))
    × (found (asks 6) (header 1 1 6 1139 ++ (0x00 ∷ [])) ≡ Some (refused UnreadableBody))
    × (found (asks 6) (header 1 0 6 7) ≡ Some (answered 7 (offset 0)))
    × (found (asks 6) (header 1 4 6 7 ++ (0x08 ∷ 0x05 ∷ 0x08 ∷ 0x0C ∷ [])) ≡ Some (answered 7 (offset 12)))
    × (found (asks 6) (header 1 1 6 7 ++ (0x08 ∷ [])) ≡ Some (refused UnreadableBody))
    × (found (asks 6) (response_header 0 0 1 0 0 17) ≡ Some (answered 17 nothing))
    × (found (asks 6) (response_header 0 0 1 1 0 17) ≡ Some (refused NotItsRequests))
    × (found (asks 6) (response_header 1 8 1 0 6 0) ≡ Some (refused NotItsRequests))
    × (found (asks 6) (header 0 0 6 0) ≡ Some (refused NotItsRequests))
    × (found (asks 7) (header 1 998 7 0) ≡ None)
    × (found (asks 7) (header 1 999 7 0) ≡ Some (refused ContentTooLong))
    × (found (asks2 8) (header 0 0 8 0) ≡ Some (refused WrongContentType))
    × (found (asks 8) (response_header 0 7 2 0 8 0) ≡ Some (refused WrongContentType))
    × (found (asks2 8) (response_header 0 0 1 0 0 17) ≡ Some (answered 17 nothing))
    × (found (asks2 8) (response_header 0 7 2 0 8 17) ≡ Some (refused WrongContentType))
    × (found (asks 1) (0x10 ∷ 0xA7 ∷ 0xC0 ∷ 0x5E ∷ 22 ∷ 0 ∷ []) ≡ Some (refused WrongHeaderSize))
    × (found (asks 1) (0x10 ∷ 0xA7 ∷ 0xC0 ∷ 0x5F ∷ 22 ∷ 0 ∷ []) ≡ Some (refused WrongMagic))
    × (found (asks 1) (0x10 ∷ 0xA7 ∷ 0xC0 ∷ 0x5F ∷ 22 ∷ []) ≡ None)
unfolding found found_behind header_tests is_its is_invalid_header type_for format_for body_reply first_of one_of little_endian little_endian_of field response_header response_of answer_of offset_of output_of read_body read_message listed packed_of scan_from scan_at varint_of number_at fixed_at span_at content_at field_at
cases = (refl, refl, refl, refl, refl, refl, refl, refl, refl, refl, refl, refl, refl, refl, refl, refl, refl, refl, refl, refl, refl, refl, refl)
