-- Document 01's bodies, one of Verify, some damaged lists, and fields that are skipped, computed from the definitions.
use Prim.Native.Nat.{ℕ}
use mathlib.Core.Path.{◌≡◌, refl}
use mathlib.Core.Bool.{true, false}
use mathlib.Core.List.{List, [], ◌∷◌, ◌++◌, flat_map}
use lib.ListN.{replicate}
use Rattle.wire.specs.Numbers.{little_endian, little_endian_of, field}
use Rattle.wire.specs.Scan.{scan_from, scan_at}
use Rattle.records.specs.Records.{is_whole}
use Rattle.keys.specs.Key.{Key}
use Rattle.protobuf.specs.Varint.{varint_of}
use Rattle.protobuf.specs.Field.{number_at, fixed_at, span_at, content_at, field_at}
use Rattle.protobuf.specs.Group.{group_at}
use Rattle.protobuf.specs.Written.{varint_within, varint, number_field, bytes_field, packed_field}
use Rattle.messages.specs.Message.{uint32, bool, bytes, uint32s, octets, numbers}
use Rattle.messages.specs.Format.{listed, message_bytes, Reading, read, broken, read_message}
use Rattle.messages.specs.Protobuf.{packed_of, protobuf}
use Rattle.messages.specs.Tagged.{tagged_field, tagged_at, tagged}
use Rattle.messages.specs.Operations.{import_key, verify_signature, operation_body, version, providers, offset, output_bytes}
use Rattle.messages.specs.Placed.{first_entries}

-- key `a`, data AA BB, 2,048 bits, export allowed
abbrev key_a : Key
key_a = record { name = 0x61 ∷ []; bytes = 0xAA ∷ 0xBB ∷ []; bits = 2048; export_allowed = true; verify_allowed = false }

pub cases :
    (operation_body protobuf (import_key key_a) ≡ 0x0A ∷ 0x01 ∷ 0x61 ∷ 0x12 ∷ 0x02 ∷ 0xAA ∷ 0xBB ∷ 0x18 ∷ 0x80 ∷ 0x10 ∷ 0x20 ∷ 0x01 ∷ [])
    × (operation_body protobuf (verify_signature (0x61 ∷ []) (0xAA ∷ 0xBB ∷ []) (0xCC ∷ [])) ≡ 0x0A ∷ 0x01 ∷ 0x61 ∷ 0x12 ∷ 0x02 ∷ 0xAA ∷ 0xBB ∷ 0x1A ∷ 0x01 ∷ 0xCC ∷ [])
    × (output_bytes protobuf (version 1 0) ≡ 0x08 ∷ 0x01 ∷ [])
    × (output_bytes protobuf (offset 0) ≡ [])
    × (output_bytes protobuf (offset 300) ≡ 0x08 ∷ 0xAC ∷ 0x02 ∷ [])
    × (output_bytes protobuf (providers (0 ∷ 1 ∷ [])) ≡ 0x0A ∷ 0x02 ∷ 0x00 ∷ 0x01 ∷ [])
    × (read_message protobuf (uint32s ∷ []) (0x0A ∷ 0x01 ∷ 0x07 ∷ 0x0A ∷ 0x02 ∷ 0x00 ∷ 0x01 ∷ []) ≡ read (numbers (0 ∷ 1 ∷ []) ∷ []))
    × (read_message protobuf (uint32s ∷ []) (0x0A ∷ 0x00 ∷ 0x0A ∷ 0x01 ∷ 0x80 ∷ 0x0A ∷ 0x02 ∷ 0x00 ∷ 0x01 ∷ []) ≡ broken 2)
    × (read_message protobuf (uint32s ∷ []) (0x08 ∷ 0x01 ∷ []) ≡ read (numbers [] ∷ []))
    × (first_entries (0x05 ∷ 0x80 ∷ []) ≡ 5 ∷ [])  -- so that this is no empty list's place
unfolding operation_body output_bytes message_bytes read_message listed packed_of first_entries scan_from scan_at varint_of number_at fixed_at span_at content_at field_at varint_within varint number_field bytes_field packed_field flat_map
cases = (refl, refl, refl, refl, refl, refl, refl, refl, refl, refl)

-- ---- fields that are skipped, in a body with bytes as its one field

abbrev name_read : List ℕ → Reading
name_read body = read_message protobuf (bytes ∷ []) body

abbrev named : List ℕ → Reading
named name = read (octets name ∷ [])

-- groups of number 1, so many inside each other
abbrev groups : (depth : ℕ) → List ℕ
groups depth = replicate depth 0x0B ++ replicate depth 0x0C

pub skipping_cases :
    (name_read (0x10 ∷ 0x05 ∷ 0x0A ∷ 0x01 ∷ 0x61 ∷ 0x1D ∷ 0x00 ∷ 0x00 ∷ 0x00 ∷ 0x00 ∷ []) ≡ named (0x61 ∷ []))  -- unlisted numbers
    × (name_read (0x0A ∷ 0x01 ∷ 0x61 ∷ 0x08 ∷ 0x07 ∷ []) ≡ named (0x61 ∷ []))  -- another wire type: the good field stands
    × (name_read (0x0A ∷ 0x01 ∷ 0x61 ∷ 0x0B ∷ 0x0A ∷ 0x01 ∷ 0x62 ∷ 0x0C ∷ []) ≡ named (0x61 ∷ []))  -- a listed number in a group
    × (name_read (groups 16 ++ groups 16) ≡ named [])
    × (name_read (groups 17) ≡ broken 0)
    × (name_read (0x10 ∷ 0x05 ∷ 0x0B ∷ 0x13 ∷ 0x0C ∷ 0x14 ∷ []) ≡ broken 2)  -- an end of another number
    × (name_read (0x10 ∷ 0x05 ∷ 0x0C ∷ []) ≡ broken 2)  -- a stray end
    × (name_read (0x0B ∷ 0x00 ∷ 0x00 ∷ 0x0C ∷ []) ≡ broken 0)  -- field number 0
    × (name_read (0x16 ∷ []) ≡ broken 0)  -- wire type 6
    × (name_read (0x0B ∷ 0x17 ∷ 0x0C ∷ []) ≡ broken 0)  -- wire type 7
    × (name_read (0x0B ∷ 0x10 ∷ 0x05 ∷ []) ≡ broken 0)  -- a group that is cut
unfolding read_message listed scan_from scan_at varint_of number_at fixed_at span_at content_at field_at group_at
skipping_cases = (refl, refl, refl, refl, refl, refl, refl, refl, refl, refl, refl)

-- ---- format 2

pub tagged_cases :
    (operation_body tagged (import_key key_a)
    ≡ 0x01 ∷ 0x01 ∷ 0x00 ∷ 0x61 ∷ 0x02 ∷ 0x02 ∷ 0x00 ∷ 0xAA ∷ 0xBB ∷ 0x03 ∷ 0x04 ∷ 0x00 ∷ 0x00 ∷ 0x08 ∷ 0x00 ∷ 0x00 ∷ 0x04 ∷ 0x01 ∷ 0x00 ∷ 0x01 ∷ [])
    × (output_bytes tagged (version 1 0) ≡ 0x01 ∷ 0x04 ∷ 0x00 ∷ 0x01 ∷ 0x00 ∷ 0x00 ∷ 0x00 ∷ [])
    × (output_bytes tagged (providers (0 ∷ 1 ∷ [])) ≡ 0x01 ∷ 0x08 ∷ 0x00 ∷ 0x00 ∷ 0x00 ∷ 0x00 ∷ 0x00 ∷ 0x01 ∷ 0x00 ∷ 0x00 ∷ 0x00 ∷ [])
    × (output_bytes tagged (offset 0) ≡ [])
    × (read_message tagged (bytes ∷ bytes ∷ []) (0x02 ∷ 0x01 ∷ 0x00 ∷ 0x61 ∷ []) ≡ read (octets [] ∷ octets (0x61 ∷ []) ∷ []))
    × (read_message tagged (bytes ∷ bytes ∷ []) (0x02 ∷ 0x01 ∷ 0x00 ∷ 0x61 ∷ 0x01 ∷ 0x01 ∷ 0x00 ∷ 0x61 ∷ []) ≡ broken 4)  -- falling
    × (read_message tagged (bytes ∷ []) (0x01 ∷ 0x01 ∷ 0x00 ∷ 0x61 ∷ 0x01 ∷ 0x01 ∷ 0x00 ∷ 0x61 ∷ []) ≡ broken 4)  -- repeated
    × (read_message tagged (bytes ∷ []) (0x01 ∷ 0x01 ∷ 0x00 ∷ 0x61 ∷ 0x02 ∷ 0x01 ∷ 0x00 ∷ 0x61 ∷ []) ≡ broken 4)  -- unlisted
    × (read_message tagged (bytes ∷ []) (0x01 ∷ 0x00 ∷ 0x00 ∷ []) ≡ broken 0)  -- empty
    × (read_message tagged (uint32 ∷ []) (0x01 ∷ 0x04 ∷ 0x00 ∷ 0x00 ∷ 0x00 ∷ 0x00 ∷ 0x00 ∷ []) ≡ broken 0)  -- zero
    × (read_message tagged (uint32 ∷ []) (0x01 ∷ 0x03 ∷ 0x00 ∷ 0x01 ∷ 0x00 ∷ 0x00 ∷ []) ≡ broken 0)  -- three bytes
    × (read_message tagged (bool ∷ []) (0x01 ∷ 0x01 ∷ 0x00 ∷ 0x02 ∷ []) ≡ broken 0)  -- a bool of 2
    × (read_message tagged (uint32s ∷ []) (0x01 ∷ 0x05 ∷ 0x00 ∷ 0x01 ∷ 0x00 ∷ 0x00 ∷ 0x00 ∷ 0x02 ∷ []) ≡ broken 0)  -- a list not of fours
    × (read_message tagged (bytes ∷ []) (0x01 ∷ 0x02 ∷ 0x00 ∷ 0x61 ∷ []) ≡ broken 0)  -- cut
unfolding operation_body output_bytes message_bytes read_message listed scan_from scan_at tagged_field tagged_at is_whole field little_endian little_endian_of flat_map
tagged_cases = (refl, refl, refl, refl, refl, refl, refl, refl, refl, refl, refl, refl, refl, refl)
