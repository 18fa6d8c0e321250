-- Format 1, Protocol Buffers: document 01's Reading and Writing, lists packed only, and unlisted fields skipped (document 02).
use Rattle.std.specs.Prelude.{ℕ, ◌-◌, ◌%◌, ◌^◌, Bool, true, false, not, List, [], ◌∷◌, ◌++◌, length, take, drop, eqb, Option, Some, None}
use Rattle.wire.specs.Choice.{when◌then◌else◌}
use Rattle.wire.specs.Scan.{Turn, on, out, scan_at}
use Rattle.protobuf.specs.Varint.{varint_at}
use Rattle.protobuf.specs.Field as proto
use Rattle.protobuf.specs.Group.{depth_most, group_at}
use Rattle.protobuf.specs.Written.{number_field, bytes_field, packed_field}
use Rattle.protobuf.specs.declared.field.Field.{Field as ProtoField}
use Rattle.protobuf.specs.declared.field.Field.TheVariants.{Number, Span, Fixed, GroupStart, GroupEnd}
use Rattle.messages.specs.Message.{Kind, uint32, bool, bytes, uint32s, Value, number, flag, octets, numbers, Schema, kind_at}
use Rattle.messages.specs.Format.{Field, skipped, unreadable, Format, listed}

abbrev pub protobuf_bytes : (number : ℕ) → Value → List ℕ
protobuf_bytes n (number v) = number_field n v
protobuf_bytes n (flag b) = number_field n (when b then 1 else 0)
protobuf_bytes n (octets s) = bytes_field n s
protobuf_bytes n (numbers ns) = packed_field n ns

-- a uint32 is the low 32 bits; a bool is true if the varint isn't 0
abbrev pub of_varint : ℕ → Kind → Option Value
of_varint v uint32 = Some (number (v % 2 ^ 32))
of_varint v bool = Some (flag (not (eqb v 0)))
of_varint v bytes = None
of_varint v uint32s = None

-- a packed list: varints up to the end
abbrev pub packed_turn : List ℕ → Option (ℕ × ℕ) → Turn (List ℕ) (Option Value)
packed_turn ns (Some (v, next)) = on (ns ++ (v % 2 ^ 32 ∷ [])) next
packed_turn ns None = out None

unfoldable pub packed_of : List ℕ → Option Value
packed_of s = scan_at (λ at ns. packed_turn ns (varint_at s at)) (λ ns. Some (numbers ns)) (length s) 0 []

abbrev pub of_span : List ℕ → Kind → Option Value
of_span s uint32 = None
of_span s bool = None
of_span s bytes = Some (octets s)
of_span s uint32s = packed_of s

-- the wire type of each kind: 0 is a varint, 2 is bytes
abbrev pub wire_type_of : Kind → ℕ
wire_type_of uint32 = 0
wire_type_of bool = 0
wire_type_of bytes = 2
wire_type_of uint32s = 2

-- whether a number is listed, and with this wire type
abbrev pub is_of_wire : (wire : ℕ) → Option Kind → Bool
is_of_wire wire None = false
is_of_wire wire (Some kind) = eqb (wire_type_of kind) wire

abbrev pub of_group : Option ℕ → Field
of_group (Some next) = skipped next
of_group None = unreadable

-- an unlisted number, or a listed one with another wire type, is skipped
abbrev pub field_of : Schema → (body : List ℕ) → Option ProtoField → Field
field_of schema body (Some (Number n v next)) =
    when is_of_wire 0 (kind_at schema n) then listed schema n (of_varint v) next else skipped next
field_of schema body (Some (Span n start len next)) =
    when is_of_wire 2 (kind_at schema n) then listed schema n (of_span (take len (drop start body))) next else skipped next
field_of schema body (Some (Fixed n next)) = skipped next
field_of schema body (Some (GroupStart n next)) = of_group (group_at depth_most body n next)
field_of schema body (Some (GroupEnd n next)) = unreadable
field_of schema body None = unreadable

-- fields come in any order
abbrev pub protobuf : Format
protobuf = record {
  bytes_of = protobuf_bytes;
  field_at = λ schema body at. field_of schema body (proto.field_at body at);
  may_follow = λ last n. true;
  length_most = 2 ^ 64 - 1;
  entry_most = 10;
}
