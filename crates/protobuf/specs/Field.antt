-- One field of a body: a tag, then what its wire type says ("Operations and their fields", Reading).
use Rattle.std.specs.Prelude.{ℕ, ◌+◌, ◌/◌, ◌%◌, ◌^◌, List, length, ltb, leb, eqb, Option, Some, None}
use Rattle.wire.specs.Choice.{when◌then◌else◌}
use Rattle.protobuf.specs.Varint.{varint_at}
use Rattle.protobuf.specs.declared.field.Field.{Field}
use Rattle.protobuf.specs.declared.field.Field.TheVariants.{Number, Span, Fixed, GroupStart, GroupEnd}

-- what `f` makes of a varint's value and the position behind it
abbrev pub varint_then : Option (ℕ × ℕ) → (ℕ → ℕ → Option Field) → Option Field
varint_then (Some (v, next)) f = f v next
varint_then None f = None

-- wire type 0: a varint
unfoldable pub number_at : List ℕ → (number at : ℕ) → Option Field
number_at s number at = varint_then (varint_at s at) (λ value next. Some (Number number value next))

-- wire types 1 and 5: `size` bytes
unfoldable pub fixed_at : List ℕ → (number size at : ℕ) → Option Field
fixed_at s number size at = when leb (at + size) (length s) then Some (Fixed number (at + size)) else None

-- wire type 2: a length, then that many bytes
unfoldable pub span_at : List ℕ → (number at : ℕ) → Option Field
span_at s number at =
    varint_then (varint_at s at)
    (λ len start. when leb (start + len) (length s) then Some (Span number start len (start + len)) else None)

unfoldable pub content_at : List ℕ → (number wire at : ℕ) → Option Field
content_at s number wire at =
    when eqb wire 0 then number_at s number at
    else when eqb wire 1 then fixed_at s number 8 at
    else when eqb wire 2 then span_at s number at
    else when eqb wire 3 then Some (GroupStart number at)
    else when eqb wire 4 then Some (GroupEnd number at)
    else when eqb wire 5 then fixed_at s number 4 at
    else None

-- a tag is at most 2^32 - 1: the field number times 8, plus the wire type; no field has number 0
unfoldable pub field_at : List ℕ → (at : ℕ) → Option Field
field_at s at =
    varint_then (varint_at s at)
    (λ tag next.
    when ltb tag (2 ^ 32) then (when eqb (tag / 8) 0 then None else content_at s (tag / 8) (tag % 8) next) else None)
