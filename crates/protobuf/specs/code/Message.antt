-- What a field changes in the values so far ("Operations and their fields", Reading).
use Rattle.std.specs.Prelude.{ℕ, ◌%◌, ◌^◌, List, eqb, Option, Some, None, option_map, option_and_then}
use Rattle.wire.specs.Choice.{when◌then◌else◌}
use Rattle.fields.specs.code.Fields.{kind_of, with_value}
use Rattle.protobuf.specs.Field.{field_at}
use Rattle.protobuf.specs.Group.{depth_most, group_at}
use Rattle.protobuf.specs.declared.field.Field.{Field}
use Rattle.protobuf.specs.declared.field.Field.TheVariants.{Number, Span, Fixed, GroupStart, GroupEnd}
use Rattle.fields.specs.declared.Kind.{Kind}
use Rattle.fields.specs.declared.Kind.TheVariants.{Bytes, Uint32, Boolean, Unlisted}
use Rattle.fields.specs.declared.Schema.{Schema}
use Rattle.fields.specs.declared.Values.{Values}
use Rattle.protobuf.specs.declared.message.Item.{Item}
use Rattle.protobuf.specs.declared.message.Item.TheVariants.{Keep, Skip}

-- a varint as a value of each kind: a uint32 is its low 32 bits, a bool is true (1) if it isn't 0
abbrev pub of_number : Kind → (n v next : ℕ) → Item
of_number Bytes n v next = Skip next
of_number Uint32 n v next = Keep n (record { start = 0; len = 0; number = v % 2 ^ 32 }) next
of_number Boolean n v next = Keep n (record { start = 0; len = 0; number = when eqb v 0 then 0 else 1 }) next
of_number Unlisted n v next = Skip next

-- bytes are kept as the place where they lie
abbrev pub of_span : Kind → (n start len next : ℕ) → Item
of_span Bytes n start len next = Keep n (record { start = start; len = len; number = 0 }) next
of_span Uint32 n start len next = Skip next
of_span Boolean n start len next = Skip next
of_span Unlisted n start len next = Skip next

-- a group is skipped whole, whatever its number stands for
abbrev pub of_group : Option ℕ → Option Item
of_group group = option_map Skip group

-- what a reader of schema `k` does with a field of the body `s`: an unlisted number or another wire type is skipped, and an end
-- without its start is refused
unfoldable pub item_of : Schema → List ℕ → Field → Option Item
item_of k s (Number n v next) = Some (of_number (kind_of k n) n v next)
item_of k s (Span n start len next) = Some (of_span (kind_of k n) n start len next)
item_of k s (Fixed n next) = Some (Skip next)
item_of k s (GroupStart n next) = of_group (group_at depth_most s n next)
item_of k s (GroupEnd n next) = None

abbrev pub step_of : Values → Item → Values × ℕ
step_of m (Keep n v next) = (with_value m n v, next)
step_of m (Skip next) = (m, next)

-- one field of a body, on top of the values so far
unfoldable pub step_at : Schema → List ℕ → (at : ℕ) → Values → Option (Values × ℕ)
step_at k s at m = option_map (step_of m) (option_and_then (item_of k s) (field_at s at))
