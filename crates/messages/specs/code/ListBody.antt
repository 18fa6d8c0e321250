-- A body with a list as its one field, as the code reads it: by the list's place.
use Rattle.std.specs.Prelude.{ℕ, ◌≤◌, ◌<◌, List, [], ◌∷◌, Option, Some, None}
use Rattle.protobuf.specs.Group.{depth_most, group_at}
use Rattle.protobuf.specs.declared.field.Field.{Field as ProtoField}
use Rattle.protobuf.specs.declared.field.Field.TheVariants.{Number, Span, Fixed, GroupStart, GroupEnd}
use Rattle.messages.specs.Message.{Schema, uint32s, numbers}
use Rattle.messages.specs.Format.{Field, field, skipped, unreadable}
use Rattle.messages.specs.Placed.{list_in, SpanWithin}
use Rattle.messages.specs.declared.format.BodyFormat.{BodyFormat}
use Rattle.messages.specs.declared.format.BodyFormat.TheVariants.{Protobuf}
use Rattle.wire.specs.declared.span.Span.{Span as Part}

abbrev pub list_schema : Schema
list_schema = uint32s ∷ []

-- a field, and the position behind it: the list lies at the span, or it is another
abbrev pub field_in : (body : List ℕ) → Option (Option Part × ℕ) → Field
field_in body (Some (Some span, next)) = field 1 (numbers (list_in Protobuf body span)) next
field_in body (Some (None, next)) = skipped next
field_in body None = unreadable

-- the position behind a field that is not the list
unfoldable pub skipped_field : (body : List ℕ) → ProtoField → Option ℕ
skipped_field body (Number n v next) = Some next
skipped_field body (Span n start len next) = Some next
skipped_field body (Fixed n next) = Some next
skipped_field body (GroupStart n next) = group_at depth_most body n next
skipped_field body (GroupEnd n next) = None

-- the field lies within so many bytes, and the next one behind `at`
abbrev pub FieldWithin : (most at : ℕ) → Option (Option Part × ℕ) → Type 0
FieldWithin most at (Some (Some span, next)) = SpanWithin most span × (at < next) × (next ≤ most)
FieldWithin most at (Some (None, next)) = (at < next) × (next ≤ most)
FieldWithin most at None = Unit {0}

abbrev pub entries_in : BodyFormat → (body : List ℕ) → Option Part → Option (List ℕ)
entries_in format body (Some span) = Some (list_in format body span)
entries_in format body None = None

abbrev pub ListWithin : (most : ℕ) → Option Part → Type 0
ListWithin most (Some span) = SpanWithin most span
ListWithin most None = Unit {0}
