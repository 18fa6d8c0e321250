-- Format 2 as the code reads it: a field's value by its place.
use Rattle.std.specs.Prelude.{ℕ, ◌+◌, ◌≤◌, ◌<◌, ◌≡◌, List, drop, Option, Some, None, option_and_then}
use Rattle.wire.specs.Choice.{when◌then◌else◌}
use Rattle.fields.specs.code.Fields.{kind_of, ValueIn}
use Rattle.fields.specs.declared.Kind.{Kind as KindPlaced}
use Rattle.fields.specs.declared.Kind.TheVariants.{Bytes, Uint32, Boolean, Unlisted}
use Rattle.fields.specs.declared.Schema.{Schema as SchemaPlaced}
use Rattle.fields.specs.declared.Value.{Value as Place}
use Rattle.records.specs.Records.{record_length, record_in, is_whole}
use Rattle.messages.specs.Message.{Kind, uint32, bool, bytes, Value}
use Rattle.messages.specs.Format.{Field, unreadable, field_with}
use Rattle.messages.specs.Tagged.{of_value}
use Rattle.messages.specs.code.Places.{value_of}

abbrev pub kind_in : KindPlaced → Option Kind
kind_in Bytes = Some bytes
kind_in Uint32 = Some uint32
kind_in Boolean = Some bool
kind_in Unlisted = None

abbrev pub value_for : (body : List ℕ) → Option Kind → Place → Option Value
value_for body None v = None
value_for body (Some kind) v = Some (value_of body kind v)

abbrev pub found_in : (body : List ℕ) → KindPlaced → Option Place → Option Value
found_in body kind (Some v) = value_for body (kind_in kind) v
found_in body kind None = None

-- the value is of a listed kind, and lies within so many bytes
abbrev pub FoundWithin : (most : ℕ) → KindPlaced → Option Place → Type 0
FoundWithin most kind (Some v) = (kind_in kind ≡ None → ⊥) × ValueIn most v
FoundWithin most kind None = Unit {0}

-- the field at a place, by the kinds that the code has
unfoldable pub field_placed : SchemaPlaced → (body : List ℕ) (at : ℕ) → Field
field_placed schema body at =
    let rest = drop at body in
    when is_whole rest then field_with (record_in rest).tag (at + record_length rest) (option_and_then (of_value (record_in rest).value) (kind_in (kind_of schema (record_in rest).tag)))
    else unreadable

abbrev pub field_in : (body : List ℕ) → SchemaPlaced → Option (ℕ × Place × ℕ) → Field
field_in body schema (Some (n, v, next)) = field_with n next (value_for body (kind_in (kind_of schema n)) v)
field_in body schema None = unreadable

-- the field is listed, lies within so many bytes, and the next one behind `at`
abbrev pub FieldWithin : (most at : ℕ) → SchemaPlaced → Option (ℕ × Place × ℕ) → Type 0
FieldWithin most at schema (Some (n, v, next)) = (kind_in (kind_of schema n) ≡ None → ⊥) × ValueIn most v × (at < next) × (next ≤ most)
FieldWithin most at schema None = Unit {0}
