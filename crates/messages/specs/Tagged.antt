-- Format 2 (document 02, "A second body format"): a record for each field, its tag the field's number; fields strictly ascending,
-- zero values left out, anything else unreadable.
use Rattle.std.specs.Prelude.{ℕ, ◌+◌, ◌-◌, ◌/◌, ◌%◌, ◌^◌, Bool, true, not, ◌&&◌, length, drop, ltb, leb, eqb, Option, Some, None}
use mathlib.Core.List.{List, [], ◌∷◌, ◌++◌, map, flat_map}
use Rattle.wire.specs.Choice.{when◌then◌else◌}
use Rattle.wire.specs.Lists.{same, blocks}
use Rattle.wire.specs.Numbers.{little_endian, little_endian_of}
use Rattle.records.specs.Records.{record_length, record_in, is_whole}
use Rattle.messages.specs.Message.{Kind, uint32, bool, bytes, uint32s, Value, number, flag, octets, numbers, Schema}
use Rattle.messages.specs.Format.{Field, unreadable, Format, listed}

-- integers four bytes, a true bool one byte 1, lists four bytes an entry
abbrev pub value_bytes : Value → List ℕ
value_bytes (number n) = when eqb n 0 then [] else little_endian_of 4 n
value_bytes (flag b) = when b then 1 ∷ [] else []
value_bytes (octets s) = s
value_bytes (numbers ns) = flat_map (little_endian_of 4) ns

-- tag, length, value
abbrev pub record_bytes : (tag : ℕ) (value : List ℕ) → List ℕ
record_bytes tag value = (tag ∷ little_endian_of 2 (length value)) ++ value

unfoldable pub tagged_field : (number : ℕ) → List ℕ → List ℕ
tagged_field n [] = []
tagged_field n (b ∷ s) = record_bytes n (b ∷ s)

-- four bytes an entry
abbrev pub fours : List ℕ → List ℕ
fours s = map little_endian (blocks (length s / 4) 4 s)

abbrev pub given : Bool → Value → Option Value
given test value = when test then Some value else None

-- a present zero, false or empty value is not read
abbrev pub of_value : List ℕ → Kind → Option Value
of_value s uint32 = given (eqb (length s) 4 && not (eqb (little_endian s) 0)) (number (little_endian s))
of_value s bool = given (same s (1 ∷ [])) (flag true)
of_value s bytes = given (leb 1 (length s)) (octets s)
of_value s uint32s = given (leb 1 (length s) && eqb (length s % 4) 0) (numbers (fours s))

-- the record that stands at a place
unfoldable pub tagged_at : Schema → (body : List ℕ) (at : ℕ) → Field
tagged_at schema body at =
    let rest = drop at body in
    when is_whole rest then listed schema (record_in rest).tag (of_value (record_in rest).value) (at + record_length rest) else unreadable

abbrev pub tagged : Format
tagged = record {
  bytes_of = λ n value. tagged_field n (value_bytes value);
  field_at = tagged_at;
  may_follow = ltb;
  length_most = 2 ^ 16 - 1;
  entry_most = 4;
}
