-- Format 2 is lawful.
use Rattle.std.proofs.Common.{Some}
use Prim.Native.Nat.{ℕ, ◌+◌, ◌*◌, ◌/◌, ◌%◌, ◌≤◌}
use native.Mathlib.Omega.{arith}
use mathlib.Core.Path.{◌≡◌, refl, ap, ◌∙◌}
use mathlib.Core.Bool.{true, false, false≢true}
use mathlib.Core.List.{List, [], ◌∷◌, ◌++◌, map, flat_map}
use lib.ListN.{length, drop, length-append}
use lib.Seq.{take-length, take_at, drop_at}
use borrow.Author.Tests.{lt-ltb, le-leb, ne_eqb}
use Rattle.wire.specs.Lists.{blocks}
use Rattle.wire.specs.Numbers.{little_endian, little_endian_of}
use Rattle.wire.specs.Numbers as wire
use Rattle.wire.proofs.TestLaws.{either}
use Rattle.wire.proofs.NumberLaws.{length_number, number_back, field_back, field_byte}
use Rattle.records.specs.Records.{Record, record_length, value_in, record_in, is_whole}
use Rattle.records.proofs.RecordLaws.{size_append, record_append, whole_append}
use Rattle.messages.specs.Message.{Kind, uint32, bool, bytes, uint32s, Value, number, flag, octets, numbers, kind_of, Schema, kind_at, absent}
use Rattle.messages.specs.Format.{field}
use Rattle.messages.specs.Tagged.{value_bytes, record_bytes, tagged_field, of_value, tagged_at, tagged}
use Rattle.messages.proofs.RoundTrip.{Present, FieldAhead, Lawful, listed-value, listed_ahead}

-- ---- a value's bytes are read as the value

pub list_length : (ns : List ℕ) → length (flat_map (little_endian_of 4) ns) ≡ 4 * length ns
unfolding flat_map
list_length [] = refl
list_length (n ∷ ns) = omega (arith, length-append (little_endian_of 4 n) (flat_map (little_endian_of 4) ns), length_number 4 n, list_length ns)

list_back : (ns : List ℕ) → map little_endian (blocks (length ns) 4 (flat_map (little_endian_of 4) ns)) ≡ ns
unfolding flat_map
list_back [] = refl
list_back (n ∷ ns) =
    let rest : List ℕ = flat_map (little_endian_of 4) ns in
    rw (take_at (little_endian_of 4 n) rest 4 (length_number 4 n), drop_at (little_endian_of 4 n) rest 4 (length_number 4 n), number_back 3 n, list_back ns)

value_back : (value : Value) → Present value → of_value (value_bytes value) (kind_of value) ≡ Some value
value_back (number n) p =
    let no : n ≡ 0 → ⊥ = λ e. omega arith in
    rw (ne_eqb n 0 no, length_number 4 n, number_back 3 n, ne_eqb n 0 no)
value_back (flag true) p = refl
value_back (flag false) p = absurd (false≢true p)
value_back (octets s) p = rw (le-leb _ _ p)
value_back (numbers ns) p =
    let l = list_length ns in
    let one : 1 ≤ 4 * length ns = omega arith in
    let whole : 4 * length ns % 4 ≡ 0 = omega arith in
    let count : 4 * length ns / 4 ≡ length ns = omega arith in
    simp (l, le-leb _ _ one, whole, count, list_back ns)

value_some : (value : Value) → Present value → 1 ≤ length (value_bytes value)
value_some (number n) p =
    let no : n ≡ 0 → ⊥ = λ e. omega arith in
    rw (ne_eqb n 0 no, length_number 4 n) (omega arith)
value_some (flag true) p = omega arith
value_some (flag false) p = absurd (false≢true p)
value_some (octets s) p = p
value_some (numbers ns) p = omega (arith, list_length ns)

-- ---- a record that was written

module _ (n : ℕ) (s : List ℕ) where
  abbrev x : List ℕ
  x = record_bytes n s

  abbrev head : List ℕ
  head = n ∷ little_endian_of 2 (length s)

  size : wire.field 1 2 x ≡ length s
  size = field_back 1 1 (length s) x s refl

  long : length x ≡ record_length x
  long = omega (arith, size, length-append head s, length_number 2 (length s))

  written : record_in x ≡ record { tag = n; value = s }
  written =
      let three : length head ≡ 3 = omega (arith, length_number 2 (length s)) in
      let value : value_in x ≡ s = rw (size, drop_at head s 3 three) (take-length s) in
      let tag : wire.field 0 1 x ≡ n = field_byte 0 x (omega (arith, long)) in
      λ i. record { tag = tag i; value = value i }

-- ---- fields

leaves_out : (n : ℕ) (kind : Kind) → tagged_field n (value_bytes (absent kind)) ≡ []
unfolding tagged_field flat_map
leaves_out n uint32 = refl
leaves_out n bool = refl
leaves_out n bytes = refl
leaves_out n uint32s = refl

pub tagged_field_lem : (n : ℕ) (s : List ℕ) → 1 ≤ length s → tagged_field n s ≡ record_bytes n s
unfolding tagged_field
tagged_field_lem n [] h = absurd (omega arith)
tagged_field_lem n (b ∷ s) h = refl

pub tagged_none : (n : ℕ) (s : List ℕ) → length s ≡ 0 → tagged_field n s ≡ []
unfolding tagged_field
tagged_none n [] h = refl
tagged_none n (b ∷ s) h = absurd (omega arith)

reads :
    (schema : Schema) (s : List ℕ) (at n : ℕ) (value : Value) (rest : List ℕ) →
    kind_at schema n ≡ Some (kind_of value) →
    Present value →
    drop at s ≡ tagged_field n (value_bytes value) ++ rest →
    tagged_at schema s at ≡ field n value (at + length (tagged_field n (value_bytes value)))
unfolding tagged_at
reads schema s at n value rest k p e =
    let bs : List ℕ = value_bytes value in
    let w : List ℕ = record_bytes n bs in
    let whole : tagged_field n bs ≡ w = tagged_field_lem n bs (value_some value p) in
    let here : drop at s ≡ w ++ rest = e ∙ ap (λ (l : List ℕ). l ++ rest) whole in
    let room : record_length w ≤ length w = omega (arith, long n bs) in
    let is : record_in (w ++ rest) ≡ record { tag = n; value = bs } = record_append w rest room ∙ written n bs in
    let next : at + record_length (w ++ rest) ≡ at + length (tagged_field n bs) = omega (arith, size_append w rest room, long n bs, ap length whole) in
    rw (here, whole_append w rest room, next, ap (λ (r : Record). r.tag) is, ap (λ (r : Record). r.value) is)
    (listed-value schema n (of_value bs) (at + length (tagged_field n bs)) value k (value_back value p))

tagged_ahead : (schema : Schema) (s : List ℕ) (at : ℕ) → FieldAhead at (tagged_at schema s at)
unfolding tagged_at
tagged_ahead schema s at =
    let rest : List ℕ = drop at s in
    either (FieldAhead at) (is_whole rest)
    (λ _. listed_ahead schema at (record_in rest).tag (of_value (record_in rest).value) (at + record_length rest) (omega arith))
    (λ _. tt)

pub tagged_lawful : Lawful tagged
tagged_lawful = record {
  leaves_out = leaves_out;
  reads = λ schema s at n value rest some' few k p f e. reads schema s at n value rest k p e;
  ahead = tagged_ahead;
  ascends = λ last n h. lt-ltb last n h;
}
