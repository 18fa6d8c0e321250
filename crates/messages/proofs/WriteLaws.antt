-- Laws of the bodies that are written: their fields, and how long they are at most.
use Prim.Native.Nat.{ℕ, ◌+◌, ◌*◌, ◌/◌, ◌≤◌, ◌<◌}
use native.Mathlib.Omega.{arith}
use mathlib.Core.Path.{◌≡◌, refl, sym, ap}
use mathlib.Core.Bool.{Bool, true, false}
use mathlib.Core.List.{List, [], ◌∷◌, ◌++◌, append-nil, append_assoc, flat_map}
use borrow.Author.Tests.{ltb-true, ltb-false}
use lib.ListN.{length, length-append}
use lib.Dec.{ltb, eqb}
use Rattle.wire.specs.code.Wrote.{Wrote}
use Rattle.wire.specs.Lists.{all}
use Rattle.wire.proofs.TestLaws.{either, and_left, and_right}
use Rattle.keys.specs.Key.{Key, data_most}
use Rattle.protobuf.specs.Written.{varint_within, varint, number_field, bytes_field, packed_field}
use Rattle.protobuf.proofs.WrittenLaws.{ends, goes_on, varint_short, bytes_field_none, bytes-field-length}
use Rattle.messages.specs.Message.{Value, number, flag, octets}
use Rattle.messages.specs.Format.{Format, message_bytes}
use Rattle.messages.specs.Operations.{list_opcodes, import_key, verify_signature, operation_body, version, offset, output_bytes}
use Rattle.messages.specs.code.Bodies.{field_room, key_numbers}

-- ---- a field's length

number_field_within : (n value : ℕ) → length (number_field n value) ≤ length (varint (8 * n)) + length (varint value)
unfolding number_field
number_field_within n value =
    let most : ℕ = length (varint (8 * n)) + length (varint value) in
    let long : length (varint (8 * n) ++ varint value) ≤ most = omega (arith, length-append (varint (8 * n)) (varint value)) in
    either (λ (l : List ℕ). length l ≤ most) (eqb value 0) (λ _. omega arith) (λ _. long)

bytes_field_within : (n : ℕ) (bytes : List ℕ)
    → length (bytes_field n bytes) ≤ length (varint (8 * n + 2)) + length (varint (length bytes)) + length bytes
bytes_field_within n [] = omega (arith, ap length (bytes_field_none n [] (omega arith)))
bytes_field_within n (b ∷ bytes) = omega (arith, bytes-field-length n (b ∷ bytes) (omega arith))

pub bytes_field_least : (n : ℕ) (bytes : List ℕ) → length bytes ≤ length (bytes_field n bytes)
bytes_field_least n [] = omega arith
bytes_field_least n (b ∷ bytes) = omega (arith, bytes-field-length n (b ∷ bytes) (omega arith))

module _ {d e : List ℕ} {r : ℕ} where
  pub number_short : (n value : ℕ) → Wrote (number_field n value) d e r → r ≤ field_room
  number_short n value w = omega (arith, w.count, number_field_within n value, varint_short (8 * n), varint_short value)

  pub bytes_short : (n : ℕ) (bytes : List ℕ) → Wrote (bytes_field n bytes) d e r → r ≤ length bytes + field_room
  bytes_short n bytes w = omega (arith, w.count, bytes_field_within n bytes, varint_short (8 * n + 2), varint_short (length bytes))

-- ---- the bodies' fields

module _ (format : Format) where
  pub provider_body : (provider : ℕ) → operation_body format (list_opcodes provider) ≡ format.bytes_of 1 (number provider)
  unfolding operation_body message_bytes
  provider_body provider = append-nil (format.bytes_of 1 (number provider))

  pub one_body : (value : Value) → message_bytes format (value ∷ []) ≡ format.bytes_of 1 value
  unfolding message_bytes
  one_body value = append-nil (format.bytes_of 1 value)

  pub key_numbers_lem : (bits : ℕ) (exported verified : Bool)
      → key_numbers format bits exported verified ≡ (format.bytes_of 3 (number bits) ++ format.bytes_of 4 (flag exported)) ++ format.bytes_of 5 (flag verified)
  unfolding key_numbers
  key_numbers_lem bits exported verified = sym (append_assoc (format.bytes_of 3 (number bits)) (format.bytes_of 4 (flag exported)) (format.bytes_of 5 (flag verified)))

  pub key_body_lem : (key : Key) → operation_body format (import_key key)
      ≡ (format.bytes_of 1 (octets key.name) ++ format.bytes_of 2 (octets key.bytes)) ++ key_numbers format key.bits key.export_allowed key.verify_allowed
  unfolding operation_body message_bytes key_numbers
  key_body_lem key = simp (append_assoc, append-nil)

  pub verify_body : (name hash signature : List ℕ) → operation_body format (verify_signature name hash signature)
      ≡ (format.bytes_of 1 (octets name) ++ format.bytes_of 2 (octets hash)) ++ format.bytes_of 3 (octets signature)
  unfolding operation_body message_bytes
  verify_body name hash signature = simp (append_assoc, append-nil)

  pub offset_body : (at : ℕ) → output_bytes format (offset at) ≡ format.bytes_of 1 (number at)
  unfolding output_bytes message_bytes
  offset_body at = append-nil (format.bytes_of 1 (number at))

  pub version_body : (major minor : ℕ) → output_bytes format (version major minor) ≡ format.bytes_of 1 (number major) ++ format.bytes_of 2 (number minor)
  unfolding output_bytes message_bytes
  version_body major minor = ap (λ (l : List ℕ). format.bytes_of 1 (number major) ++ l) (append-nil (format.bytes_of 2 (number minor)))

-- a number below 128 is its own varint
own_varints : (list : List ℕ) → all (λ n. ltb n 128) list ≡ true → flat_map varint list ≡ list
unfolding flat_map varint
own_varints [] h = refl
own_varints (n ∷ list) h =
    let small : n < 128 = ltb-true n 128 (and_left (ltb n 128) (all (λ m. ltb m 128) list) h) in
    rw (ends 9 n small) (ap (λ (l : List ℕ). n ∷ l) (own_varints list (and_right (ltb n 128) (all (λ m. ltb m 128) list) h)))

pub list_field : (n : ℕ) (list : List ℕ) → all (λ n. ltb n 128) list ≡ true → packed_field n list ≡ bytes_field n list
unfolding packed_field
list_field n list h = ap (bytes_field n) (own_varints list h)

-- ---- how long a field is at most, in Protocol Buffers

one_byte : (n : ℕ) → n < 128 → length (varint n) ≡ 1
unfolding varint
one_byte n h = ap length (ends 9 n h)

two_bytes : (n : ℕ) → n < 128 * 128 → length (varint n) ≤ 2
unfolding varint
two_bytes n h = go (ltb n 128) refl
  where
    go : (t : Bool) → ltb n 128 ≡ t → length (varint_within 9 n) ≤ 2
    go true e = omega (arith, ap length (ends 9 n (ltb-true n 128 e)))
    go false e =
        let more : 128 ≤ n = ltb-false n 128 e in
        let last : n / 128 < 128 = omega arith in
        omega (arith, ap length (goes_on 8 n more), ap length (ends 8 (n / 128) last))

pub number_within : (n value : ℕ) → length (number_field n value) ≤ field_room
number_within n value = omega (arith, number_field_within n value, varint_short (8 * n), varint_short value)

pub bytes_within : (bytes : List ℕ) → length bytes ≤ data_most → length (bytes_field 1 bytes) ≤ 3 + length bytes
bytes_within bytes h =
    omega (arith, bytes_field_within 1 bytes, one_byte (8 * 1 + 2) (omega arith), two_bytes (length bytes) (omega arith))

pub bytes_room : (n : ℕ) (bytes : List ℕ) → length (bytes_field n bytes) ≤ length bytes + field_room
bytes_room n bytes = omega (arith, bytes_field_within n bytes, varint_short (8 * n + 2), varint_short (length bytes))
