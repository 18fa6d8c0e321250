-- What is written is read as itself, wherever it stands and whatever stands behind it: a varint, a number's field, a field of bytes.
use Rattle.std.proofs.Common.{Some}
use Prim.Native.Nat.{ℕ, zero, suc, ◌+◌, ◌-◌, ◌*◌, ◌/◌, ◌%◌, ◌^◌, ◌≤◌, ◌<◌}
use native.Mathlib.Omega.{arith}
use native.Mathlib.Nat.{pow-suc}
use native.Mathlib.Numerals.{add-one, sub-one}
use native.Mathlib.Decide.{dec_lt}
use mathlib.Core.Path.{◌≡◌, refl, ap, sym, ◌∙◌}
use mathlib.Core.List.{List, [], ◌∷◌, ◌++◌, append_assoc}
use lib.ListN.{length, get_or, take, drop, length-append, drop_of_length-le, length-drop}
use lib.Seq.{drop-cons, drop-drop, drop-append_seam, take-append_seam}
use borrow.Author.Tests.{lt-ltb, le-leb, ne_eqb}
use Rattle.protobuf.specs.Varint.{below, varint_of, varint_at}
use Rattle.protobuf.specs.Field.{number_at, span_at, content_at, field_at}
use Rattle.protobuf.specs.Written.{varint_within, varint, number_field, bytes_field}
use Rattle.protobuf.specs.declared.field.Field.TheVariants.{Number, Span}
use Rattle.protobuf.proofs.VarintLaws as read
use Rattle.protobuf.proofs.FieldLaws.{Ahead, varint_ahead}
use Rattle.protobuf.proofs.WrittenLaws as written

-- ---- what stands at a place
record First (s : List ℕ) (at b : ℕ) (t : List ℕ) : Type 0 where
  within : at < length s
  byte : get_or s at 0 ≡ b
  rest : drop (at + 1) s ≡ t

first : (s : List ℕ) (at b : ℕ) (t : List ℕ) → drop at s ≡ b ∷ t → First s at b t
first s at b t e =
    elim (dec_lt at (length s)) [
      | yes h ↦
          let c : get_or s at 0 ∷ drop (suc at) s ≡ b ∷ t = sym (drop-cons s at 0 h) ∙ e in
          record { within = h; byte = cc; rest = rw add-one (cc) }
      | no h ↦
          let z : length (drop at s) ≡ 0 = ap length (drop_of_length-le s {i = at} (omega arith)) in
          absurd (omega (arith, ap length e))
    ]

pub behind : (s : List ℕ) (at : ℕ) (a b : List ℕ) → drop at s ≡ a ++ b → drop (at + length a) s ≡ b
behind s at a b e = sym (drop-drop (length a) at s) ∙ ap (drop (length a)) e ∙ drop-append_seam a b

-- ---- a varint
reads_one : (more : ℕ) (s : List ℕ) (at n : ℕ) (rest : List ℕ) → n < 128 → drop at s ≡ n ∷ rest → varint_of (suc more) s at ≡ Some (n, at + 1)
reads_one more s at n rest h e =
    let f = first s at n rest e in
    let small : get_or s at 0 < 128 = omega arith in
    rw f.byte at (read.ends s at (suc more) (omega arith) f.within small)

reads_more :
    (more : ℕ) (s : List ℕ) (at n : ℕ) (w rest : List ℕ) →
    128 ≤ n →
    drop at s ≡ (n % 128 + 128) ∷ (w ++ rest) →
    varint_of more s (at + 1) ≡ Some (n / 128, at + 1 + length w) →
    varint_of (suc more) s at ≡ Some (n, at + length ((n % 128 + 128) ∷ w))
reads_more more s at n w rest h e ih =
    let f = first s at (n % 128 + 128) (w ++ rest) e in
    let marked : 128 ≤ get_or s at 0 = omega arith in
    let value : get_or s at 0 - 128 + 128 * (n / 128) ≡ n = omega arith in
    let place : at + 1 + length w ≡ at + length ((n % 128 + 128) ∷ w) = omega arith in
    let ih' : varint_of (suc more - 1) s (at + 1) ≡ Some (n / 128, at + 1 + length w) = rw sub-one ih in
    read.goes_on s at (suc more) (omega arith) f.within marked
    ∙ ap (below (get_or s at 0 - 128)) ih'
    ∙ ap (λ (x : ℕ). Some (x, at + 1 + length w)) value
    ∙ ap (λ (p : ℕ). Some (n, p)) place

reads-within :
    (more : ℕ) (s : List ℕ) (at n : ℕ) (rest : List ℕ) →
    n < 2 * 128 ^ more →
    drop at s ≡ varint_within more n ++ rest →
    varint_of more s at ≡ Some (n, at + length (varint_within more n))
reads-within zero s at n rest h e =
    let one : varint_within 0 n ≡ n ∷ [] = written.ends 0 n (omega arith) in
    let f = first s at n rest (rw one at e) in
    let small : get_or s at 0 ≤ 1 = omega arith in
    rw one (rw f.byte at (read.last s at f.within small))
reads-within (suc more) s at n rest h e =
    elim (dec_lt n 128) [
      | yes l ↦
          let one = written.ends (suc more) n l in
          rw one (reads_one more s at n rest l (rw one at e))
      | no l ↦
          let large : 128 ≤ n = omega arith in
          let on = written.goes_on more n large in
          let w : List ℕ = varint_within more (n / 128) in
          let e' : drop at s ≡ (n % 128 + 128) ∷ (w ++ rest) = rw on at e in
          rw on
          (reads_more more s at n w rest large e'
          (reads-within more s (at + 1) (n / 128) rest (omega (arith, pow-suc 128 more)) (first s at (n % 128 + 128) (w ++ rest) e').rest))
    ]

pub reads-varint :
    (s : List ℕ) (at n : ℕ) (rest : List ℕ) →
    n < 2 ^ 64 →
    drop at s ≡ varint n ++ rest →
    varint_at s at ≡ Some (n, at + length (varint n))
unfolding varint
reads-varint s at n rest h e = reads-within 9 s at n rest (omega arith) e

-- ---- a field: its tag, then what the wire type says
reads-tag :
    (s : List ℕ) (at number wire tag : ℕ) (rest : List ℕ) →
    1 ≤ number →
    number < 2 ^ 29 →
    wire < 8 →
    tag ≡ 8 * number + wire →
    drop at s ≡ varint tag ++ rest →
    field_at s at ≡ content_at s number wire (at + length (varint tag))
unfolding field_at
reads-tag s at number wire tag rest some few w t e =
    let r : varint_at s at ≡ Some (tag, at + length (varint tag)) = reads-varint s at tag rest (omega arith) e in
    let low : tag < 2 ^ 32 = omega arith in
    let n8 : tag / 8 ≡ number = omega arith in
    let w8 : tag % 8 ≡ wire = omega arith in
    let nz : number ≡ 0 → ⊥ = λ z. omega arith in
    rw (r, lt-ltb _ _ low, n8, w8, ne_eqb _ _ nz)

pub reads-number-field :
    (s : List ℕ) (at number value : ℕ) (rest : List ℕ) →
    1 ≤ number →
    number < 2 ^ 29 →
    1 ≤ value →
    value < 2 ^ 64 →
    drop at s ≡ number_field number value ++ rest →
    field_at s at ≡ Some (Number number value (at + length (number_field number value)))
unfolding content_at number_at
reads-number-field s at number value rest some few v l e =
    let field = written.number_field_lem number value (λ z. omega arith) in
    let tag : List ℕ = varint (8 * number) in
    let p : ℕ = at + length tag in
    let e₀ : drop at s ≡ tag ++ (varint value ++ rest) = simp append_assoc at (rw field at e) in
    let r : varint_at s p ≡ Some (value, p + length (varint value)) = reads-varint s p value rest l (behind s at tag (varint value ++ rest) e₀) in
    let content : content_at s number 0 p ≡ Some (Number number value (p + length (varint value))) = rw r in
    let next : p + length (varint value) ≡ at + length (number_field number value) = omega (arith, length-append tag (varint value), ap length field) in
    reads-tag s at number 0 (8 * number) (varint value ++ rest) some few (omega arith) (omega arith) e₀
    ∙ content
    ∙ ap (λ (p : ℕ). Some (Number number value p)) next

-- the field at `at` is read as those bytes, where they stand, and `next` as the position behind it
pub record ReadsBytes (s : List ℕ) (at number : ℕ) (bytes : List ℕ) (next : ℕ) : Type 0 where
  pub start : ℕ
  pub reads : field_at s at ≡ Some (Span number start (length bytes) next)
  pub stand : take (length bytes) (drop start s) ≡ bytes

pub reads-bytes-field :
    (s : List ℕ) (at number : ℕ) (bytes rest : List ℕ) →
    1 ≤ number →
    number < 2 ^ 29 →
    1 ≤ length bytes →
    length bytes < 2 ^ 64 →
    drop at s ≡ bytes_field number bytes ++ rest →
    ReadsBytes s at number bytes (at + length (bytes_field number bytes))
unfolding content_at span_at
reads-bytes-field s at number bytes rest some few b l e =
    let field = written.bytes_field_lem number bytes b in
    let tag : List ℕ = varint (8 * number + 2) in
    let len : List ℕ = varint (length bytes) in
    let p : ℕ = at + length tag in
    let start : ℕ = p + length len in
    let e₀ : drop at s ≡ tag ++ (len ++ (bytes ++ rest)) = simp append_assoc at (rw field at e) in
    let e₁ : drop p s ≡ len ++ (bytes ++ rest) = behind s at tag (len ++ (bytes ++ rest)) e₀ in
    let e₂ : drop start s ≡ bytes ++ rest = behind s p len (bytes ++ rest) e₁ in
    let r : varint_at s p ≡ Some (length bytes, start) = reads-varint s p (length bytes) (bytes ++ rest) l e₁ in
    let a : Ahead (length s) p start = rw r at (varint_ahead 9 s p) in
    let room : start + length bytes ≤ length s = omega (arith, length-drop start s, length-append bytes rest, ap length e₂) in
    let content : content_at s number 2 p ≡ Some (Span number start (length bytes) (start + length bytes)) = rw (r, le-leb _ _ room) in
    let next : start + length bytes ≡ at + length (bytes_field number bytes) = omega (arith, written.bytes-field-length number bytes b) in
    record {
      start = start;
      reads =
          reads-tag s at number 2 (8 * number + 2) (len ++ (bytes ++ rest)) some few (omega arith) refl e₀
          ∙ content
          ∙ ap (λ (p : ℕ). Some (Span number start (length bytes) p)) next;
      stand = ap (take (length bytes)) e₂ ∙ take-append_seam bytes rest;
    }
