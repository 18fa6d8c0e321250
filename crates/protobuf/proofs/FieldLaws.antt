-- Whatever is read at a position ends behind it, and it and its bytes are within the body.
use Rattle.std.proofs.Common.{Option, Some, None}
use Prim.Native.Nat.{ℕ, zero, suc, ◌+◌, ◌-◌, ◌/◌, ◌%◌, ◌^◌, ◌≤◌, ◌<◌}
use native.Mathlib.Omega.{arith}
use mathlib.Core.List.{List}
use lib.ListN.{length, get_or}
use lib.Dec.{ltb, leb, eqb}
use borrow.Author.Tests.{ltb-true, leb-true}
use Rattle.protobuf.specs.Varint.{below, varint_of, varint_at}
use Rattle.protobuf.specs.Field.{varint_then, number_at, fixed_at, span_at, content_at, field_at}
use Rattle.protobuf.specs.declared.field.Field.{Field}
use Rattle.protobuf.specs.declared.field.Field.TheVariants.{Number, Span, Fixed, GroupStart, GroupEnd}
use Rattle.wire.proofs.TestLaws.{either}

-- `next` is behind `at`, and within n bytes
pub record Ahead (n at next : ℕ) : Type 0 where
  pub behind : at < next
  pub within : next ≤ n

abbrev pub VarintAhead : ℕ → ℕ → Option (ℕ × ℕ) → Type 0
VarintAhead n at (Some (v, next)) = Ahead n at next
VarintAhead n at None = Unit {0}

abbrev pub FieldAhead : ℕ → ℕ → Option Field → Type 0
FieldAhead n at (Some (Number f v next)) = Ahead n at next
FieldAhead n at (Some (Span f start len next)) = Ahead n at next × (start + len ≤ n)
FieldAhead n at (Some (Fixed f next)) = Ahead n at next
FieldAhead n at (Some (GroupStart f next)) = Ahead n at next
FieldAhead n at (Some (GroupEnd f next)) = Ahead n at next
FieldAhead n at None = Unit {0}

pub below_ahead : (n at low : ℕ) (r : Option (ℕ × ℕ)) → VarintAhead n (at + 1) r → VarintAhead n at (below low r)
below_ahead n at low (Some (v, next)) h = omega arith
below_ahead n at low None h = tt

pub varint_ahead : (more : ℕ) (s : List ℕ) (at : ℕ) → VarintAhead (length s) at (varint_of more s at)
unfolding varint_of
varint_ahead zero s at =
    either (VarintAhead (length s) at) (ltb at (length s))
    (λ h. either (VarintAhead (length s) at) (leb (get_or s at 0) 1) (λ _. omega (arith, ltb-true)) (λ _. tt))
    (λ _. tt)
varint_ahead (suc more) s at =
    either (VarintAhead (length s) at) (ltb at (length s))
    (λ h. either (VarintAhead (length s) at) (ltb (get_or s at 0) 128)
    (λ _. omega (arith, ltb-true))
    (λ _. below_ahead (length s) at (get_or s at 0 - 128) (varint_of more s (at + 1)) (varint_ahead more s (at + 1))))
    (λ _. tt)

-- the same of what stands behind the tag, which may be nothing
abbrev pub FieldFrom : ℕ → ℕ → Option Field → Type 0
FieldFrom n at (Some (Number f v next)) = (at ≤ next) × (next ≤ n)
FieldFrom n at (Some (Span f start len next)) = (at ≤ next) × (next ≤ n) × (start + len ≤ n)
FieldFrom n at (Some (Fixed f next)) = (at ≤ next) × (next ≤ n)
FieldFrom n at (Some (GroupStart f next)) = (at ≤ next) × (next ≤ n)
FieldFrom n at (Some (GroupEnd f next)) = (at ≤ next) × (next ≤ n)
FieldFrom n at None = Unit {0}

-- what is made of a varint has P, where what is made of its value has
then_has : (P : Option Field → Type 0) (n at : ℕ) (r : Option (ℕ × ℕ)) (f : ℕ → ℕ → Option Field) → P None → VarintAhead n at r → ((v next : ℕ) → Ahead n at next → P (f v next)) → P (varint_then r f)
then_has P n at (Some (v, next)) f u h g = g v next h
then_has P n at None f u h g = u

tagged : (n at p : ℕ) (f : Option Field) → at < p → FieldFrom n p f → FieldAhead n at f
tagged n at p (Some (Number f v next)) l h = omega arith
tagged n at p (Some (Span f start len next)) l h = omega arith
tagged n at p (Some (Fixed f next)) l h = omega arith
tagged n at p (Some (GroupStart f next)) l h = omega arith
tagged n at p (Some (GroupEnd f next)) l h = omega arith
tagged n at p None l h = tt

module _ (s : List ℕ) (f : ℕ) where
  number_from : (at : ℕ) → FieldFrom (length s) at (number_at s f at)
  unfolding number_at
  number_from at = then_has (FieldFrom (length s) at) _ _ (varint_at s at) _ tt (varint_ahead 9 s at) (λ v next h. omega arith)

  fixed_from : (size at : ℕ) → FieldFrom (length s) at (fixed_at s f size at)
  unfolding fixed_at
  fixed_from size at =
      either (FieldFrom (length s) at) (leb (at + size) (length s)) (λ e. omega (arith, leb-true (at + size) (length s) e)) (λ _. tt)

  span_from : (at : ℕ) → FieldFrom (length s) at (span_at s f at)
  unfolding span_at
  span_from at =
      then_has (FieldFrom (length s) at) _ _ (varint_at s at) _ tt (varint_ahead 9 s at)
      (λ len start h. either (FieldFrom (length s) at) (leb (start + len) (length s)) (λ e. omega (arith, leb-true (start + len) (length s) e)) (λ _. tt))

  pub content_from : (wire at : ℕ) → at ≤ length s → FieldFrom (length s) at (content_at s f wire at)
  unfolding content_at
  content_from wire at h =
      let P = FieldFrom (length s) at in
      either P (eqb wire 0) (λ _. number_from at)
      (λ _. either P (eqb wire 1) (λ _. fixed_from 8 at)
      (λ _. either P (eqb wire 2) (λ _. span_from at)
      (λ _. either P (eqb wire 3) (λ _. omega arith)
      (λ _. either P (eqb wire 4) (λ _. omega arith)
      (λ _. either P (eqb wire 5) (λ _. fixed_from 4 at) (λ _. tt))))))

pub field_ahead : (s : List ℕ) (at : ℕ) → FieldAhead (length s) at (field_at s at)
unfolding field_at
field_ahead s at =
    let P = FieldAhead (length s) at in
    then_has P _ _ (varint_at s at) _ tt (varint_ahead 9 s at)
    (λ tag next h. either P (ltb tag (2 ^ 32))
    (λ _. either P (eqb (tag / 8) 0) (λ _. tt)
    (λ _. tagged (length s) at next (content_at s (tag / 8) (tag % 8) next) h.behind (content_from s (tag / 8) (tag % 8) next h.within)))
    (λ _. tt))
