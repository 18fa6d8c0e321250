-- Laws of `varint_of`, and of the sum that `read_varint` keeps while it reads.
use Rattle.std.proofs.Common.{Option, Some, None}
use Prim.Native.Nat.{ℕ, zero, suc, ◌+◌, ◌-◌, ◌*◌, ◌^◌, ◌≤◌, ◌<◌}
use native.Mathlib.Nat.{add-mul, mul_assoc, mul_comm, pow-suc, mul-le-mul_right, le-mul_of_pos_right, one-le-pow}
use native.Mathlib.Omega.{arith}
use native.Mathlib.Numerals.{sub-one}
use mathlib.Core.Path.{◌≡◌, refl, sym, ap, ◌∙◌}
use mathlib.Core.List.{List}
use lib.ListN.{length, get_or}
use lib.Dec.{lit<}
use borrow.Author.Tests.{lt-ltb, le-ltb, le-leb, lt-leb}
use Rattle.std.proofs.lemmas.Grind.{common_steps}
use Rattle.protobuf.specs.Varint.{below, varint_of}

-- ---- what `varint_of` gives, by the byte at hand
module _ (s : List ℕ) (p : ℕ) where
  pub cut : (n : ℕ) → length s ≤ p → varint_of n s p ≡ None
  unfolding varint_of
  cut zero h = simp (le-ltb _ _ h)
  cut (suc n) h = simp (le-ltb _ _ h)

  pub last : p < length s → get_or s p 0 ≤ 1 → varint_of 0 s p ≡ Some (get_or s p 0, p + 1)
  unfolding varint_of
  last h l = simp (lt-ltb _ _ h, le-leb _ _ l)

  pub too_large : p < length s → 1 < get_or s p 0 → varint_of 0 s p ≡ None
  unfolding varint_of
  too_large h l = simp (lt-ltb _ _ h, lt-leb _ _ l)

  pub ends : (n : ℕ) → 0 < n → p < length s → get_or s p 0 < 128 → varint_of n s p ≡ Some (get_or s p 0, p + 1)
  unfolding varint_of
  ends zero z h l = absurd (omega arith)
  ends (suc n) z h l = simp (lt-ltb _ _ h, lt-ltb _ _ l)

  pub goes_on : (n : ℕ) → 0 < n → p < length s → 128 ≤ get_or s p 0 → varint_of n s p ≡ below (get_or s p 0 - 128) (varint_of (n - 1) s (p + 1))
  unfolding varint_of
  goes_on zero z h l = absurd (omega arith)
  goes_on (suc n) z h l = simp (lt-ltb _ _ h, le-ltb _ _ l, sub-one)

-- ---- a value with `r` times `scale` on top of it
abbrev pub onto : ℕ → ℕ → Option (ℕ × ℕ) → Option (ℕ × ℕ)
onto value scale (Some (v, next)) = Some (value + v * scale, next)
onto value scale None = None

pub onto_none : (r : Option (ℕ × ℕ)) → onto 0 1 r ≡ r
onto_none (Some (v, next)) = ap (λ (n : ℕ). Some (n, next)) (omega arith)
onto_none None = refl

pub onto_below : (value scale low : ℕ) (r : Option (ℕ × ℕ)) → onto value scale (below low r) ≡ onto (value + low * scale) (scale * 128) r
onto_below value scale low (Some (v, next)) =
    ap (λ (n : ℕ). Some (n, next))
    (omega (arith, add-mul low (128 * v) scale, mul_assoc 128 v scale, mul_assoc v scale 128))
onto_below value scale low None = refl

-- ---- the scale while `left` more bytes may follow
pub scale_next : (scale left : ℕ) → 0 < left → scale * 128 ^ left ≡ 2 ^ 63 → (scale * 128) * 128 ^ (left - 1) ≡ 2 ^ 63
scale_next scale zero z e = absurd (omega arith)
scale_next scale (suc n) z e = rw (sub-one, mul_assoc scale 128 (128 ^ n), mul_comm 128 (128 ^ n), ← pow-suc 128 n) e

pub scale_le : (scale left : ℕ) → scale * 128 ^ left ≡ 2 ^ 63 → scale ≤ 2 ^ 63
scale_le scale left e = rw e at (le-mul_of_pos_right scale (one-le-pow left 128 (lit< tt)))

pub scale_room : (scale left : ℕ) → 0 < left → scale * 128 ^ left ≡ 2 ^ 63 → scale * 128 ≤ 2 ^ 63
scale_room scale left z e = scale_le (scale * 128) (left - 1) (scale_next scale left z e)

pub sum_below : (value scale b : ℕ) → value < scale → b < 128 → value + b * scale < scale * 128
sum_below value scale b h l = let k : b * scale ≤ 127 * scale = mul-le-mul_right scale (omega arith) in omega arith

-- ---- what a reader has at p, after i bytes with a high bit
pub record Summed (s : List ℕ) (at i p value scale : ℕ) : Type 0 where
  pub gives : onto value scale (varint_of (9 - i) s p) ≡ varint_of 9 s at
  pub scaled : scale * 128 ^ (9 - i) ≡ 2 ^ 63
  pub below : value < scale

pub summed_none : (s : List ℕ) (at : ℕ) → Summed s at 0 at 0 1
summed_none s at = record { gives = onto_none (varint_of 9 s at); scaled = refl; below = omega arith }

module _ {s : List ℕ} {at i p value scale : ℕ} (u : Summed s at i p value scale) where
  pub summed_cut : length s ≤ p → varint_of 9 s at ≡ None
  summed_cut h = sym u.gives ∙ ap (onto value scale) (cut s p (9 - i) h)

  pub more_room : i < 9 → scale * 128 ≤ 2 ^ 63
  more_room h = scale_room scale (9 - i) (omega arith) u.scaled

  pub sum_room : {b : ℕ} → i < 9 → b < 128 → (value + b * scale < scale * 128) × (scale * 128 ≤ 2 ^ 63)
  sum_room {b} h l = (sum_below value scale b u.below l, more_room h)

  module _ (b : ℕ) (within : p < length s) (byte : b ≡ get_or s p b) where
    is : get_or s p 0 ≡ b
    is = grind (arith, common_steps)

    pub summed_end : i < 9 → b < 128 → Some (value + b * scale, p + 1) ≡ varint_of 9 s at
    summed_end h l =
        let small : get_or s p 0 < 128 = omega (arith, is) in
        rw is at (sym (ap (onto value scale) (ends s p (9 - i) (omega arith) within small)) ∙ u.gives)

    pub summed_more : i < 9 → 128 ≤ b → b < 256 → Summed s at (i + 1) (p + 1) (value + (b - 128) * scale) (scale * 128)
    summed_more h l m =
        let marked : 128 ≤ get_or s p 0 = omega (arith, is) in
        let fewer : 9 - (i + 1) ≡ 9 - i - 1 = omega arith in
        let some : 0 < 9 - i = omega arith in
        record {
          gives = rw fewer (rw (goes_on s p (9 - i) some within marked, onto_below, is) at u.gives);
          scaled = rw fewer (scale_next scale (9 - i) some u.scaled);
          below = sum_below value scale (b - 128) u.below (omega arith);
        }

    -- the tenth byte, where all nine before it went on
    nine : 9 ≤ i → onto value scale (varint_of 0 s p) ≡ varint_of 9 s at
    nine l = let none : 9 - i ≡ 0 = omega arith in rw none at u.gives

    pub tenth_large : 9 ≤ i → 1 < b → varint_of 9 s at ≡ None
    tenth_large l h = sym (nine l) ∙ ap (onto value scale) (too_large s p within (omega (arith, is)))

    pub tenth : 9 ≤ i → b ≤ 1 → Some (value + b * scale, p + 1) ≡ varint_of 9 s at
    tenth l h = rw is at (sym (ap (onto value scale) (last s p within (omega (arith, is)))) ∙ nine l)

pub ruleset sums = (summed_none, more_room, sum_room, summed_cut, summed_end, tenth)
