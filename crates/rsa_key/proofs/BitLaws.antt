-- How many bits a number has, by the powers of two around it.
use mathlib.Core.Path.{◌≡◌, refl, sym, ap, ◌∙◌}
use mathlib.Core.Logic.{⊎_elim}
use Prim.Native.Nat.{ℕ, zero, suc, ◌+◌, ◌*◌, ◌-◌, ◌/◌, ◌^◌, ◌≤◌, ◌<◌}
use native.Mathlib.Nat.{pow-suc, pow-le-pow_right, div-eq_of_lt-le, div-mul-le_self, lt-div-mul-add, eq-zero-or-pos}
use native.Mathlib.Omega.{arith}
use borrow.Author.Tests.{le-leb, lt-leb, eq-eqb, eqb-true}
use lib.Dec.{eqb}
use lib.Pow.{pow_pos}
use Rattle.std.specs.Int.Count.{count_leading_zeros, leading_of_zero}
use Rattle.std.proofs.lemmas.Nat.{leading_top}
use Rattle.wire.proofs.TestLaws.{both}
use Rattle.bignum.proofs.Values.{le_or_lt}
use Rattle.rsa_key.specs.Key.{has_bits, bit_count}

-- powers in order
pub power_below : (a b n : ℕ) → 2 ^ a ≤ n → n < 2 ^ b → a < b
power_below a b n l h =
    ⊎_elim
    (λ (k : b ≤ a). let z : 2 ^ b ≤ 2 ^ a = pow-le-pow_right (omega arith) k in omega arith)
    (λ (k : a < b). k)
    (le_or_lt b a)

pub count_zero : (w : ℕ) → bit_count w 0 ≡ 0
count_zero zero = refl
count_zero (suc w) = rw (lt-leb (2 ^ w) 0 (pow_pos w)) (count_zero w)

pub count_is : (w b n : ℕ) → 2 ^ b ≤ n → n < 2 ^ suc b → b < w → bit_count w n ≡ suc b
count_is zero b n l h s = omega arith
count_is (suc w) b n l h s =
    ⊎_elim
    (λ (k : 2 ^ w ≤ n).
    let e : suc w ≡ suc b = let z : w < suc b = power_below w (suc b) n k h in omega arith in
    rw (le-leb (2 ^ w) n k) e)
    (λ (k : n < 2 ^ w). rw (lt-leb (2 ^ w) n k) (count_is w b n l h (power_below b w n l k)))
    (le_or_lt (2 ^ w) n)

-- a byte has the bits that do not lead as zeros
pub by_leading : (n : ℕ) → n < 256 → 8 - count_leading_zeros 8 n ≡ bit_count 8 n
by_leading n h =
    ⊎_elim
    (λ (z : n ≡ 0). ap (λ (k : ℕ). 8 - count_leading_zeros 8 k) z ∙ rw (leading_of_zero 8) (sym (ap (λ (k : ℕ). bit_count 8 k) z ∙ count_zero 8)))
    (λ (p : 0 < n).
    let (j, e, low, high) = leading_top 8 n p h in
    let c : bit_count 8 n ≡ suc j = count_is 8 j n low high (omega arith) in
    omega arith)
    (eq-zero-or-pos n)

-- a number between the powers that its count names
pub record Counted (n c : ℕ) : Type 0 where
  pub some : 0 < c
  pub least : 2 ^ (c - 1) ≤ n
  pub most : n < 2 ^ c

pub count_range : (w n : ℕ) → 0 < n → n < 2 ^ w → Counted n (bit_count w n)
count_range zero n p h = omega arith
count_range (suc w) n p h =
    ⊎_elim
    (λ (k : 2 ^ w ≤ n). rw (le-leb (2 ^ w) n k) (record { some = omega arith; least = let e : suc w - 1 ≡ w = omega arith in rw e k; most = h }))
    (λ (k : n < 2 ^ w). rw (lt-leb (2 ^ w) n k) (count_range w n p k))
    (le_or_lt (2 ^ w) n)

-- a number has exactly so many bits where that is their count
pub has_count : (w n bits : ℕ) → n < 2 ^ w → 0 < bits → has_bits n bits ≡ eqb (bit_count w n) bits
has_count w n bits h p =
    let b : ℕ = bits - 1 in
    let s : suc b ≡ bits = omega arith in
    let twice : 2 ^ bits ≡ 2 ^ b * 2 = ap (λ (k : ℕ). 2 ^ k) (sym s) ∙ pow-suc 2 b in
    both (eqb (n / 2 ^ b) 1) (eqb (bit_count w n) bits)
    (λ q.
    let e : n / 2 ^ b ≡ 1 = eqb-true (n / 2 ^ b) 1 q in
    let u : n / 2 ^ b * 2 ^ b ≤ n = div-mul-le_self n (2 ^ b) in
    let l : 1 * 2 ^ b ≤ n = rw e at u in
    let v : n < n / 2 ^ b * 2 ^ b + 2 ^ b = lt-div-mul-add (pow_pos b) in
    let m : n < 1 * 2 ^ b + 2 ^ b = rw e at v in
    let c : bit_count w n ≡ suc b = count_is w b n (omega arith) (rw s (omega arith)) (power_below b w n (omega arith) h) in
    eq-eqb (bit_count w n) bits (c ∙ s))
    (λ q.
    let e : bit_count w n ≡ bits = eqb-true (bit_count w n) bits q in
    ⊎_elim
    (λ (z : n ≡ 0). let c : bit_count w n ≡ 0 = ap (λ (k : ℕ). bit_count w k) z ∙ count_zero w in absurd (omega arith))
    (λ (z : 0 < n).
    let r : Counted n bits = rw e at (count_range w n z h) in
    eq-eqb (n / 2 ^ b) 1 (div-eq_of_lt-le (2 ^ b) (omega (arith, r.least)) (omega (arith, r.most))))
    (eq-zero-or-pos n))
