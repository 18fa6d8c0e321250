-- Laws of CRC-32: eight bits at once by what they make of the low byte alone, and the published check value.
use mathlib.Core.Path.{◌≡◌, refl, sym, ap, ap₂, ◌∙◌}
use mathlib.Core.Bool.{Bool, true, false}
use mathlib.Core.List.{List, [], ◌∷◌}
use Prim.Native.Nat.{ℕ, zero, suc, ◌+◌, ◌*◌, ◌/◌, ◌%◌, ◌^◌, ◌≤◌, ◌<◌}
use native.Mathlib.Nat.{mul-one}
use native.Mathlib.Numerals.{add-one}
use native.Mathlib.Omega.{arith}
use lib.Arith.{bin_ind}
use lib.Bits.{bit_xor, differ, xor_step, xor_zero_r, xor_shr, xor_shifted, shifted_half, shifted_even}
use lib.ListN.{length, drop, get_or, drop_of_length-le}
use lib.Seq.{drop-cons}
use lib.Pow.{split}
use lib.Dec.{eqb}
use Rattle.wire.specs.Choice.{when◌then◌else◌}
use Rattle.crc.specs.Crc.{polynomial, shift_bit, shift_bits, shift_byte, register_after, crc32}

-- ---- the order of three

digit_assoc : (x y z : ℕ) → x < 2 → y < 2 → z < 2 → (differ (differ x y) z ≡ differ x (differ y z)) × (differ x y < 2)
digit_assoc zero y z hx hy hz = (refl, hy)
digit_assoc (suc zero) zero z hx hy hz = (refl, omega arith)
digit_assoc (suc zero) (suc zero) zero hx hy hz = (refl, omega arith)
digit_assoc (suc zero) (suc zero) (suc zero) hx hy hz = (refl, omega arith)
digit_assoc (suc zero) (suc zero) (suc (suc z)) hx hy hz = absurd (omega arith)
digit_assoc (suc zero) (suc (suc y)) z hx hy hz = absurd (omega arith)
digit_assoc (suc (suc x)) y z hx hy hz = absurd (omega arith)

module _ (a b : ℕ) where
  xor_digit : (differ (a % 2) (b % 2) < 2)
  xor_digit = (digit_assoc (a % 2) (b % 2) 0 (omega arith) (omega arith) (omega arith)).1

  xor_half : bit_xor a b / 2 ≡ bit_xor (a / 2) (b / 2)
  xor_half = omega (arith, xor_step a b, xor_digit)

  xor_odd : bit_xor a b % 2 ≡ differ (a % 2) (b % 2)
  xor_odd = omega (arith, xor_step a b, xor_digit)

pub xor_assoc : (a b c : ℕ) → bit_xor (bit_xor a b) c ≡ bit_xor a (bit_xor b c)
xor_assoc = bin_ind (λ (n : ℕ). (b c : ℕ) → bit_xor (bit_xor n b) c ≡ bit_xor n (bit_xor b c)) (λ b c. refl)
    (λ n ih b c.
    xor_step (bit_xor n b) c
    ∙ ap₂ (λ (x y : ℕ). bit_xor x (c / 2) * 2 + differ y (c % 2)) (xor_half n b) (xor_odd n b)
    ∙ ap₂ (λ (x y : ℕ). x * 2 + y) (ih (b / 2) (c / 2)) (digit_assoc (n % 2) (b % 2) (c % 2) (omega arith) (omega arith) (omega arith)).0
    ∙ ap₂ (λ (x y : ℕ). bit_xor (n / 2) x * 2 + differ (n % 2) y) (sym (xor_half b c)) (sym (xor_odd b c))
    ∙ sym (xor_step n (bit_xor b c)))

-- ---- bits above those that are shifted out only move down

module _ (a k y : ℕ) where
  over_half : bit_xor (a * 2 ^ suc k) y / 2 ≡ bit_xor (a * 2 ^ k) (y / 2)
  over_half = xor_half (a * 2 ^ suc k) y ∙ ap (λ (x : ℕ). bit_xor x (y / 2)) (shifted_half a k)

  over_odd : bit_xor (a * 2 ^ suc k) y % 2 ≡ y % 2
  over_odd = xor_odd (a * 2 ^ suc k) y ∙ ap (λ (x : ℕ). differ x (y % 2)) (shifted_even a k)

  bit_over : shift_bit (bit_xor (a * 2 ^ suc k) y) ≡ bit_xor (a * 2 ^ k) (shift_bit y)
  unfolding shift_bit
  bit_over =
      ap₂ (λ (h o : ℕ). when eqb o 0 then h else bit_xor h polynomial) over_half over_odd ∙ go (eqb (y % 2) 0)
    where
      go : (t : Bool) → (when t then bit_xor (a * 2 ^ k) (y / 2) else bit_xor (bit_xor (a * 2 ^ k) (y / 2)) polynomial)
          ≡ bit_xor (a * 2 ^ k) (when t then y / 2 else bit_xor (y / 2) polynomial)
      go true = refl
      go false = xor_assoc (a * 2 ^ k) (y / 2) polynomial

pub bits_over : (k a y : ℕ) → shift_bits k (bit_xor (a * 2 ^ k) y) ≡ bit_xor a (shift_bits k y)
unfolding shift_bits
bits_over zero a y = ap (λ (x : ℕ). bit_xor x y) (mul-one a)
bits_over (suc k) a y = ap (shift_bits k) (bit_over a k y) ∙ bits_over k a (shift_bit y)

-- the register after a byte, from its upper bytes and what the table has for the low one
pub byte_by_table : (register byte : ℕ) → byte < 256
    → shift_byte register byte ≡ bit_xor (register / 256) (shift_bits 8 (bit_xor register byte % 256))
unfolding shift_byte
byte_by_table r b h =
    let m : ℕ = bit_xor r b in
    let small : m % 256 < 256 = omega arith in
    let upper : m / 256 ≡ r / 256 = xor_shr r b 8 ∙ ap (bit_xor (r / 256)) (let z : b / 256 ≡ 0 = omega arith in z) ∙ xor_zero_r (r / 256) in
    ap (shift_bits 8) (sym (split m 8) ∙ sym (xor_shifted (m / 256) 8 (m % 256) small))
    ∙ bits_over 8 (m / 256) (m % 256)
    ∙ ap (λ (x : ℕ). bit_xor x (shift_bits 8 (m % 256))) upper

-- ---- the register after the bytes from i on

module _ (register : ℕ) (bytes : List ℕ) (i : ℕ) where
  pub register_on : i < length bytes → register_after register (drop i bytes) ≡ register_after (shift_byte register (get_or bytes i 0)) (drop (i + 1) bytes)
  unfolding register_after
  register_on h = rw (add-one, drop-cons bytes i 0 h)

  pub register_end : length bytes ≤ i → register_after register (drop i bytes) ≡ register
  unfolding register_after
  register_end h = rw (drop_of_length-le bytes h)

-- ---- the published check value: "123456789"

pub check_value : crc32 (0x31 ∷ 0x32 ∷ 0x33 ∷ 0x34 ∷ 0x35 ∷ 0x36 ∷ 0x37 ∷ 0x38 ∷ 0x39 ∷ []) ≡ 0xCBF43926
unfolding crc32 register_after shift_byte shift_bits shift_bit
check_value = refl
