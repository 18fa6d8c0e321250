-- A RECORD THAT ENDS WITH ITS CRC leaves one register, whatever it is, and no other record of bytes does: so a reader need not know
-- where the CRC begins.
use mathlib.Core.Path.{◌≡◌, refl, sym, ap, ap₂, ◌∙◌}
use mathlib.Core.Bool.{Bool, true, false}
use mathlib.Core.List.{List, [], ◌∷◌, ◌++◌}
use Prim.Native.Nat.{ℕ, zero, suc, ◌+◌, ◌*◌, ◌/◌, ◌%◌, ◌^◌, ◌<◌}
use native.Mathlib.Nat.{zero-add}
use native.Mathlib.Omega.{arith}
use borrow.Author.Tests.{lt-ltb, le-ltb, ltb-true, eqb-true, eqb-false, eq-eqb}
use lib.ListN.{length}
use lib.Bits.{bit_xor, xor_zero_l, xor_zero_r, xor_comm, xor_lt, xor_shifted, xor_self, xor_block}
use lib.Dec.{ltb, eqb}
use Rattle.wire.specs.Choice.{when◌then◌else◌}
use Rattle.wire.specs.Lists.{all}
use Rattle.wire.specs.Numbers.{little_endian}
use Rattle.wire.proofs.TestLaws.{and_left, and_right, both}
use Rattle.wire.proofs.NumberLaws.{is_byte}
use Rattle.crc.specs.Crc.{polynomial, all_ones, shift_bit, shift_bits, shift_byte, register_after, crc32, residue}
use Rattle.crc.proofs.CrcLaws.{xor_assoc, bits_over}

-- ---- bytes taken one by one are taken at once

bits_more : (m n x : ℕ) → shift_bits (m + n) x ≡ shift_bits n (shift_bits m x)
unfolding shift_bits
bits_more zero n x = ap (λ (k : ℕ). shift_bits k x) (let e : 0 + n ≡ n = omega arith in e)
bits_more (suc m) n x = ap (λ (k : ℕ). shift_bits k x) (let e : suc m + n ≡ suc (m + n) = omega arith in e) ∙ bits_more m n (shift_bit x)

pub register_append : (r : ℕ) (xs ys : List ℕ) → register_after r (xs ++ ys) ≡ register_after (register_after r xs) ys
unfolding register_after
register_append r [] ys = refl
register_append r (x ∷ xs) ys = register_append (shift_byte r x) xs ys

bytes_at_once : (c : List ℕ) (r : ℕ) → all is_byte c ≡ true → register_after r c ≡ shift_bits (8 * length c) (bit_xor r (little_endian c))
unfolding register_after shift_byte little_endian
bytes_at_once [] r w = (unfold shift_bits in sym (xor_zero_r r))
bytes_at_once (b ∷ c) r w =
    let small : b < 256 = ltb-true _ _ (and_left (is_byte b) _ w) in
    let n : ℕ = little_endian c in
    let over : bit_xor (shift_bits 8 (bit_xor r b)) n ≡ shift_bits 8 (bit_xor (bit_xor r b) (n * 2 ^ 8)) =
    xor_comm (shift_bits 8 (bit_xor r b)) n ∙ sym (bits_over 8 n (bit_xor r b)) ∙ ap (shift_bits 8) (xor_comm (n * 2 ^ 8) (bit_xor r b)) in
    let joined : bit_xor b (n * 2 ^ 8) ≡ b + 256 * n = xor_comm b (n * 2 ^ 8) ∙ xor_shifted n 8 b small ∙ (let e : n * 2 ^ 8 + b ≡ b + 256 * n = omega arith in e) in
    bytes_at_once c (shift_bits 8 (bit_xor r b)) (and_right (is_byte b) _ w)
    ∙ ap (shift_bits (8 * length c)) over
    ∙ sym (bits_more 8 (8 * length c) (bit_xor (bit_xor r b) (n * 2 ^ 8)))
    ∙ ap₂ shift_bits (let e : 8 + 8 * length c ≡ 8 * length (b ∷ c) = omega arith in e) (xor_assoc r b (n * 2 ^ 8) ∙ ap (bit_xor r) joined)

-- ---- a shift of 32 bits can be undone

abbrev high : ℕ
high = 0x80000000

unshift : ℕ → ℕ
unshift y = when ltb y high then y * 2 else bit_xor y polynomial * 2 + 1

module _ (x : ℕ) (h : x < 2 ^ 32) where
  -- where a 1 falls out, the top bit is set
  odd : bit_xor (x / 2) polynomial ≡ high + bit_xor (x / 2) 0x6DB88320
  odd = ap (λ (k : ℕ). bit_xor k polynomial) (sym (zero-add (x / 2))) ∙ xor_block 31 0 1 (x / 2) 0x6DB88320 (omega arith) (omega arith)

  low : bit_xor (x / 2) 0x6DB88320 < high
  low = xor_lt 31 (x / 2) 0x6DB88320 (omega arith) (omega arith)

  back : bit_xor (bit_xor (x / 2) polynomial) polynomial ≡ x / 2
  back = xor_assoc (x / 2) polynomial polynomial ∙ ap (bit_xor (x / 2)) (xor_self polynomial) ∙ xor_zero_r (x / 2)

  shift_small : shift_bit x < 2 ^ 32
  unfolding shift_bit
  shift_small = go (eqb (x % 2) 0)
    where
      go : (t : Bool) → (when t then x / 2 else bit_xor (x / 2) polynomial) < 2 ^ 32
      go true = omega arith
      go false = omega (arith, odd, low)

  unshift_shift : unshift (shift_bit x) ≡ x
  unfolding shift_bit unshift
  unshift_shift = go (eqb (x % 2) 0) refl
    where
      go : (t : Bool) → eqb (x % 2) 0 ≡ t → unshift (when t then x / 2 else bit_xor (x / 2) polynomial) ≡ x
      go true e = rw (lt-ltb (x / 2) high (omega arith)) (omega (arith, eqb-true (x % 2) 0 e))
      go false e =
          rw (le-ltb (bit_xor (x / 2) polynomial) high (omega (arith, odd))) (omega (arith, back, eqb-false (x % 2) 0 e))

shifts_same : (n x y : ℕ) → x < 2 ^ 32 → y < 2 ^ 32 → shift_bits n x ≡ shift_bits n y → x ≡ y
unfolding shift_bits
shifts_same zero x y hx hy e = e
shifts_same (suc n) x y hx hy e =
    sym (unshift_shift x hx) ∙ ap unshift (shifts_same n (shift_bit x) (shift_bit y) (shift_small x hx) (shift_small y hy) e) ∙ unshift_shift y hy

-- ---- the register stays within 32 bits

shifts_small : (n x : ℕ) → x < 2 ^ 32 → shift_bits n x < 2 ^ 32
unfolding shift_bits
shifts_small zero x h = h
shifts_small (suc n) x h = shifts_small n (shift_bit x) (shift_small x h)

pub register_small : (xs : List ℕ) (r : ℕ) → all is_byte xs ≡ true → r < 2 ^ 32 → register_after r xs < 2 ^ 32
unfolding register_after shift_byte
register_small [] r w h = h
register_small (b ∷ xs) r w h =
    let small : b < 256 = ltb-true _ _ (and_left (is_byte b) _ w) in
    register_small xs (shift_bits 8 (bit_xor r b)) (and_right (is_byte b) _ w) (shifts_small 8 (bit_xor r b) (xor_lt 32 r b h (omega arith)))

-- ---- the claim

four_small : (c : List ℕ) → length c ≡ 4 → all is_byte c ≡ true → little_endian c < 2 ^ 32
unfolding little_endian
four_small [] e w = absurd (omega arith)
four_small (a ∷ []) e w = absurd (omega arith)
four_small (a ∷ b ∷ []) e w = absurd (omega arith)
four_small (a ∷ b ∷ c ∷ []) e w = absurd (omega arith)
four_small (a ∷ b ∷ c ∷ d ∷ x ∷ l) e w = absurd (omega arith)
four_small (a ∷ b ∷ c ∷ d ∷ []) e w =
    let ha : a < 256 = ltb-true _ _ (and_left (is_byte a) _ w) in
    let wb = and_right (is_byte a) _ w in
    let hb : b < 256 = ltb-true _ _ (and_left (is_byte b) _ wb) in
    let wc = and_right (is_byte b) _ wb in
    let hc : c < 256 = ltb-true _ _ (and_left (is_byte c) _ wc) in
    let wd = and_right (is_byte c) _ wc in
    let hd : d < 256 = ltb-true _ _ (and_left (is_byte d) _ wd) in
    omega arith

cancel : (a b : ℕ) → bit_xor a (bit_xor a b) ≡ b
cancel a b = sym (xor_assoc a a b) ∙ ap (λ (x : ℕ). bit_xor x b) (xor_self a) ∙ xor_zero_l b

-- bytes and four bytes behind them: these are their CRC exactly where the register comes to the residue
pub residue_tells : (xs c : List ℕ) → all is_byte xs ≡ true → all is_byte c ≡ true → length c ≡ 4
    → eqb (register_after all_ones (xs ++ c)) residue ≡ eqb (little_endian c) (crc32 xs)
unfolding crc32
residue_tells xs c w v four = both (eqb (register_after all_ones (xs ++ c)) residue) (eqb n (bit_xor r all_ones)) there here
  where
    r : ℕ
    r = register_after all_ones xs

    n : ℕ
    n = little_endian c

    hr : r < 2 ^ 32
    hr = register_small xs all_ones w (omega arith)

    hn : n < 2 ^ 32
    hn = four_small c four v

    is : register_after all_ones (xs ++ c) ≡ shift_bits 32 (bit_xor r n)
    is = register_append all_ones xs c ∙ bytes_at_once c r v ∙ ap (λ (k : ℕ). shift_bits (8 * k) (bit_xor r n)) four

    ones : shift_bits 32 all_ones ≡ residue
    ones = unfold shift_bits shift_bit in refl

    there : eqb (register_after all_ones (xs ++ c)) residue ≡ true → eqb n (bit_xor r all_ones) ≡ true
    there e =
        let same : bit_xor r n ≡ all_ones = shifts_same 32 (bit_xor r n) all_ones (xor_lt 32 r n hr hn) (omega arith) (sym is ∙ eqb-true _ _ e ∙ sym ones) in
        eq-eqb _ _ (sym (cancel r n) ∙ ap (bit_xor r) same)

    here : eqb n (bit_xor r all_ones) ≡ true → eqb (register_after all_ones (xs ++ c)) residue ≡ true
    here e = eq-eqb _ _ (is ∙ ap (λ (k : ℕ). shift_bits 32 (bit_xor r k)) (eqb-true _ _ e) ∙ ap (shift_bits 32) (cancel r all_ones) ∙ ones)
