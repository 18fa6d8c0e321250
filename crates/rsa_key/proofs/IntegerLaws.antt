-- An INTEGER's bytes within data, and its value.
use mathlib.Core.Path.{◌≡◌, refl, sym, ap, ◌∙◌, subst}
use mathlib.Core.Bool.{Bool, true, false, ◌&&◌, ◌||◌}
use mathlib.Core.List.{List, [], ◌∷◌, reverse}
use mathlib.Core.Logic.{⊎_elim, ◌⊎◌, inl, inr}
use Prim.Native.Nat.{ℕ, suc, ◌+◌, ◌*◌, ◌-◌, ◌/◌, ◌%◌, ◌^◌, ◌≤◌, ◌<◌}
use native.Mathlib.Nat.{eq-zero-or-pos, mul-le-mul_left}
use native.Mathlib.Numerals.{add-one}
use native.Mathlib.Omega.{arith}
use borrow.Author.Tests.{eq-eqb, ne_eqb, eqb-true, eqb-false, ltb-true, leb-true}
use lib.Dec.{eqb, leb, ltb}
use lib.Pow.{pow-add}
use lib.ListN.{length, get_or, take, drop, length-take, length-drop}
use lib.Seq.{drop-cons, get_or-take, get_or-drop}
use Rattle.bignum.specs.Numbers.{value_in}
use Rattle.rsa_key.specs.Octets.{os2ip}
use Rattle.rsa_key.specs.Key.{unsigned, number_in, has_bits, bit_count}
use Rattle.bignum.proofs.Values.{Digits, digits_take, digits_drop, get_d_reverse, rest_any}
use Rattle.wire.proofs.TestLaws.{and_left, and_right}
use Rattle.rsa_key.proofs.ModulusLaws.{exactly, set_first, at_least, os2ip_cons, below, bytes_bits}
use Rattle.rsa_key.proofs.BitLaws.{Counted, count_zero, count_is, count_range, power_below}

or_cases : (a b : Bool) → a || b ≡ true → (a ≡ true) ⊎ (b ≡ true)
or_cases true b h = inl refl
or_cases false b h = inr h

eqb_next : (a b : ℕ) → eqb (a + 1) (b + 1) ≡ eqb a b
eqb_next a b = go (eqb a b) refl
  where
    go : (t : Bool) → eqb a b ≡ t → eqb (a + 1) (b + 1) ≡ eqb a b
    go true e = let h = eqb-true a b e in eq-eqb (a + 1) (b + 1) (omega arith) ∙ sym e
    go false e = let h = eqb-false a b e in ne_eqb (a + 1) (b + 1) (λ f. h (omega arith)) ∙ sym e

module _ (s : List ℕ) (start len : ℕ) (d : Digits 256 s) (fits : start + len ≤ length s) (u : unsigned s start len ≡ true) where
  abbrev first : ℕ
  first = get_or s start 0

  abbrev others : List ℕ
  others = take (len - 1) (drop (start + 1) s)

  pub some : 0 < len
  unfolding unsigned
  some = ltb-true 0 len (and_left (ltb 0 len) (ltb first 128 && (eqb len 1 || (ltb 0 first || leb 128 (get_or s (start + 1) 0)))) u)

  small : first < 128
  unfolding unsigned
  small = ltb-true first 128 (and_left (ltb first 128) (eqb len 1 || (ltb 0 first || leb 128 (get_or s (start + 1) 0))) (and_right (ltb 0 len) (ltb first 128 && (eqb len 1 || (ltb 0 first || leb 128 (get_or s (start + 1) 0)))) u))

  minimal : (eqb len 1 ≡ true) ⊎ (ltb 0 first || leb 128 (get_or s (start + 1) 0) ≡ true)
  unfolding unsigned
  minimal = or_cases (eqb len 1) (ltb 0 first || leb 128 (get_or s (start + 1) 0)) (and_right (ltb first 128) (eqb len 1 || (ltb 0 first || leb 128 (get_or s (start + 1) 0))) (and_right (ltb 0 len) (ltb first 128 && (eqb len 1 || (ltb 0 first || leb 128 (get_or s (start + 1) 0)))) u))

  parts : take len (drop start s) ≡ first ∷ others
  parts =
      let e : len ≡ suc (len - 1) = let h = some in omega arith in
      let h : start < length s = let z = some in omega arith in
      ap (λ (k : ℕ). take k (drop start s)) e ∙ rw (drop-cons s start 0 h, add-one)

  others_length : length others ≡ len - 1
  others_length = let h = some in simp (length-take, length-drop) (omega arith)

  others_digits : Digits 256 others
  others_digits = digits_take 256 (len - 1) (drop (start + 1) s) (digits_drop 256 (start + 1) s d)

  least : (y : ℕ) (ys : List ℕ) → others ≡ y ∷ ys → first ≡ 0 → 128 ≤ y
  least y ys e z =
      let l : len - 1 ≡ suc (length ys) = sym others_length ∙ ap (λ (l : List ℕ). length l) e in
      let same : get_or s (start + 1 + 0) 0 ≡ y = sym (get_or-take (len - 1) (drop (start + 1) s) 0 0 (omega arith) ∙ get_or-drop (start + 1) s 0 0) ∙ ap (λ (l : List ℕ). get_or l 0 0) e in
      let n : start + 1 + 0 ≡ start + 1 = omega arith in
      let same' : get_or s (start + 1) 0 ≡ y = rw n at same in
      ⊎_elim
      (λ (a : eqb len 1 ≡ true). let h = eqb-true len 1 a in omega arith)
      (λ (b : ltb 0 first || leb 128 (get_or s (start + 1) 0) ≡ true).
      ⊎_elim
      (λ (a : ltb 0 first ≡ true). let h = ltb-true 0 first a in omega arith)
      (λ (c : leb 128 (get_or s (start + 1) 0) ≡ true). let h = leb-true 128 (get_or s (start + 1) 0) c in omega arith)
      (or_cases (ltb 0 first) (leb 128 (get_or s (start + 1) 0)) b))
      minimal

  -- exactly so many bits: a zero byte and then as many bytes
  pub bits_by_bytes : (bits : ℕ) → bits % 8 ≡ 0 → 8 ≤ bits → has_bits (number_in s start len) bits ≡ eqb len (bits / 8 + 1) && eqb first 0
  bits_by_bytes bits m h =
      let n : ℕ = bits / 8 - 1 in
      let e : 8 * (n + 1) - 1 ≡ bits - 1 = omega arith in
      let f : n + 1 ≡ bits / 8 = omega arith in
      let g : len - 1 + 1 ≡ len = let z = some in omega arith in
      let x : eqb (length others) (n + 1) && eqb first 0 ≡ eqb (os2ip (first ∷ others) / 2 ^ (8 * (n + 1) - 1)) 1 = exactly n first others others_digits small least in
      let y : eqb (len - 1) (bits / 8) && eqb first 0 ≡ eqb (os2ip (first ∷ others) / 2 ^ (bits - 1)) 1 = rw (others_length, e, f) at x in
      ap (λ (l : List ℕ). eqb (os2ip l / 2 ^ (bits - 1)) 1) parts ∙ sym y
      ∙ ap (λ (t : Bool). t && eqb first 0) (sym (eqb_next (len - 1) (bits / 8)) ∙ ap (λ (k : ℕ). eqb k (bits / 8 + 1)) g)

  -- six bytes or more are too large for 32 bits
  pub long_is_large : 5 < len → 4294967295 < number_in s start len
  long_is_large h =
      let l : 4 + 1 ≤ length others = rw others_length (omega arith) in
      let v : 4294967295 < os2ip (first ∷ others) =
      ⊎_elim
      (λ (z : first ≡ 0). go z others refl)
      (λ (z : 0 < first). let w : 256 * 256 ^ 4 ≤ os2ip (first ∷ others) = set_first 4 first others others_digits small l z in omega arith)
      (eq-zero-or-pos first) in
      subst (λ (xs : List ℕ). 4294967295 < os2ip xs) (sym parts) v
    where
      go : first ≡ 0 → (xs : List ℕ) → others ≡ xs → 4294967295 < os2ip (first ∷ others)
      go z [] e = let l : len - 1 ≡ 0 = sym others_length ∙ ap (λ (l : List ℕ). length l) e in omega arith
      go z (y ∷ ys) e =
          let l : len - 1 ≡ suc (length ys) = sym others_length ∙ ap (λ (l : List ℕ). length l) e in
          let w : 128 * 256 ^ 4 ≤ os2ip (first ∷ others) = at_least 0 first others others_digits small y ys e (least y ys e z) 4 (omega arith) in
          omega arith

  -- the last byte tells whether the number is odd
  pub odd_by_last : number_in s start len % 2 ≡ get_or s (start + len - 1) 0 % 2
  odd_by_last =
      let c : List ℕ = take len (drop start s) in
      let l : length c ≡ len = let h = some in simp (length-take, length-drop) (omega arith) in
      let i : length c - 1 - 0 ≡ len - 1 = omega arith in
      let r : value_in 256 (reverse c) ≡ get_or (reverse c) 0 0 + 256 * value_in 256 (drop (0 + 1) (reverse c)) = rest_any 256 (reverse c) 0 in
      let b : get_or (reverse c) 0 0 ≡ get_or c (length c - 1 - 0) 0 = get_d_reverse c 0 (let h = some in omega arith) in
      let k : get_or c (length c - 1 - 0) 0 ≡ get_or s (start + (len - 1)) 0 = ap (λ (n : ℕ). get_or c n 0) i ∙ get_or-take len (drop start s) (len - 1) 0 (let h = some in omega arith) ∙ get_or-drop start s (len - 1) 0 in
      let j : start + (len - 1) ≡ start + len - 1 = let h = some in omega arith in
      let q : get_or (reverse c) 0 0 ≡ get_or s (start + len - 1) 0 = b ∙ k ∙ ap (λ (n : ℕ). get_or s n 0) j in
      omega arith

  -- a zero byte in front adds nothing
  pub behind_zero : get_or s start 0 ≡ 0 → number_in s (start + 1) (len - 1) ≡ number_in s start len
  behind_zero z =
      let c : os2ip (first ∷ others) ≡ os2ip others + 256 ^ length others * 0 = os2ip_cons first others ∙ ap (λ (x : ℕ). os2ip others + 256 ^ length others * x) z in
      sym (ap (λ (l : List ℕ). os2ip l) parts ∙ c ∙ omega arith)

  value : number_in s start len ≡ os2ip others + 2 ^ (8 * (len - 1)) * first
  value =
      let p : 256 ^ length others ≡ 2 ^ (8 * (len - 1)) = ap (λ (k : ℕ). 256 ^ k) others_length ∙ bytes_bits (len - 1) in
      ap (λ (l : List ℕ). os2ip l) parts ∙ os2ip_cons first others ∙ ap (λ (k : ℕ). os2ip others + k * first) p

  rest_below : os2ip others < 2 ^ (8 * (len - 1))
  rest_below = rw (others_length, bytes_bits) at (below others others_digits)

  pub in_bits : number_in s start len < 2 ^ (8 * len)
  in_bits =
      let k : ℕ = 8 * (len - 1) in
      let t : k + 8 ≡ 8 * len = omega (arith, some) in
      let p : 2 ^ (8 * len) ≡ 2 ^ k * 256 = ap (λ (i : ℕ). 2 ^ i) (sym t) ∙ pow-add 2 k 8 in
      let u : 2 ^ k * first ≤ 2 ^ k * 127 = mul-le-mul_left (2 ^ k) (omega (arith, small)) in
      omega (arith, value, rest_below)

  -- how many bits: eight for each byte behind the first, and the first's
  pub bits_counted : bit_count (8 * len) (number_in s start len) ≡ 8 * (len - 1) + bit_count 8 first
  bits_counted = ⊎_elim (λ (z : first ≡ 0). by_zero z others refl) by_first (eq-zero-or-pos first)
    where
      whole : first ≡ 0 → number_in s start len ≡ os2ip others
      whole z = value ∙ ap (λ (k : ℕ). os2ip others + 2 ^ (8 * (len - 1)) * k) z ∙ omega arith

      none : first ≡ 0 → bit_count 8 first ≡ 0
      none z = ap (λ (k : ℕ). bit_count 8 k) z

      by_zero : first ≡ 0 → (xs : List ℕ) → others ≡ xs → bit_count (8 * len) (number_in s start len) ≡ 8 * (len - 1) + bit_count 8 first
      by_zero z [] e =
          let l : len - 1 ≡ 0 = sym others_length ∙ ap (λ (l : List ℕ). length l) e in
          let v : number_in s start len ≡ 0 = whole z ∙ ap (λ (l : List ℕ). os2ip l) e in
          ap (λ (k : ℕ). bit_count (8 * len) k) v ∙ count_zero (8 * len) ∙ omega (arith, none z)
      by_zero z (y ∷ ys) e =
          let l : len - 1 ≡ suc (length ys) = sym others_length ∙ ap (λ (l : List ℕ). length l) e in
          let b : ℕ = 8 * length ys + 7 in
          let t : suc b ≡ 8 * (len - 1) = omega arith in
          let p : 2 ^ b ≡ 256 ^ length ys * 128 = pow-add 2 (8 * length ys) 7 ∙ ap (λ (k : ℕ). k * 128) (sym (bytes_bits (length ys))) in
          let u : 256 ^ length ys * 128 ≤ 256 ^ length ys * y = mul-le-mul_left (256 ^ length ys) (least y ys e z) in
          let v : number_in s start len ≡ os2ip ys + 256 ^ length ys * y = whole z ∙ ap (λ (l : List ℕ). os2ip l) e ∙ os2ip_cons y ys in
          let h : number_in s start len < 2 ^ suc b = rw (t, whole z) rest_below in
          count_is (8 * len) b (number_in s start len) (omega arith) h (omega arith) ∙ omega (arith, none z)

      by_first : 0 < first → bit_count (8 * len) (number_in s start len) ≡ 8 * (len - 1) + bit_count 8 first
      by_first z =
          let c : ℕ = bit_count 8 first in
          let k : ℕ = 8 * (len - 1) in
          let byte : first < 2 ^ 8 = omega (arith, small) in
          let r : Counted first c = count_range 8 first z byte in
          let o : 0 < c = r.some in
          let t : suc (k + (c - 1)) ≡ k + c = omega arith in
          let low : 2 ^ k * 2 ^ (c - 1) ≤ 2 ^ k * first = mul-le-mul_left (2 ^ k) r.least in
          let high : 2 ^ k * (first + 1) ≤ 2 ^ k * 2 ^ c = mul-le-mul_left (2 ^ k) (omega (arith, r.most)) in
          let l : 2 ^ (k + (c - 1)) ≤ number_in s start len = rw (pow-add 2 k (c - 1), value) (omega arith) in
          let h : number_in s start len < 2 ^ suc (k + (c - 1)) = rw (t, pow-add 2 k c, value) (omega (arith, rest_below)) in
          let i : k + (c - 1) < 8 * len = omega (arith, some, power_below (c - 1) 8 first r.least byte) in
          count_is (8 * len) (k + (c - 1)) (number_in s start len) l h i ∙ t
