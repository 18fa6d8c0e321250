-- The bytes of an INTEGER against the number of bits of its value.
use mathlib.Core.Path.{◌≡◌, refl, sym, ap, ◌∙◌}
use mathlib.Core.Bool.{Bool, true, false, ◌&&◌}
use mathlib.Core.List.{List, [], ◌∷◌, ◌++◌, reverse, reverse-cons}
use mathlib.Core.Logic.{⊎_elim}
use Prim.Native.Nat.{ℕ, zero, suc, ◌+◌, ◌*◌, ◌-◌, ◌/◌, ◌^◌, ◌≤◌, ◌<◌}
use native.Mathlib.Nat.{pow-suc, mul-le-mul_left, pow-le-pow_right, div-eq_of_lt-le, div-mul-le_self, lt-div-mul-add, eq-zero-or-pos, one-le-pow}
use native.Mathlib.Omega.{arith}
use borrow.Author.Tests.{eq-eqb, ne_eqb}
use lib.Dec.{eqb}
use lib.Pow.{pow-add}
use lib.ListN.{length, length-reverse}
use Rattle.bignum.specs.Numbers.{value_in}
use Rattle.rsa_key.specs.Octets.{os2ip}
use Rattle.bignum.proofs.Values.{Digits, value_append, bound, le_or_lt}
use Rattle.bignum.proofs.ByteLaws.{digits_reverse}

pub bytes_bits : (n : ℕ) → 256 ^ n ≡ 2 ^ (8 * n)
bytes_bits zero = refl
bytes_bits (suc n) =
    let e : 8 * suc n ≡ 8 * n + 8 = omega arith in
    pow-suc 256 n ∙ ap (λ (z : ℕ). z * 256) (bytes_bits n) ∙ sym (ap (λ (k : ℕ). 2 ^ k) e ∙ pow-add 2 (8 * n) 8)

-- the top bit of n + 1 bytes
pub top_bit_of : (n : ℕ) → 2 ^ (8 * (n + 1) - 1) ≡ 128 * 256 ^ n
top_bit_of n =
    let e : 8 * (n + 1) - 1 ≡ 8 * n + 7 = omega arith in
    let f : 2 ^ (8 * n + 7) ≡ 2 ^ (8 * n) * 128 = pow-add 2 (8 * n) 7 in
    ap (λ (k : ℕ). 2 ^ k) e ∙ f ∙ omega (arith, bytes_bits n)

pub os2ip_cons : (x : ℕ) (xs : List ℕ) → os2ip (x ∷ xs) ≡ os2ip xs + 256 ^ length xs * x
os2ip_cons x xs =
    let e : value_in 256 (reverse xs ++ (x ∷ [])) ≡ value_in 256 (reverse xs) + 256 ^ length (reverse xs) * (x + 256 * 0) = value_append 256 (reverse xs) (x ∷ []) in
    let f : value_in 256 (reverse xs ++ (x ∷ [])) ≡ value_in 256 (reverse xs) + 256 ^ length xs * (x + 256 * 0) = rw (length-reverse xs) at e in
    ap (λ (l : List ℕ). value_in 256 l) (reverse-cons x xs) ∙ f ∙ omega arith

pub below : (xs : List ℕ) → Digits 256 xs → os2ip xs < 256 ^ length xs
below xs d = rw (length-reverse xs) at (bound 256 (reverse xs) (digits_reverse xs d))

module _ (n x : ℕ) (xs : List ℕ) (d : Digits 256 xs) (small : x < 128) where
  doubled : 256 ^ (n + 1) ≡ 256 ^ n * 256
  doubled = pow-add 256 n 1

  pos : 0 < 256 ^ n
  pos = one-le-pow n 256 (omega arith)

  short : length xs ≤ n → os2ip (x ∷ xs) < 128 * 256 ^ n
  short h =
      let u : 256 ^ length xs * x ≤ 256 ^ length xs * 127 = mul-le-mul_left (256 ^ length xs) (omega arith) in
      let v : 256 ^ length xs ≤ 256 ^ n = pow-le-pow_right (omega arith) h in
      omega (arith, os2ip_cons x xs, below xs d)

  zero_first : length xs ≡ n + 1 → x ≡ 0 → os2ip (x ∷ xs) < 256 * 256 ^ n
  zero_first h z =
      let u : os2ip xs < 256 ^ (n + 1) = rw h at (below xs d) in
      let w : os2ip (x ∷ xs) ≡ os2ip xs + 256 ^ length xs * 0 = os2ip_cons x xs ∙ ap (λ (k : ℕ). os2ip xs + 256 ^ length xs * k) z in
      omega (arith, doubled)

  pub set_first : n + 1 ≤ length xs → 0 < x → 256 * 256 ^ n ≤ os2ip (x ∷ xs)
  set_first h z =
      let u : 256 ^ length xs * 1 ≤ 256 ^ length xs * x = mul-le-mul_left (256 ^ length xs) z in
      let v : 256 ^ (n + 1) ≤ 256 ^ length xs = pow-le-pow_right (omega arith) h in
      omega (arith, os2ip_cons x xs, doubled)

  pub at_least : (y : ℕ) (ys : List ℕ) → xs ≡ y ∷ ys → 128 ≤ y → (m : ℕ) → m ≤ length ys → 128 * 256 ^ m ≤ os2ip (x ∷ xs)
  at_least y ys e h m l =
      let u : 256 ^ length ys * 128 ≤ 256 ^ length ys * y = mul-le-mul_left (256 ^ length ys) h in
      let v : 256 ^ m ≤ 256 ^ length ys = pow-le-pow_right (omega arith) l in
      let w : os2ip xs ≡ os2ip ys + 256 ^ length ys * y = ap (λ (l : List ℕ). os2ip l) e ∙ os2ip_cons y ys in
      omega (arith, os2ip_cons x xs)

  one_of : 128 * 256 ^ n ≤ os2ip (x ∷ xs) → os2ip (x ∷ xs) < 256 * 256 ^ n → os2ip (x ∷ xs) / (128 * 256 ^ n) ≡ 1
  one_of l h = div-eq_of_lt-le (128 * 256 ^ n) (omega arith) (omega arith)

  not_below : os2ip (x ∷ xs) < 128 * 256 ^ n → os2ip (x ∷ xs) / (128 * 256 ^ n) ≡ 1 → ⊥
  not_below h e =
      let u : os2ip (x ∷ xs) / (128 * 256 ^ n) * (128 * 256 ^ n) ≤ os2ip (x ∷ xs) = div-mul-le_self (os2ip (x ∷ xs)) (128 * 256 ^ n) in
      let v : 1 * (128 * 256 ^ n) ≤ os2ip (x ∷ xs) = rw e at u in
      omega arith

  not_above : 256 * 256 ^ n ≤ os2ip (x ∷ xs) → os2ip (x ∷ xs) / (128 * 256 ^ n) ≡ 1 → ⊥
  not_above h e =
      let p : 0 < 128 * 256 ^ n = omega (arith, pos) in
      let u : os2ip (x ∷ xs) < os2ip (x ∷ xs) / (128 * 256 ^ n) * (128 * 256 ^ n) + 128 * 256 ^ n = lt-div-mul-add p in
      let v : os2ip (x ∷ xs) < 1 * (128 * 256 ^ n) + 128 * 256 ^ n = rw e at u in
      omega arith

-- an INTEGER in as few bytes as can be has exactly 8 (n + 1) bits where it is a zero byte and n + 1 bytes
pub exactly : (n x : ℕ) (xs : List ℕ) → Digits 256 xs → x < 128 → ((y : ℕ) (ys : List ℕ) → xs ≡ y ∷ ys → x ≡ 0 → 128 ≤ y)
    → eqb (length xs) (n + 1) && eqb x 0 ≡ eqb (os2ip (x ∷ xs) / 2 ^ (8 * (n + 1) - 1)) 1
exactly n x [] d small least =
    rw (top_bit_of n, ne_eqb 0 (n + 1) (λ e. omega arith), ne_eqb (os2ip (x ∷ []) / (128 * 256 ^ n)) 1 (not_below n x [] d small (short n x [] d small (omega arith))))
exactly n x (y ∷ ys) d small least =
    ⊎_elim
    (λ (h : length (y ∷ ys) ≤ n).
    rw (top_bit_of n, ne_eqb (length (y ∷ ys)) (n + 1) (λ e. omega arith), ne_eqb (os2ip (x ∷ y ∷ ys) / (128 * 256 ^ n)) 1 (not_below n x (y ∷ ys) d small (short n x (y ∷ ys) d small h))))
    (λ (h : n < length (y ∷ ys)).
    ⊎_elim
    (λ (z : x ≡ 0).
    ⊎_elim
    (λ (k : length (y ∷ ys) ≤ n + 1).
    let e : length (y ∷ ys) ≡ n + 1 = omega arith in
    rw (
      top_bit_of n,
      eq-eqb (length (y ∷ ys)) (n + 1) e,
      eq-eqb x 0 z,
      eq-eqb (os2ip (x ∷ y ∷ ys) / (128 * 256 ^ n)) 1
          (one_of n x (y ∷ ys) d small (at_least n x (y ∷ ys) d small y ys refl (least y ys refl z) n (omega arith)) (zero_first n x (y ∷ ys) d small e z)),
    ))
    (λ (k : n + 1 < length (y ∷ ys)).
    let m : 128 * 256 ^ (n + 1) ≤ os2ip (x ∷ y ∷ ys) = at_least n x (y ∷ ys) d small y ys refl (least y ys refl z) (n + 1) (omega arith) in
    rw (
      top_bit_of n,
      ne_eqb (length (y ∷ ys)) (n + 1) (λ e. omega arith),
      ne_eqb (os2ip (x ∷ y ∷ ys) / (128 * 256 ^ n)) 1
          (not_above n x (y ∷ ys) d small (omega (arith, doubled n x (y ∷ ys) d small))),
    ))
    (le_or_lt (length (y ∷ ys)) (n + 1)))
    (λ (z : 0 < x). above z h)
    (eq-zero-or-pos x))
    (le_or_lt (length (y ∷ ys)) n)
  where
    above : 0 < x → n < length (y ∷ ys) → eqb (length (y ∷ ys)) (n + 1) && eqb x 0 ≡ eqb (os2ip (x ∷ y ∷ ys) / 2 ^ (8 * (n + 1) - 1)) 1
    above z h =
        rw (top_bit_of n, ne_eqb x 0 (λ e. omega arith), ne_eqb (os2ip (x ∷ y ∷ ys) / (128 * 256 ^ n)) 1 (not_above n x (y ∷ ys) d small (set_first n x (y ∷ ys) d small (omega arith) z)))
        (and-false (eqb (length (y ∷ ys)) (n + 1)))
      where
        and-false : (t : Bool) → t && false ≡ false
        and-false true = refl
        and-false false = refl
