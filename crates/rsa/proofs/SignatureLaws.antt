-- The check of a signature, by the tests that led to each answer.
use mathlib.Core.Path.{◌≡◌, sym, ap, ◌∙◌}
use mathlib.Core.Bool.{Bool, true}
use mathlib.Core.List.{List}
use Prim.Native.Nat.{ℕ, ◌/◌, ◌^◌, ◌≤◌, ◌<◌}
use native.Mathlib.Nat.{mod-lt}
use native.Mathlib.Omega.{arith}
use borrow.Author.Tests.{lt-ltb, eq-eqb, eqb-true}
use lib.Dec.{eqb}
use lib.ListN.{length}
use Rattle.wire.specs.Lists.{same}
use Rattle.wire.proofs.ListLaws.{same_refl, same_true}
use Rattle.wire.proofs.TestLaws.{both}
use Rattle.bignum.proofs.Values.{Digits}
use Rattle.bignum.proofs.ByteLaws.{bytes_back, number_back}
use Rattle.rsa_key.specs.Octets.{os2ip, i2osp}
use Rattle.rsa.specs.Power.{Powered, powered, square_and_multiply}
use Rattle.rsa.proofs.PowerLaws.{power_right}
use Rattle.rsa_key.specs.Key.{unsigned, number_in, public_key, supported_bits, has_bits}
use Rattle.rsa_key.proofs.IntegerLaws.{bits_by_bytes, behind_zero}
use Rattle.rsa_key.proofs.KeyLaws.{Sound, key_sound, supported_least, supported_most, supported_whole}
use Rattle.wire.proofs.TestLaws.{and_left, and_right}
use Prim.Native.Nat.{◌+◌, ◌-◌, ◌%◌}
use mathlib.Core.Bool.{◌&&◌}
use lib.ListN.{take, drop, get_or, length-take, length-drop}
use Rattle.rsa.specs.Signature.{rsavp1, encoded, outcome_of, report, verified}
use Rattle.std.specs.Prelude.{Some}
use Rattle.rsa_key.specs.declared.key.PublicKey.{PublicKey}

-- a number's bytes against a list of bytes
bytes_by_number : (size m : ℕ) (em : List ℕ) → m < 256 ^ size → length em ≡ size → Digits 256 em → same (i2osp size m) em ≡ eqb m (os2ip em)
bytes_by_number size m em h l d =
    both (same (i2osp size m) em) (eqb m (os2ip em))
    (λ q. eq-eqb m (os2ip em) (sym (number_back size m h) ∙ ap (λ (x : List ℕ). os2ip x) (same_true (i2osp size m) em q)))
    (λ q. ap (λ (x : ℕ). same (i2osp size x) em) (eqb-true m (os2ip em) q) ∙ rw back (same_refl em))
  where
    back : i2osp size (os2ip em) ≡ em
    back = rw l at (bytes_back em d)

module _ (n e k : ℕ) (hash signature : List ℕ) where
  module _ (hashed : length hash ≡ 32) where
    -- the encoded messages are equal exactly where their numbers are
    pub judged : length signature ≡ k → os2ip signature < n → n ≤ 256 ^ k → (em : List ℕ) → em ≡ encoded k hash → length em ≡ k → Digits 256 em
        → report (outcome_of (eqb (rsavp1 n e (os2ip signature)) (os2ip em))) (square_and_multiply n (os2ip signature) e).count ≡ verified n e k hash signature
    unfolding verified
    judged l h fits em same-em len d =
        let m : ℕ = rsavp1 n e (os2ip signature) in
        let below : m < n = mod-lt (os2ip signature ^ e) (omega arith) in
        let b : same (i2osp k m) em ≡ eqb m (os2ip em) = bytes_by_number k m em (omega arith) len d in
        rw (eq-eqb (length hash) 32 hashed, eq-eqb (length signature) k l, lt-ltb (os2ip signature) n h, ← same-em, b)

-- the same, by the numbers that the code compares
module _ (N e k : ℕ) (hash signature em : List ℕ) (n s acc base count long long' : ℕ) (t : Bool) where
  pub verdict : length hash ≡ 32 → length signature ≡ k → n ≡ N → s ≡ os2ip signature → s < n → N ≤ 256 ^ k
      → em ≡ encoded k hash → length em ≡ k → Digits 256 em → 0 < e → e < 2 ^ 32 → powered acc count ≡ square_and_multiply n s e → base ≡ os2ip em
      → long ≡ long' → t ≡ eqb long long' && eqb acc base
      → report (outcome_of t) count ≡ verified N e k hash signature
  verdict hashed sized of_n of_s under fits of_em len d set small by_power of_base same_length tells =
      let x : ℕ = os2ip signature in
      let below : x < N = rw (of_n, of_s) at under in
      let ruled : powered acc count ≡ square_and_multiply N x e = rw (of_n, of_s) at by_power in
      let m : acc ≡ rsavp1 N e x = ap (λ (q : Powered). q.power) ruled ∙ power_right N x e below set small in
      let told : t ≡ eqb (rsavp1 N e x) (os2ip em) = tells ∙ rw (eq-eqb long long' same_length, m, of_base) in
      ap (λ (b : Bool). report (outcome_of b) count) told
      ∙ ap (λ (z : ℕ). report (outcome_of (eqb (rsavp1 N e x) (os2ip em))) z) (ap (λ (q : Powered). q.count) ruled)
      ∙ judged N e k hash signature hashed sized below fits em of_em len d

-- the modulus of a key that has so many bits: a zero byte, and as many bytes
module _ (key : List ℕ) (bits : ℕ) (k : PublicKey) (d : Digits 256 key) (told : public_key key ≡ Some k) (b : supported_bits bits ≡ true) where
  abbrev start : ℕ
  start = k.modulus.start

  abbrev bytes : List ℕ
  bytes = take (start + 1 + bits / 8 - (start + 1)) (drop (start + 1) key)

  sound : Sound key k
  sound = key_sound key d k told

  pub to_have_bits : (start + k.modulus.len ≤ length key) × (unsigned key start k.modulus.len ≡ true) × (bits % 8 ≡ 0) × (8 ≤ bits)
  to_have_bits = (sound.inside, sound.as_integer, supported_whole bits b, omega (arith, supported_least bits b))

  pub record Modulus : Type 0 where
    pub inside : start + 1 + bits / 8 ≤ length key
    pub long : length bytes ≡ bits / 8
    pub least : 62 ≤ bits / 8
    pub most : bits / 8 ≤ 512
    pub set : 0 < k.exponent
    pub same : os2ip bytes ≡ number_in key start k.modulus.len

  pub modulus : has_bits (number_in key start k.modulus.len) bits ≡ true → Modulus
  modulus h =
      let t : eqb k.modulus.len (bits / 8 + 1) && eqb (get_or key start 0) 0 ≡ true =
      sym (bits_by_bytes key start k.modulus.len d sound.inside sound.as_integer bits (supported_whole bits b) (omega (arith, supported_least bits b))) ∙ h in
      let size : k.modulus.len ≡ bits / 8 + 1 = eqb-true _ _ (and_left _ _ t) in
      let zero : get_or key start 0 ≡ 0 = eqb-true _ _ (and_right (eqb k.modulus.len (bits / 8 + 1)) _ t) in
      let less : k.modulus.len - 1 ≡ start + 1 + bits / 8 - (start + 1) = omega arith in
      let within : start + 1 + bits / 8 ≤ length key = omega (arith, sound.inside) in
      record {
        inside = within;
        long = simp (length-take, length-drop) (omega arith);
        least = omega (arith, supported_least bits b);
        most = omega (arith, supported_most bits b);
        set = sound.set;
        same = sym (ap (λ (n : ℕ). number_in key (start + 1) n) less) ∙ behind_zero key start k.modulus.len d sound.inside sound.as_integer zero;
      }
