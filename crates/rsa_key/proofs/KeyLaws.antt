-- Reading a key, by the tests that led to each answer.
use mathlib.Core.Path.{◌≡◌, refl, sym, ap, ◌∙◌, subst}
use mathlib.Core.Bool.{Bool, true, ◌&&◌}
use mathlib.Core.List.{List, [], ◌∷◌}
use Prim.Native.Nat.{ℕ, ◌+◌, ◌*◌, ◌-◌, ◌%◌, ◌≤◌, ◌<◌}
use native.Mathlib.Omega.{arith}
use borrow.Author.Tests.{leb-true, eqb-true}
use lib.Dec.{eqb, leb}
use lib.ListN.{length, get_or}
use Rattle.wire.proofs.TestLaws.{and_left, and_right, every_at, either}
use Rattle.bignum.proofs.Values.{Digits}
use Rattle.std.specs.Prelude.{Option, Some, None}
use Rattle.wire.specs.declared.span.Span.{Span}
use Rattle.rsa_key.specs.declared.key.PublicKey.{PublicKey}
use Rattle.rsa_key.specs.Key.{element_at, unsigned, number_in, is_modulus, is_exponent, with_exponent, with_modulus, in_sequence, public_key, bits_least, bits_most, supported_bits, has_bits, bit_count, bits_in, modulus_bits}
use Rattle.rsa_key.proofs.ElementLaws.{element_bound}
use Rattle.rsa_key.proofs.BitLaws.{has_count}
use Rattle.rsa_key.proofs.IntegerLaws.{some, bits_counted, in_bits}

-- a key that was read: its modulus is an INTEGER within the data, and its exponent is not 0
pub record Sound (s : List ℕ) (k : PublicKey) : Type 0 where
  pub inside : k.modulus.start + k.modulus.len ≤ length s
  pub as_integer : unsigned s k.modulus.start k.modulus.len ≡ true
  pub set : 0 < k.exponent

module _ (s : List ℕ) (d : Digits 256 s) where
  AllSound : Option PublicKey → Type 0
  AllSound r = (k : PublicKey) → r ≡ Some k → Sound s k

  none_sound : AllSound None
  unfolding AllSound
  none_sound k q = absurd (let z : ◌≡◌ {A = ℕ} 0 1 = cc in omega arith)

  one_sound : (k : PublicKey) → Sound s k → AllSound (Some k)
  unfolding AllSound
  one_sound k h m q =
      let e : k ≡ m = cc in
      subst (λ (x : PublicKey). Sound s x) e h

  exponent_sound : (m : Span) (el : Option Span) → m.start + m.len ≤ length s → unsigned s m.start m.len ≡ true → AllSound (with_exponent s m el)
  unfolding with_exponent is_exponent
  exponent_sound m None h u = none_sound
  exponent_sound m (Some c) h u =
      either AllSound (eqb (c.start + c.len) (length s) && is_exponent s c.start c.len)
      (λ t.
      let x : ℕ = number_in s c.start c.len in
      let ok : is_exponent s c.start c.len ≡ true = and_right (eqb (c.start + c.len) (length s)) (is_exponent s c.start c.len) t in
      let least : leb 3 x ≡ true = and_left (leb 3 x) _ (and_right (unsigned s c.start c.len) _ ok) in
      one_sound (record { modulus = m; exponent = x }) (record { inside = h; as_integer = u; set = omega (arith, leb-true 3 x least) }))
      (λ _. none_sound)

  modulus_sound : (at : ℕ) (el : Option Span) → element_at s 2 at ≡ el → AllSound (with_modulus s el)
  unfolding with_modulus is_modulus
  modulus_sound at None q = none_sound
  modulus_sound at (Some c) q =
      either AllSound (is_modulus s c.start c.len)
      (λ t. exponent_sound c (element_at s 2 (c.start + c.len)) (element_bound s d at 2 c q).0 (and_left (unsigned s c.start c.len) _ t))
      (λ _. none_sound)

  sequence_sound : (el : Option Span) → AllSound (in_sequence s el)
  unfolding in_sequence
  sequence_sound None = none_sound
  sequence_sound (Some c) = either AllSound (eqb (c.start + c.len) (length s)) (λ _. modulus_sound c.start (element_at s 2 c.start) refl) (λ _. none_sound)

  pub key_sound : (k : PublicKey) → public_key s ≡ Some k → Sound s k
  unfolding public_key AllSound
  key_sound = sequence_sound (element_at s 0x30 0)

-- a key's data is not long, and its modulus has the bits that are counted
module _ (s : List ℕ) (d : Digits 256 s) where
  Short : Option PublicKey → Type 0
  Short r = (k : PublicKey) → r ≡ Some k → length s < 65540

  none_short : Short None
  unfolding Short
  none_short k q = absurd (let z : ◌≡◌ {A = ℕ} 0 1 = cc in omega arith)

  sequence_short : (el : Option Span) → element_at s 0x30 0 ≡ el → Short (in_sequence s el)
  unfolding in_sequence Short
  sequence_short None q = none_short
  sequence_short (Some c) q =
      either Short (eqb (c.start + c.len) (length s))
      (λ t. λ k r. omega (arith, eqb-true (c.start + c.len) (length s) t, (element_bound s d 0 0x30 c q).1))
      (λ _. none_short)

  pub key_short : (k : PublicKey) → public_key s ≡ Some k → length s < 65540
  unfolding public_key Short
  key_short = sequence_short (element_at s 0x30 0) refl

  module _ (k : PublicKey) (read : public_key s ≡ Some k) where
    pub bits_of_key : 8 * (k.modulus.len - 1) + bit_count 8 (get_or s k.modulus.start 0) ≡ modulus_bits s
    unfolding modulus_bits bits_in
    bits_of_key =
        let h : Sound s k = key_sound s d k read in
        sym (ap (λ (r : Option PublicKey). bits_in s r) read ∙ bits_counted s k.modulus.start k.modulus.len d h.inside h.as_integer)

    -- bits are a key's where they are its modulus's count
    pub bits_by_count : (bits : ℕ) → 0 < bits → has_bits (number_in s k.modulus.start k.modulus.len) bits ≡ eqb (modulus_bits s) bits
    unfolding modulus_bits bits_in
    bits_by_count bits p =
        let h : Sound s k = key_sound s d k read in
        has_count (8 * k.modulus.len) (number_in s k.modulus.start k.modulus.len) bits (in_bits s k.modulus.start k.modulus.len d h.inside h.as_integer) p
        ∙ ap (λ (r : Option PublicKey). eqb (bits_in s r) bits) (sym read)

-- the modulus of a key has a byte within the data, and is not long
pub record Sized (s : List ℕ) (k : PublicKey) : Type 0 where
  pub some : 0 < k.modulus.len
  pub inside : k.modulus.start + k.modulus.len ≤ length s
  pub short : k.modulus.len < 65540

pub key_sized : (s : List ℕ) → Digits 256 s → (k : PublicKey) → public_key s ≡ Some k → Sized s k
key_sized s d k read =
    let h : Sound s k = key_sound s d k read in
    record { some = some s k.modulus.start k.modulus.len d h.inside h.as_integer; inside = h.inside; short = omega (arith, h.inside, key_short s d k read) }

-- bits that are supported
module _ (bits : ℕ) (b : supported_bits bits ≡ true) where
  supported : List Bool
  supported = leb bits_least bits ∷ leb bits bits_most ∷ eqb (bits % 8) 0 ∷ []

  pub supported_least : bits_least ≤ bits
  unfolding supported_bits supported
  supported_least = leb-true bits_least bits (every_at supported 0 b)

  pub supported_most : bits ≤ bits_most
  unfolding supported_bits supported
  supported_most = leb-true bits bits_most (every_at supported 1 b)

  pub supported_whole : bits % 8 ≡ 0
  unfolding supported_bits supported
  supported_whole = eqb-true (bits % 8) 0 (every_at supported 2 b)
