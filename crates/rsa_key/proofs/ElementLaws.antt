-- Reading an element, by the tests that led to each answer.
use mathlib.Core.Path.{◌≡◌}
use mathlib.Core.List.{List}
use Prim.Native.Nat.{ℕ, ◌+◌, ◌*◌, ◌≤◌, ◌<◌}
use native.Mathlib.Omega.{arith}
use borrow.Author.Tests.{leb-true}
use lib.Dec.{eqb, leb, ltb}
use lib.ListN.{length, get_or}
use Rattle.wire.proofs.TestLaws.{either}
use Rattle.bignum.proofs.Values.{Digits}
use Rattle.std.specs.Prelude.{Option, Some, None}
use Rattle.wire.specs.declared.span.Span.{Span}
use Rattle.rsa_key.specs.Key.{within, element_at}

-- an element that was read lies within the data, and ends at most 65,540 bytes behind its tag
module _ (s : List ℕ) (d : Digits 256 s) (at : ℕ) where
  Bounded : Option Span → Type 0
  Bounded e = (k : Span) → e ≡ Some k → (k.start + k.len ≤ length s) × (k.start + k.len < at + 65540)

  none_bounded : Bounded None
  unfolding Bounded
  none_bounded k e = absurd (let z : ◌≡◌ {A = ℕ} 0 1 = cc in omega arith)

  within_bounded : (start len : ℕ) → start + len < at + 65540 → Bounded (within s start len)
  unfolding Bounded
  within_bounded start len h =
      either Bounded (leb (start + len) (length s))
      (λ q. λ k e.
      let x : start ≡ k.start = cc in
      let y : len ≡ k.len = cc in
      (omega (arith, leb-true (start + len) (length s) q), omega arith))
      (λ q. none_bounded)

  pub element_bound : (tag : ℕ) (k : Span) → element_at s tag at ≡ Some k → (k.start + k.len ≤ length s) × (k.start + k.len < at + 65540)
  unfolding element_at Bounded
  element_bound tag =
      let d1 : get_or s (at + 1) 0 < 256 = d (at + 1) in
      let d2 : get_or s (at + 2) 0 < 256 = d (at + 2) in
      let d3 : get_or s (at + 3) 0 < 256 = d (at + 3) in
      either Bounded (eqb (get_or s at 0) tag)
      (λ _. either Bounded (ltb (get_or s (at + 1) 0) 128) (λ _. within_bounded (at + 2) (get_or s (at + 1) 0) (omega arith))
      (λ _. either Bounded (eqb (get_or s (at + 1) 0) 0x81)
      (λ _. either Bounded (ltb (get_or s (at + 2) 0) 128) (λ _. none_bounded) (λ _. within_bounded (at + 3) (get_or s (at + 2) 0) (omega arith)))
      (λ _. either Bounded (eqb (get_or s (at + 1) 0) 0x82)
      (λ _. either Bounded (eqb (get_or s (at + 2) 0) 0) (λ _. none_bounded) (λ _. within_bounded (at + 4) (256 * get_or s (at + 2) 0 + get_or s (at + 3) 0) (omega arith)))
      (λ _. none_bounded))))
      (λ _. none_bounded)
