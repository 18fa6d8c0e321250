-- What the system's answers come to when a file is opened and read.
use Rattle.std.proofs.Common.{Option, Some, None}
use mathlib.Core.Path.{◌≡◌, refl, sym, ap, ◌∙◌, subst}
use mathlib.Core.Bool.{Bool, true, false}
use Prim.Native.Nat.{ℕ, zero, suc, min, ◌≤◌, ◌<◌}
use native.Mathlib.Omega.{arith}
use borrow.Author.Tests.{ltb-true}
use mir.Syntax.{Width, w32, w64}
use mir.Val.{Fits, SFits, to_z, of_z}
use mir.Facts.{to_z-of_z, Fits-nat_abs}
use lib.Dec.{T}
use lib.IntN.{ℤ, pos, negsuc, nat_abs}
use lib.Signed.{lt_z, non_neg}
use Rattle.starting.specs.code.Stream.{ReadWithin, KeptWithin}
use Rattle.starting.specs.code.Reads.{file_of, size_input, input_of, front_of}
use Rattle.starting.specs.declared.files.Input.{Input}
use Rattle.starting.specs.declared.files.Input.TheVariants.{Bytes, End, Failed}

-- ---- a number as the machine reads it

sign : {w : Width} (z : ℤ) → SFits w z → (b : Bool) → lt_z (to_z w (of_z w z)) (pos 0) ≡ b → lt_z z (pos 0) ≡ b
sign z fits b e = sym (ap (λ (x : ℤ). lt_z x (pos 0)) (to_z-of_z fits)) ∙ e

-- ---- opening

pub file_missing : (fd : ℤ) → SFits w32 fd → lt_z (to_z w32 (of_z w32 fd)) (pos 0) ≡ true → None ≡ file_of fd
unfolding file_of
file_missing (pos n) fits e = absurd (omega (arith, ltb-true n 0 (sign (pos n) fits true e)))
file_missing (negsuc k) fits e = refl

pub file_open : (fd : ℤ) → SFits w32 fd → lt_z (to_z w32 (of_z w32 fd)) (pos 0) ≡ false → Some (to_z w32 (of_z w32 fd)) ≡ file_of fd
unfolding file_of
file_open (pos n) fits e = ap Some (to_z-of_z fits)
file_open (negsuc k) fits e = absurd (let q = sign (negsuc k) fits false e in let z : ◌≡◌ {A = ℕ} 0 1 = cc in omega arith)

-- ---- reading once

pub input_failed : (got : ℤ) (most : ℕ) → SFits w64 got → lt_z (to_z w64 (of_z w64 got)) (pos 0) ≡ true → Failed ≡ input_of got most
unfolding input_of
input_failed (pos n) most fits e = absurd (omega (arith, ltb-true n 0 (sign (pos n) fits true e)))
input_failed (negsuc k) most fits e = refl

pub size_end : (n : ℕ) → n ≡ 0 → End ≡ size_input n
unfolding size_input
size_end n e = sym (ap size_input e)

pub size_bytes : (n : ℕ) → (n ≡ 0 → ⊥) → Bytes n ≡ size_input n
unfolding size_input
size_bytes zero some = absurd (some refl)
size_bytes (suc n) some = refl

-- an answer that is not below 0, as a size
module _ (got : ℤ) (fits : SFits w64 got) (e : lt_z (to_z w64 (of_z w64 got)) (pos 0) ≡ false) where
  abbrev size : ℕ
  size = nat_abs (to_z w64 (of_z w64 got))

  pub size_fits : T (non_neg (to_z w64 (of_z w64 got))) × Fits w64 size
  size_fits = subst (λ (z : ℤ). T (non_neg z) × Fits w64 (nat_abs z)) (sym (to_z-of_z fits)) (go got fits (sign got fits false e))
    where
      go : (z : ℤ) → SFits w64 z → lt_z z (pos 0) ≡ false → T (non_neg z) × Fits w64 (nat_abs z)
      go (pos n) f q = (tt, Fits-nat_abs tt f)
      go (negsuc k) f q = absurd (let z : ◌≡◌ {A = ℕ} 0 1 = cc in omega arith)

  sized : (most : ℕ) → size_input (min size most) ≡ input_of got most
  unfolding input_of
  sized most = ap (λ (z : ℤ). size_input (min (nat_abs z) most)) (to_z-of_z fits) ∙ go got (sign got fits false e)
    where
      go : (z : ℤ) → lt_z z (pos 0) ≡ false → size_input (min (nat_abs z) most) ≡ input_of z most
      go (pos n) q = refl
      go (negsuc k) q = absurd (let z : ◌≡◌ {A = ℕ} 0 1 = cc in omega arith)

  module _ (most : ℕ) {r : Input} where
    pub input_some : size < most → r ≡ size_input size → r ≡ input_of got most
    input_some less q = q ∙ ap size_input (omega arith) ∙ sized most

    pub input_full : most ≤ size → r ≡ size_input most → r ≡ input_of got most
    input_full more q = q ∙ ap size_input (omega arith) ∙ sized most

pub input_within : (got : ℤ) (most : ℕ) (r : Input) → r ≡ input_of got most → ReadWithin most r
unfolding ReadWithin input_of size_input
input_within (negsuc k) most r e = rw e tt
input_within (pos k) most r e = rw e (go (min k most) (omega arith))
  where
    go : (n : ℕ) → n ≤ most → ReadWithin most (size_input n)
    go zero h = tt
    go (suc n) h = (omega arith, h)

-- ---- the front of a file

pub front_within : (most n : ℕ) (is_whole : Bool) (r : Option ℕ) → n ≤ most → r ≡ front_of n is_whole → KeptWithin most r
unfolding KeptWithin front_of
front_within most n true r h e = rw e h
front_within most n false r h e = rw e tt
