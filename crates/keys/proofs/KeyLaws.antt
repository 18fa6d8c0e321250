-- Laws of legal keys.
use mathlib.Core.Path.{◌≡◌, refl, sym, ap, subst}
use mathlib.Core.Bool.{Bool, true, false, false≢true, ◌||◌}
use mathlib.Core.List.{List, [], ◌∷◌}
use Prim.Native.Nat.{ℕ, ◌%◌, ◌≤◌, ◌<◌}
use native.Mathlib.Omega.{arith}
use borrow.Author.Tests.{leb-true, le-leb, lt-leb, eqb-true}
use lib.ListN.{length}
use lib.Dec.{leb, eqb}
use Rattle.wire.specs.Lists.{every, one_of}
use Rattle.wire.proofs.TestLaws.{every_at}
use Rattle.keys.specs.Key.{data_most, legal_data, bits_least, bits_most, legal_bits, import_bits}

pub legal_data_lem : (bytes : List ℕ) → legal_data bytes ≡ true → length bytes ≤ data_most
unfolding legal_data
legal_data_lem bytes e = leb-true _ _ (every_at (leb 1 (length bytes) ∷ leb (length bytes) data_most ∷ []) 1 e)

-- the length alone decides
pub data_by_length : (a b : List ℕ) → length a ≡ length b → legal_data a ≡ legal_data b
unfolding legal_data
data_by_length a b e = ap (λ (n : ℕ). every (leb 1 n ∷ leb n data_most ∷ [])) e

pub long_data : (bytes : List ℕ) → data_most < length bytes → legal_data bytes ≡ false
unfolding legal_data
long_data bytes h = rw (le-leb 1 (length bytes) (omega arith), lt-leb (length bytes) data_most h)

pub legal_bits_lem : (bits : ℕ) → legal_bits bits ≡ true → bits ≤ bits_most
unfolding legal_bits
legal_bits_lem bits e = leb-true _ _ (every_at (leb bits_least bits ∷ leb bits bits_most ∷ eqb (bits % 8) 0 ∷ []) 1 e)

-- what holds of each of some numbers, holds of one of them
abbrev Each : (ℕ → Type 0) → List ℕ → Type 0
Each P [] = Unit {0}
Each P (x ∷ xs) = P x × Each P xs

one_has : (P : ℕ → Type 0) (xs : List ℕ) → Each P xs → (n : ℕ) → one_of xs n ≡ true → P n
unfolding one_of
one_has P [] h n e = absurd (false≢true e)
one_has P (x ∷ xs) h n e = go (eqb n x) refl e (one_has P xs h.1 n)
  where
    go : (t : Bool) → eqb n x ≡ t → t || one_of xs n ≡ true → (one_of xs n ≡ true → P n) → P n
    go true q w later = subst P (sym (eqb-true n x q)) h.0
    go false q w later = later w

-- a registry may hold what Import takes
pub import_legal : (bits : ℕ) → import_bits bits ≡ true → legal_bits bits ≡ true
unfolding import_bits legal_bits
import_legal bits e = one_has (λ n. legal_bits n ≡ true) (2048 ∷ 3072 ∷ 4096 ∷ []) (refl, (refl, (refl, tt))) bits e
