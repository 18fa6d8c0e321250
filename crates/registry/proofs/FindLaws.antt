-- What tells a line's name from another.
use mathlib.Core.Path.{◌≡◌, refl, sym, ap, ◌∙◌}
use mathlib.Core.Bool.{Bool, true, false}
use mathlib.Core.List.{List}
use Prim.Native.Nat.{ℕ, ◌+◌, ◌<◌}
use lib.ListN.{length, drop, get_or, length-take, length-drop}
use lib.Seq.{get_or-take, get_or-drop}
use native.Mathlib.Omega.{arith}
use Rattle.wire.specs.Lists.{same}
use Rattle.wire.proofs.ListLaws.{same_true, same_lengths}
use Rattle.registry.specs.Names.{name_in}

-- names that differ in one byte are not the same
same_bytes : (x y : List ℕ) (k : ℕ) → (get_or y k 0 ≡ get_or x k 0 → ⊥) → same x y ≡ false
same_bytes x y k h = go (same x y) refl
  where
    go : (t : Bool) → same x y ≡ t → t ≡ false
    go true e = absurd (h (ap (λ (l : List ℕ). get_or l k 0) (sym (same_true x y e))))
    go false e = refl

module _ (line name : List ℕ) where
  pub other_length : get_or line 0 0 < length line → (get_or line 0 0 ≡ length name → ⊥) → same name (name_in line) ≡ false
  other_length h d =
      let n : length (name_in line) ≡ get_or line 0 0 = simp (length-take, length-drop) (omega arith) in
      same_lengths name (name_in line) (λ e. d (sym n ∙ sym e))

  pub other_byte : (k : ℕ) → k < get_or line 0 0 → (get_or line (1 + k) 0 ≡ get_or name k 0 → ⊥) → same name (name_in line) ≡ false
  other_byte k h d =
      let there : get_or (name_in line) k 0 ≡ get_or line (1 + k) 0 = get_or-take (get_or line 0 0) (drop 1 line) k 0 h ∙ get_or-drop 1 line k 0 in
      same_bytes name (name_in line) k (λ e. d (sym there ∙ e))
