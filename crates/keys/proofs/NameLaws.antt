-- Laws of legal names.
use mathlib.Core.Path.{◌≡◌, sym, ◌∙◌}
use mathlib.Core.Bool.{Bool, true, ◌&&◌, and-true, and_assoc}
use mathlib.Core.List.{List, [], ◌∷◌}
use Prim.Native.Nat.{ℕ, ◌≤◌}
use borrow.Author.Tests.{leb-true}
use lib.ListN.{length}
use lib.Dec.{leb}
use Rattle.std.specs.List.{fold}
use Rattle.wire.specs.Lists.{all}
use Rattle.wire.proofs.TestLaws.{every_at}
use Rattle.keys.specs.Names.{is_name_byte, legal_name}

module _ (most : ℕ) (name : List ℕ) (legal : legal_name most name ≡ true) where
  tests : List Bool
  tests = leb 1 (length name) ∷ leb (length name) most ∷ all is_name_byte name ∷ []

  pub legal_some : 1 ≤ length name
  unfolding legal_name tests
  legal_some = leb-true _ _ (every_at tests 0 legal)

  pub legal_short : length name ≤ most
  unfolding legal_name tests
  legal_short = leb-true _ _ (every_at tests 1 legal)

-- a test joined over all bytes
pub and_all : (p : ℕ → Bool) (t : Bool) (l : List ℕ) → fold (λ (t : Bool) (b : ℕ). t && p b) t l ≡ t && all p l
and_all p t [] = sym (and-true t)
and_all p t (b ∷ l) = and_all p (t && p b) l ∙ and_assoc t (p b) (all p l)
