-- What is known of two numbers that are told apart.
use mathlib.Core.Path.{◌≡◌, refl, sym, ◌∙◌}
use mathlib.Core.Bool.{Bool, true, false, true≢false, not, ◌&&◌, ◌||◌}
use mathlib.Core.List.{List, [], ◌∷◌}
use Prim.Native.Nat.{ℕ}
use borrow.Author.Tests.{eq-eqb, not-true}
use lib.Dec.{eqb}
use Rattle.std.specs.List.{list_any}
use Rattle.wire.specs.Lists.{all}
use Rattle.wire.proofs.ListLaws.{eqb_comm}
use Rattle.keys.specs.code.Marks.{differs_from}

pub differs : (a b : ℕ) → differs_from a b ≡ true → a ≡ b → ⊥
differs a b e same = true≢false (sym (eq-eqb a b same) ∙ not-true (eqb a b) e)

-- some mark is the one looked for, or all differ from it
pub any_mark : (mark : ℕ) (l : List ℕ) → list_any (λ m. eqb m mark) l ≡ not (all (differs_from mark) l)
any_mark mark [] = refl
any_mark mark (m ∷ l) = rw (eqb_comm m mark, any_mark mark l) (not_and (eqb mark m) (all (differs_from mark) l))
  where
    not_and : (t u : Bool) → t || not u ≡ not (not t && u)
    not_and true u = refl
    not_and false u = refl
