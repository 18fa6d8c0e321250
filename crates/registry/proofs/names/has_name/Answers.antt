use Rattle.std.proofs.Common.{◌≡◌, refl, ap, ◌∙◌, ℕ, Bool, ◌&&◌, eqb, List, [], ◌∷◌}
use lib.Pointwise.{pointwise}
use Rattle.wire.specs.Lists.{same}
use Rattle.wire.proofs.ListLaws.{same_comm}
use Rattle.registry.proofs.names.has_name.Goals as goal

-- the library's comparison is this repository's
compared : (x y : List ℕ) → pointwise eqb x y ≡ same x y
compared [] [] = refl
compared [] (b ∷ y) = refl
compared (a ∷ x) [] = refl
compared (a ∷ x) (b ∷ y) = ap (λ (t : Bool). eqb a b && t) (compared x y)

pub returns : goal.returns
returns c =
    let name : List ℕ = c.args.name.now in
    c.eq.ensures ∙ compared c.name_of.result.now name ∙ same_comm c.name_of.result.now name ∙ ap (same name) c.name_of.ensures.name
