use mathlib.Core.Path.{◌≡◌, refl}
use mathlib.Core.Bool.{false}
use mathlib.Core.Logic.{inl, inr}
use lib.Dec.{eqb}
use Rattle.lookup.specs.declared.Place.{Place}
use Rattle.lookup.specs.declared.Place.TheVariants.{Own, Listed, Nothing}
use Rattle.judgement.specs.Status.{status_number}
use Rattle.judgement.specs.code.Decided.{counted_at}
use Rattle.judgement.specs.declared.Decision.{Decision}
use Rattle.judgement.proofs.StatusLaws.{refused_number, served_number}
use Rattle.judgement.proofs.operations.counted.Goals as goal

refused_at : (place : Place) (d : Decision) → eqb (status_number d.status) 0 ≡ false → d ≡ counted_at place d
unfolding counted_at
refused_at (Own slot) d h = rw h refl
refused_at (Listed span) d h = refl
refused_at Nothing d h = refl

pub returns-then-ne : goal.returns-then-ne
returns-then-ne c = refused_at _ _ (refused_number _ c.if-ne.ensures)

pub returns-in-Own : goal.returns-in-Own
unfolding counted_at
returns-in-Own c = rw (c.in-Own.is, counted_at, served_number _ c.if-ne.ensures) refl

pub returns-in-Listed : goal.returns-in-Listed
unfolding counted_at
returns-in-Listed c = elim c.in-Listed.is [
  | inl p ↦ rw p.1
  | inr e ↦ rw e
]
