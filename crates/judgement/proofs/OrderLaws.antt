-- Laws of the order's tests: one test of a header after another, and who asks.
use Rattle.std.proofs.Common.{Option, Some, None, Ok, Err}
use mathlib.Core.Path.{◌≡◌, refl}
use mathlib.Core.Bool.{Bool, true, false}
use mathlib.Core.List.{List, ◌∷◌}
use Rattle.wire.specs.Choice.{first_of}
use Rattle.judgement.specs.code.Decided.{checked_of}
use Rattle.judgement.specs.declared.Status.{Status}

-- ---- the first test that applies, one test after another

module _ (t : Bool) (status : Status) (tests : List (Bool × Status)) where
  pub stops : t ≡ true → checked_of (first_of ((t, status) ∷ tests)) ≡ Err status
  unfolding first_of checked_of
  stops e = rw e

  pub passes : t ≡ false → checked_of (first_of ((t, status) ∷ tests)) ≡ checked_of (first_of tests)
  unfolding first_of
  passes e = rw e

-- ---- a header that was checked

pub passed_none : (o : Option Status) → checked_of o ≡ Ok tt → o ≡ None
unfolding checked_of
passed_none None e = refl
passed_none (Some status) e = cc

pub refused_some : (o : Option Status) (status : Status) → checked_of o ≡ Err status → o ≡ Some status
unfolding checked_of
refused_some None status e = cc
refused_some (Some s) status e = cc
