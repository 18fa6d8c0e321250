use Prim.Native.Nat.{ℕ, ◌≤◌}
use native.Mathlib.Omega.{arith}
use mathlib.Core.Path.{◌≡◌, ap}
use Rattle.roster.specs.Roster.{fault_number}
use Rattle.roster.specs.declared.RosterFault.{RosterFault}
use Rattle.roster.proofs.RosterLaws.{fault_small}
use Rattle.abi.specs.Numbers.{loaded_number, loaded_with}
use borrow.Author.Rules.{rules}
use Rattle.abi.proofs.razidkot_load_roster.Goals as goal

small : (n : ℕ) (fault : RosterFault) → n ≡ fault_number fault → n ≤ 5
small n fault e = rw e (fault_small fault)

pub overflow_add-result : goal.overflow_add-result
overflow_add-result c = omega (arith, small _ _ c.from.ensures)

pub returns-in-Ok : goal.returns-in-Ok
unfolding loaded_number
returns-in-Ok c =
    rw (← ap loaded_with c.load_roster.ensures, c.in-Ok.is)

pub returns-in-Err : goal.returns-in-Err
unfolding loaded_number
returns-in-Err c =
    rw (← ap loaded_with c.load_roster.ensures, c.in-Err.is, c.from.ensures)
