use mathlib.Core.Path.{◌≡◌, sym, ap, ◌∙◌}
use native.Mathlib.Omega.{arith}
use lib.ListN.{length}
use Rattle.connection.specs.Connection.{connection_size}
use Rattle.connection.specs.code.State.{state_of}
use Rattle.connection.specs.declared.check.State.TheVariants.{Open, Skipping}
use Rattle.connection.proofs.CheckLaws.{well_size, open_number, of_open, of_skipping, of_closed}
use Rattle.connection.proofs.check.read_state.Goals as goal
use Rattle.connection.proofs.check.read_state.Goals.{Start}

size : (c : Start) → length c.args.memory.now ≡ connection_size
size c = well_size _ c.requires

pub bounds-memory-0 : goal.bounds-memory-0
bounds-memory-0 c =
    let w = (goal.at.bounds-memory-0 c).Start in
    omega (arith, size w)

pub read_u64-number-requires : goal.read_u64-number-requires
read_u64-number-requires c =
    let w = (goal.at.read_u64-number-requires c).Start in
    omega (arith, size w)

pub returns-in-0 : goal.returns-in-0
returns-in-0 c =
    sym (ap state_of (of_open _ c.in-0.is) ∙ ap Open (sym (c.read_u64-number.ensures ∙ open_number _ c.requires c.in-0.is)))

pub returns-in-1 : goal.returns-in-1
returns-in-1 c = sym (ap state_of (of_skipping _ c.in-1.is) ∙ ap Skipping (sym c.read_u64-number.ensures))

pub returns-in_default : goal.returns-in_default
returns-in_default c = sym (ap state_of (of_closed _ (λ e. omega arith) (λ e. omega arith)))
