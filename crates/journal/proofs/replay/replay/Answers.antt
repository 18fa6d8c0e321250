use native.Mathlib.Omega.{arith}
use Rattle.journal.proofs.LeftLaws.{left_layout, other_tag}
use Rattle.journal.proofs.replay.replay.Goals as goal

pub returns-in-2 : goal.returns-in-2
returns-in-2 c = rw c.in-2.is c.replay_import.ensures

pub returns-in-3 : goal.returns-in-3
returns-in-3 c = rw c.in-3.is c.replay_destroy.ensures

pub returns-in_default : goal.returns-in_default
returns-in_default c =
    left_layout c.args.registry.now _ (other_tag c.args.value.now c.requires.1 c.args.tag (λ e. omega (arith, c)) (λ e. omega (arith, c)))
