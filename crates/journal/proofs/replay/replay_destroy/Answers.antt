use native.Mathlib.Omega.{arith}
use Rattle.journal.proofs.LeftLaws.{left_layout, destroy_short, below, destroy_unused, destroy_left}
use Rattle.journal.proofs.replay.replay_destroy.Goals as goal

pub returns-then-value-eq0 : goal.returns-then-value-eq0
returns-then-value-eq0 c =
    left_layout c.args.registry.now _ (destroy_short c.args.value.now c.requires.1 c.if-value-eq0.true)

pub returns-then-not-is_in_use : goal.returns-then-not-is_in_use
returns-then-not-is_in_use c =
    let some_bytes = c.if-value-eq0.false in
    destroy_unused c.args.registry.now c.args.value.now _ c.from.ensures _ c.is_in_use.ensures c.requires.1 (omega arith) c.if-not-is_in_use.true

pub destroy_key-requires : goal.destroy_key-requires
destroy_key-requires c =
    (c.requires.0, below c.args.registry.now c.args.value.now _ c.from.ensures _ c.is_in_use.ensures c.if-not-is_in_use.false)

pub returns : goal.returns
returns c =
    let some_bytes = c.if-value-eq0.false in
    destroy_left c.args.registry.now c.args.value.now _ c.from.ensures _ c.is_in_use.ensures c.requires.1 (omega arith) c.if-not-is_in_use.false _ c.destroy_key.ensures
