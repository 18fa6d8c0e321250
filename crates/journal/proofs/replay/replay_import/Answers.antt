use mathlib.Core.Path.{refl}
use native.Mathlib.Omega.{arith}
use Prim.Native.Nat.{◌+◌}
use Rattle.journal.specs.Record.{name_at}
use Rattle.journal.proofs.LeftLaws.{left_layout, import_short, export_odd, verify_odd, name_cut, import_there, key_there, below, import_unused, import_left}
use Rattle.journal.proofs.replay.replay_import.Goals as goal

pub returns-then-value-lt-NAME_AT : goal.returns-then-value-lt-NAME_AT
returns-then-value-lt-NAME_AT c =
    left_layout c.args.registry.now _ (import_short c.args.value.now c.requires.1 c.if-value-lt-NAME_AT.true)

pub returns-then-value-gt1 : goal.returns-then-value-gt1
returns-then-value-gt1 c =
    left_layout c.args.registry.now _ (export_odd c.args.value.now c.requires.1 c.if-value-lt-NAME_AT.false c.if-value-gt1.true)

pub returns-then-value-gt1-2 : goal.returns-then-value-gt1-2
returns-then-value-gt1-2 c =
    left_layout c.args.registry.now _ (verify_odd c.args.value.now c.requires.1 c.if-value-lt-NAME_AT.false c.if-value-gt1.false c.if-value-gt1-2.true)

pub returns-then-value-e : goal.returns-then-value-e
returns-then-value-e c =
    let n = c.from-e.ensures in
    let t = c.if-value-e.true in
    left_layout c.args.registry.now _ (name_cut c.args.value.now c.requires.1 c.if-value-lt-NAME_AT.false c.if-value-gt1.false c.if-value-gt1-2.false (omega arith))

pub returns-then-not-is_in_use : goal.returns-then-not-is_in_use
returns-then-not-is_in_use c =
    let n = c.from-e.ensures in
    let t = c.if-value-e.false in
    import_unused c.args.registry.now c.args.value.now _ c.from.ensures _ c.is_in_use.ensures
    (import_there c.args.value.now c.requires.1 c.if-value-lt-NAME_AT.false c.if-value-gt1.false c.if-value-gt1-2.false (omega arith)) c.if-not-is_in_use.true

pub import_key-requires : goal.import_key-requires
import_key-requires c =
    (c.requires.0, below c.args.registry.now c.args.value.now _ c.from.ensures _ c.is_in_use.ensures c.if-not-is_in_use.false)

pub returns : goal.returns
returns c =
    let n = c.from-e.ensures in
    let t = c.if-value-e.false in
    import_left c.args.registry.now c.args.value.now _ c.from.ensures _ c.is_in_use.ensures
    (import_there c.args.value.now c.requires.1 c.if-value-lt-NAME_AT.false c.if-value-gt1.false c.if-value-gt1-2.false (omega arith)) c.if-not-is_in_use.false
    _ (key_there c.args.value.now _ (name_at + c.from-e.result) _ n refl c.read_u16-bits.ensures) _ c.import_key.ensures
