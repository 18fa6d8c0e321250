use Prim.Native.Nat.{◌+◌, ◌-◌, ◌*◌, ◌≤◌}
use native.Mathlib.Omega.{arith}
use borrow.Author.Rules.{rules}
use Rattle.registry.specs.Registry.{slot_count}
use Rattle.billing.specs.Outcome.{key_line_most}
use Rattle.billing.proofs.PlacedLaws.{Leaves, leaves_all, leaves_rest, leaves_none}
use Rattle.billing.proofs.LineLaws.{slots_from, slot_line, slots_next, slots_end}
use Rattle.billing.proofs.lines.write_line_keys.Goals as goal

pub loop-k-init : goal.loop-k-init
loop-k-init c = let a = c.args in (leaves_all _ a.out.now a.at (omega arith), omega arith, omega arith)

pub write_key-end-requires : goal.write_key-end-requires
write_key-end-requires c =
    let l = c in
    let start = l in
    (start.requires.0, start.requires.1, omega arith, omega (arith, l.loop-k.invariant.0.long))

pub loop-k-preserved : goal.loop-k-preserved
loop-k-preserved c =
    let w = c in
    let l = w in
    let a = l.args in
    let next = slots_next a.registry.now a.line l.loop-k.k (omega arith) in
    let line = slot_line a.registry.now a.line l.loop-k.k in
    (leaves_rest {a = line} (rw next at l.loop-k.invariant.0) w.write_key-end.ensures.0, omega arith, omega (arith, w.write_key-end.ensures.1))

pub returns : goal.returns
returns c =
    let l = c in
    let a = l.args in
    (leaves_none (rw (slots_end a.registry.now a.line l.loop-k.k (omega arith)) at l.loop-k.invariant.0), omega arith)
