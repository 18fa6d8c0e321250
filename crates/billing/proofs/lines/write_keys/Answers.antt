use Prim.Native.Nat.{◌+◌, ◌-◌, ◌*◌, ◌≤◌, ◌<◌}
use mathlib.Core.Bool.{true}
use mathlib.Core.Path.{◌≡◌, sym, ap, ◌∙◌}
use native.Mathlib.Omega.{arith}
use borrow.Author.Rules.{rules}
use lib.ListN.{length}
use Rattle.registry.specs.Registry.{line_count, slot_count, registry_size}
use Rattle.registry.specs.WellFormed.{well_formed_registry}
use Rattle.registry.proofs.WellFormedLaws.{good_of}
use Rattle.billing.specs.Outcome.{key_line_most}
use Rattle.billing.proofs.PlacedLaws.{Leaves, leaves_all, leaves_rest, leaves_none}
use Rattle.billing.proofs.LineLaws.{slots_from, keys_from, keys_end, keys_none, keys_next}
use Rattle.billing.proofs.lines.write_keys.Goals as goal
use Rattle.billing.proofs.lines.write_keys.Goals.{After-line_name, At-loop-i}

good : (l : At-loop-i) → well_formed_registry l.args.registry.now ≡ true
good l = l.requires.0

size : (l : At-loop-i) → length l.args.registry.now ≡ registry_size
size l = (good_of _ (good l)).size

below : (w : After-line_name) → w.loop-i.i < line_count
below w = omega arith

pub loop-i-init : goal.loop-i-init
loop-i-init c = let a = c.args in (leaves_all _ a.out.now a.at (omega arith), omega arith, omega arith)

pub line_name-requires : goal.line_name-requires
line_name-requires c =
    let w = (goal.at.line_name-requires c).At-loop-i in
    (size w, omega arith)

pub returns-then-line_name-eq0 : goal.returns-then-line_name-eq0
returns-then-line_name-eq0 c =
    let w = (goal.at.returns-then-line_name-eq0 c).After-line_name in
    let a = c.args in
    let none = keys_none a.registry.now c.loop-i.i (below w) (sym (ap length c.line_name.ensures) ∙ c.if-line_name-eq0.true) in
    (leaves_none (rw none at c.loop-i.invariant.0), omega arith)

pub write_line_keys-end-requires : goal.write_line_keys-end-requires
write_line_keys-end-requires c =
    let w = (goal.at.write_line_keys-end-requires c).At-loop-i in
    let w' = (goal.at.write_line_keys-end-requires c).After-line_name in
    (good w, below w', omega (arith, c.loop-i.invariant.0.long))

pub loop-i-preserved : goal.loop-i-preserved
loop-i-preserved c =
    let w = (goal.at.loop-i-preserved c).After-line_name in
    let a = c.args in
    let next = keys_next a.registry.now c.loop-i.i (below w) (λ z. c.if-line_name-eq0.false (ap length c.line_name.ensures ∙ z)) in (
      leaves_rest {a = slots_from a.registry.now (record { 0 = c.loop-i.i }) 0} (rw next at c.loop-i.invariant.0) c.write_line_keys-end.ensures.0,
      omega arith,
      omega (arith, c.write_line_keys-end.ensures.1),
    )

pub returns : goal.returns
returns c =
    let a = c.args in
    (leaves_none (rw (keys_end a.registry.now c.loop-i.i (omega arith)) at c.loop-i.invariant.0), omega arith)
