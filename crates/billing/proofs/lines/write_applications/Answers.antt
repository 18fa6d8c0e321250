use Prim.Native.Nat.{◌+◌, ◌-◌, ◌*◌, ◌≤◌, ◌<◌}
use mathlib.Core.Bool.{true}
use mathlib.Core.Path.{◌≡◌, sym, ap, ◌∙◌}
use native.Mathlib.Omega.{arith}
use borrow.Author.Rules.{rules}
use lib.ListN.{length}
use Rattle.registry.specs.Registry.{line_count, registry_size}
use Rattle.registry.specs.WellFormed.{well_formed_registry}
use Rattle.registry.proofs.WellFormedLaws.{good_of}
use Rattle.billing.specs.Outcome.{application_line_most}
use Rattle.billing.proofs.PlacedLaws.{Leaves, leaves_all, leaves_rest, leaves_none}
use Rattle.billing.proofs.LineLaws.{lines_from, name_at, lines_end, lines_none, lines_next, name_short}
use Rattle.billing.proofs.lines.write_applications.Goals as goal
use Rattle.billing.proofs.lines.write_applications.Goals.{After-line_name-name, At-loop-i, Else-name-eq0}

good : (l : At-loop-i) → well_formed_registry l.args.registry.now ≡ true
good l = l.requires.0

size : (l : At-loop-i) → length l.args.registry.now ≡ registry_size
size l = (good_of _ (good l)).size

below : (w : After-line_name-name) → w.loop-i.i < line_count
below w = omega arith

below_2 : (w : Else-name-eq0) → w.loop-i.i < line_count
below_2 w = omega arith

some : (e : Else-name-eq0)
    → length (name_at e.args.registry.now e.loop-i.i (below_2 e)) ≡ 0 → ⊥
some e z = e.if-name-eq0.false (ap length e.line_name-name.ensures ∙ z)

pub loop-i-init : goal.loop-i-init
loop-i-init c = let a = c.args in (leaves_all _ a.out.now a.at (omega arith), omega arith, omega arith)

pub line_name-name-requires : goal.line_name-name-requires
line_name-name-requires c =
    let w = (goal.at.line_name-name-requires c).At-loop-i in
    (size w, omega arith)

pub returns-then-name-eq0 : goal.returns-then-name-eq0
returns-then-name-eq0 c =
    let w = (goal.at.returns-then-name-eq0 c).After-line_name-name in
    let a = c.args in
    let none = lines_none a.registry.now c.loop-i.i (below w) a.served.now (sym (ap length c.line_name-name.ensures) ∙ c.if-name-eq0.true) in
    (leaves_none (rw none at c.loop-i.invariant.0), omega arith)

pub write_application-end-requires : goal.write_application-end-requires
write_application-end-requires c =
    let w = (goal.at.write_application-end-requires c).At-loop-i in
    let w' = (goal.at.write_application-end-requires c).Else-name-eq0 in
    (rw c.line_name-name.ensures (name_short _ c.loop-i.i (below_2 w') (some w') (good w)), omega (arith, c.loop-i.invariant.0.long))

pub loop-i-preserved : goal.loop-i-preserved
loop-i-preserved c =
    let w = (goal.at.loop-i-preserved c).Else-name-eq0 in
    let a = c.args in
    let next = lines_next a.registry.now c.loop-i.i (below_2 w) (some w) a.served.now in
    let line = rw c.line_name-name.ensures at c.write_application-end.ensures.0 in
    (leaves_rest (rw next at c.loop-i.invariant.0) line, omega arith, omega (arith, c.write_application-end.ensures.1))

pub returns : goal.returns
returns c =
    let a = c.args in
    (leaves_none (rw (lines_end a.registry.now a.served.now c.loop-i.i (omega arith)) at c.loop-i.invariant.0), omega arith)
