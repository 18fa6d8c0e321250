use Rattle.wire.proofs.BlockLaws.{blocks_pass, blocks_fail, blocks_end}
use Rattle.registry.specs.Registry.{line_size}
use Rattle.registry.specs.code.Check.{well_formed_line}
use mathlib.Core.Path.{◌≡◌, sym, ap, ◌∙◌}
use Prim.Native.Nat.{ℕ, ◌+◌, ◌*◌, ◌-◌}
use native.Mathlib.Omega.{arith}
use lib.ListN.{take, drop}
use Rattle.registry.proofs.check.are_lines.Goals as goal
use Rattle.registry.proofs.check.are_lines.Goals.{After-is_line}

abbrev i : After-is_line → ℕ
i c = c.loop-i.i

-- the block that was tested
tested : (c : After-is_line) → c.is_line.result ≡ well_formed_line (take line_size (drop (i c * line_size) c.args.registry.now))
tested c =
    let n : i c * line_size + line_size - i c * line_size ≡ line_size = omega arith in
    c.is_line.ensures ∙ ap (λ (m : ℕ). well_formed_line (take m (drop (i c * line_size) c.args.registry.now))) n

pub returns-then-not-is_line : goal.returns-then-not-is_line
returns-then-not-is_line c =
    let w = (goal.at.returns-then-not-is_line c).After-is_line in
    sym (c.loop-i.invariant ∙ blocks_fail well_formed_line line_size c.args.n c.args.registry.now (i w) c.loop-i-test.true (sym (tested w) ∙ c.if-not-is_line.true))

pub loop-i-preserved : goal.loop-i-preserved
loop-i-preserved c =
    let w = (goal.at.loop-i-preserved c).After-is_line in
    c.loop-i.invariant ∙ blocks_pass well_formed_line line_size c.args.n c.args.registry.now (i w) c.loop-i-test.true (sym (tested w) ∙ c.if-not-is_line.false)

pub returns : goal.returns
returns c =
    let a = c.args in
    sym (c.loop-i.invariant ∙ blocks_end well_formed_line line_size a.n a.registry.now c.loop-i.i c.loop-i-test.false)
