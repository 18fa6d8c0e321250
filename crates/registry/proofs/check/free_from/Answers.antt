use Rattle.std.proofs.Common.{◌≡◌, ◌+◌, ◌-◌, ℕ, true, drop, arith}
use mathlib.Core.Path.{subst}
use Rattle.wire.specs.Lists.{all}
use Rattle.wire.proofs.BlockLaws.{blocks_end}
use Rattle.registry.specs.Slots.{slot_size}
use Rattle.registry.specs.Registry.{slot_count, line_head, slots_in}
use Rattle.registry.specs.code.Check.{is_free}
use Rattle.registry.proofs.FreeLaws.{free_before}
use Rattle.registry.proofs.check.free_from.Goals as goal

pub loop-n-init : goal.loop-n-init
loop-n-init c = blocks_end is_free slot_size slot_count (drop line_head c.args.line.now) slot_count (omega arith)

pub returns-then-line-n-ne0 : goal.returns-then-line-n-ne0
returns-then-line-n-ne0 c =
    let n : c.loop-n.n ≡ c.loop-n.n - 1 + 1 = omega arith in
    (omega arith, subst (λ (k : ℕ). all is_free (drop k (slots_in c.args.line.now)) ≡ true) n c.loop-n.invariant)

pub loop-n-preserved : goal.loop-n-preserved
loop-n-preserved c = free_before c.args.line.now c.loop-n.n c.loop-n-test.true (omega arith) c.if-line-n-ne0.false c.loop-n.invariant

pub returns : goal.returns
returns c =
    let n : c.loop-n.n ≡ 0 = omega arith in
    (omega arith, subst (λ (k : ℕ). all is_free (drop k (slots_in c.args.line.now)) ≡ true) n c.loop-n.invariant)
