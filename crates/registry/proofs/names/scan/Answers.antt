use Rattle.std.proofs.Common.{◌≡◌, sym, ap, ◌∙◌, ℕ, ◌+◌, ◌*◌, ◌≤◌, true, false, length, get_or, option_map, arith}
use Rattle.std.specs.List.{position}
use borrow.Author.Tests.{eq-eqb, ne_eqb}
use lib.ListN.{length-drop}
use Rattle.wire.specs.Lists.{blocks}
use Rattle.wire.proofs.ListLaws.{length_part}
use Rattle.registry.proofs.PlaceLaws.{has, place_whole, scan_turn, scan_done, has_length, has_turn, has_end}
use Rattle.registry.proofs.names.scan.Goals as goal
use Rattle.registry.proofs.names.scan.Goals.{After-wide}

pub scan-init : goal.scan-init
scan-init c = (omega arith, λ count e. (count, e, place_whole c.args.name.now (blocks count c.args.size c.args.bytes.now)))

pub overflow_add-next : goal.overflow_add-next
overflow_add-next c = omega (arith, c.scan.invariant.0, c.in-Some.ensures.cases.0)

-- the name fits into the block
room : (c : After-wide) → 1 + get_or c.in-Some.block.now 0 0 ≤ length c.in-Some.block.now
room c =
    let split = c.in-Some.ensures.cases in
    omega (arith, ap length split.1, length_part c.scan.rest.now 0 c.args.size (omega (arith, split.0)), c.wide.ensures.0, c.wide.ensures.1)

-- a block that has another name is passed
pass : (c : After-wide) → has c.args.name.now c.in-Some.block.now ≡ false → (count : ℕ) → length c.args.bytes.now ≡ count * c.args.size
    → (n : ℕ) × (length c.in-Some.behind.now ≡ n * c.args.size)
    × (position (has c.args.name.now) (blocks count c.args.size c.args.bytes.now) ≡ option_map (λ k. c.scan.next + 1 + k) (position (has c.args.name.now) (blocks n c.args.size c.in-Some.behind.now)))
pass c other count e =
    let i = c.scan.invariant.1 count e in
    let split = c.in-Some.ensures.cases in
    let t = scan_turn c.args.size i.0 c.scan.next c.scan.rest.now c.in-Some.block.now c.in-Some.behind.now c.args.name.now (omega arith) i.1 split.0 split.1 split.2 in
    (t.0, t.1, i.2 ∙ t.2 ∙ rw other)

less : (c : After-wide) → c.scan.next + 1 + length c.in-Some.behind.now ≤ length c.args.bytes.now
less c =
    let split = c.in-Some.ensures.cases in
    omega (arith, c.scan.invariant.0, split.0, ap length split.2, length-drop c.args.size c.scan.rest.now)

pub scan-preserved-then-wide-name : goal.scan-preserved-then-wide-name
scan-preserved-then-wide-name c =
    let w = (goal.at.scan-preserved-then-wide-name c).After-wide in
    (less w, pass w (has_length c.args.name.now c.in-Some.block.now (room w) (λ e. c.if-wide-name.true (c.wide.ensures.0 ∙ e))))

pub scan-preserved : goal.scan-preserved
scan-preserved c =
    let w = (goal.at.scan-preserved c).After-wide in
    let k : ℕ = c.loop-k.k in
    let turn = has_turn c.args.name.now c.in-Some.block.now k (room w) (sym c.wide.ensures.0 ∙ c.if-wide-name.false) c.loop-k-test.true in
    (less w, pass w (c.loop-k.invariant ∙ turn ∙ rw (ne_eqb (get_or c.args.name.now k 0) (get_or c.in-Some.block.now (1 + k) 0) (λ e. c.if-block-k.true (sym e)))))

pub loop-k-preserved : goal.loop-k-preserved
loop-k-preserved c =
    let w = (goal.at.loop-k-preserved c).After-wide in
    let k : ℕ = c.loop-k.k in
    let turn = has_turn c.args.name.now c.in-Some.block.now k (room w) (sym c.wide.ensures.0 ∙ c.if-wide-name.false) c.loop-k-test.true in
    c.loop-k.invariant ∙ turn ∙ rw (eq-eqb (get_or c.args.name.now k 0) (get_or c.in-Some.block.now (1 + k) 0) (sym c.if-block-k.false))

pub returns-in_default : goal.returns-in_default
returns-in_default c = λ count e.
    let i = c.scan.invariant.1 count e in
    sym (i.2 ∙ scan_done c.args.size i.0 c.scan.next c.scan.rest.now c.args.name.now i.1 c.in_default.ensures.cases)

pub returns-after-loop-k : goal.returns-after-loop-k
returns-after-loop-k c = λ count e.
    let w = (goal.at.returns-after-loop-k c).After-wide in
    let i = c.scan.invariant.1 count e in
    let split = c.in-Some.ensures.cases in
    let t = scan_turn c.args.size i.0 c.scan.next c.scan.rest.now c.in-Some.block.now c.in-Some.behind.now c.args.name.now (omega arith) i.1 split.0 split.1 split.2 in
    let own : has c.args.name.now c.in-Some.block.now ≡ true = c.loop-k.invariant ∙ has_end c.args.name.now c.in-Some.block.now c.loop-k.k (room w) (sym c.wide.ensures.0 ∙ c.if-wide-name.false) c.loop-k-test.false in
    sym (i.2 ∙ t.2 ∙ rw own)
