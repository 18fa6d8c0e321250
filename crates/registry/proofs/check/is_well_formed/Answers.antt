use Rattle.std.proofs.Common.{◌≡◌, sym, ap, ◌∙◌, ℕ, ◌*◌, ◌≤◌, List, length, drop, unwrap_or, arith}
use mathlib.Core.Bool.{and-true}
use borrow.Author.Tests.{ne_eqb, eq-eqb}
use Rattle.wire.specs.Lists.{all, is_zero, blocks}
use Rattle.wire.proofs.BufferLaws.{lent}
use Rattle.registry.specs.Registry.{line_count, line_size, registry_size}
use Rattle.registry.specs.code.Check.{well_formed_line, used_lines}
use Rattle.registry.proofs.SlotLaws.{every_fails}
use Rattle.registry.proofs.CheckLaws.{registry_checks, used_few, same_test}
use Rattle.registry.proofs.PlaceLaws.{used_found}
use Rattle.registry.proofs.check.is_well_formed.Goals as goal
use Rattle.registry.proofs.check.is_well_formed.Goals.{After-unwrap_or-n}

used : (c : After-unwrap_or-n) → c.unwrap_or-n.result ≡ used_lines c.args.registry.now
used c =
    c.unwrap_or-n.ensures ∙ ap (λ (o : _). unwrap_or o line_count) (c.scan.ensures line_count c.if-registry-ne-REGISTRY_SIZE.false) ∙ used_found c.args.registry.now

few : (c : After-unwrap_or-n) → c.unwrap_or-n.result ≤ line_count
few c = omega (arith, used c, used_few c.args.registry.now)

-- the test of the bytes behind the used lines, and of those lines
zeros : (r : List ℕ) (n : ℕ) {t : _} → n ≡ used_lines r → t ≡ all is_zero (drop (n * line_size) r) → t ≡ all is_zero (drop (used_lines r * line_size) r)
zeros r n e q = q ∙ ap (λ (k : ℕ). all is_zero (drop (k * line_size) r)) e

pub returns-then-registry-ne-REGISTRY_SIZE : goal.returns-then-registry-ne-REGISTRY_SIZE
returns-then-registry-ne-REGISTRY_SIZE c =
    let r : List ℕ = c.args.registry.now in
    sym (same_test r ∙ every_fails (registry_checks r) 0 (ne_eqb (length r) registry_size c.if-registry-ne-REGISTRY_SIZE.true))

pub overflow_mul-a : goal.overflow_mul-a
overflow_mul-a c =
    let w = (goal.at.overflow_mul-a c).After-unwrap_or-n in
    omega (arith, few w)

pub slice_bounds-all_zero_long-count : goal.slice_bounds-all_zero_long-count
slice_bounds-all_zero_long-count c =
    let w = (goal.at.slice_bounds-all_zero_long-count c).After-unwrap_or-n in
    omega (arith, few w, c.if-registry-ne-REGISTRY_SIZE.false)

pub slice_bounds-all_zero_long-start : goal.slice_bounds-all_zero_long-start
slice_bounds-all_zero_long-start c =
    let w = (goal.at.slice_bounds-all_zero_long-start c).After-unwrap_or-n in
    omega (arith, few w, c.if-registry-ne-REGISTRY_SIZE.false)

pub returns-then-not-all_zero_long : goal.returns-then-not-all_zero_long
returns-then-not-all_zero_long c =
    let w = (goal.at.returns-then-not-all_zero_long c).After-unwrap_or-n in
    let r : List ℕ = c.args.registry.now in
    let a : ℕ = c.unwrap_or-n.result * line_size in
    let zero = zeros r c.unwrap_or-n.result (used w) (c.all_zero_long.ensures ∙ ap (all is_zero) (lent a r)) in
    sym (same_test r ∙ every_fails (registry_checks r) 1 (sym zero ∙ c.if-not-all_zero_long.true))

pub are_lines-requires : goal.are_lines-requires
are_lines-requires c =
    let w = (goal.at.are_lines-requires c).After-unwrap_or-n in
    (c.if-registry-ne-REGISTRY_SIZE.false, few w)

pub returns-then-not-are_lines : goal.returns-then-not-are_lines
returns-then-not-are_lines c =
    let w = (goal.at.returns-then-not-are_lines c).After-unwrap_or-n in
    let r : List ℕ = c.args.registry.now in
    let lines = c.are_lines.ensures ∙ ap (λ (n : ℕ). all well_formed_line (blocks n line_size r)) (used w) in
    sym (same_test r ∙ every_fails (registry_checks r) 2 (sym lines ∙ c.if-not-are_lines.true))

pub returns : goal.returns
returns c =
    let w = (goal.at.returns c).After-unwrap_or-n in
    let r : List ℕ = c.args.registry.now in
    let a : ℕ = c.unwrap_or-n.result * line_size in
    let size = c.if-registry-ne-REGISTRY_SIZE.false in
    let zero = zeros r c.unwrap_or-n.result (used w) (c.all_zero_long.ensures ∙ ap (all is_zero) (lent a r)) in
    let lines = c.are_lines.ensures ∙ ap (λ (n : ℕ). all well_formed_line (blocks n line_size r)) (used w) in
    c.are_distinct.ensures line_count size
    ∙ sym (same_test r ∙ rw (eq-eqb (length r) registry_size size, sym zero ∙ c.if-not-all_zero_long.false, sym lines ∙ c.if-not-are_lines.false) (and-true _))
