use Rattle.std.proofs.Common.{◌≡◌, sym, ap, ◌∙◌, ℕ, ◌+◌, ◌-◌, ◌<◌, List, length, take, drop, get_or, arith}
use Rattle.wire.specs.Lists.{same}
use Rattle.registry.proofs.FindLaws.{other_length, other_byte}
use Rattle.registry.proofs.find.is_named.Goals as goal

pub returns-then-wide-n : goal.returns-then-wide-n
returns-then-wide-n c =
    let line : List ℕ = c.args.line.now in
    let short : get_or line 0 0 < length line = omega (arith, c.wide.ensures.0, c.wide.ensures.1) in
    sym (other_length line c.args.name.now short (λ e. c.if-wide-n.true (c.wide.ensures.0 ∙ e)))

pub returns-then-line-n : goal.returns-then-line-n
returns-then-line-n c =
    let n : ℕ = length c.args.name.now in
    let last : 1 + (n - 1) ≡ n = omega arith in
    sym (other_byte c.args.line.now c.args.name.now (n - 1) (omega (arith, c.wide.ensures.0, c.if-wide-n.false)) (rw last c.if-line-n.true))

pub returns : goal.returns
returns c =
    let line : List ℕ = c.args.line.now in
    let size : 1 + length c.args.name.now - 1 ≡ get_or line 0 0 = omega (arith, c.wide.ensures.0, c.if-wide-n.false) in
    c.equal.ensures ∙ ap (λ (k : ℕ). same c.args.name.now (take k (drop 1 line))) size
