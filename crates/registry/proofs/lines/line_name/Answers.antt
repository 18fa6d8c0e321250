use Rattle.std.proofs.Common.{◌≡◌, sym, ap, ◌∙◌, ℕ, ◌+◌, ◌*◌, ◌-◌, take, drop, arith}
use Rattle.registry.specs.Names.{name_in}
use Rattle.registry.specs.Registry.{line_size}
use Rattle.registry.proofs.LineLaws.{name_there}
use Rattle.registry.proofs.lines.line_name.Goals as goal

pub returns : goal.returns
returns c =
    let a : ℕ = c.args.line.0 * line_size in
    let size : a + line_size - a ≡ line_size = omega arith in
    c.name_of.ensures.name ∙ ap (λ (k : ℕ). name_in (take k (drop a c.args.registry.now))) size ∙ sym (name_there c.args.registry.now c.args.line.0 c.requires.1)
