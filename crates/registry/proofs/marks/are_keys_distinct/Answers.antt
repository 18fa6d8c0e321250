use Rattle.std.proofs.Common.{◌≡◌, sym, ap, ◌∙◌, ℕ, ◌*◌, List, length, drop, map, arith}
use lib.ListN.{length-drop}
use Rattle.wire.specs.Lists.{blocks}
use Rattle.wire.proofs.BufferLaws.{lent}
use Rattle.registry.specs.Names.{name_in, distinct}
use Rattle.registry.specs.Slots.{slot_size}
use Rattle.registry.specs.Registry.{slot_count, line_head}
use Rattle.registry.proofs.marks.are_keys_distinct.Goals as goal

pub returns-then-are_marks_apart : goal.returns-then-are_marks_apart
returns-then-are_marks_apart c = sym (c.are_marks_apart.ensures c.if-are_marks_apart.true)

pub returns : goal.returns
returns c =
    let line : List ℕ = c.args.line.now in
    let long : length (drop line_head line) ≡ slot_count * slot_size = omega (arith, length-drop line_head line, c.requires.0) in
    c.are_distinct.ensures slot_count (ap length (lent line_head line) ∙ long) ∙ ap (λ (s : List ℕ). distinct (map name_in (blocks slot_count slot_size s))) (lent line_head line)
