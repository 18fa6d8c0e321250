use Rattle.std.proofs.Common.{◌≡◌, sym, ap, ◌∙◌, ℕ, true, false, List, map, is_some, arith}
use borrow.Author.Tests.{eqb-true, eqb-false, not-true, not-false}
use Rattle.wire.specs.Lists.{blocks}
use Rattle.keys.specs.Names.{is_new}
use Rattle.registry.specs.Names.{name_in}
use Rattle.registry.proofs.NameLaws.{lone, lone_empty, lone_named}
use Rattle.registry.proofs.PlaceLaws.{place_new, distinct_turn, distinct_done}
use Rattle.registry.proofs.names.are_distinct.Goals as goal
use Rattle.registry.proofs.names.are_distinct.Goals.{else-not-is_empty-via-then-not-is_empty+else-is_some, else-not-is_empty-via-else-not-is_empty}

pub returns-then-is_some : goal.returns-then-is_some
returns-then-is_some c = λ count e.
    let i = c.loop-block.invariant count e in
    let split = c.in-Some.ensures.cases in
    let name : List ℕ = c.name_of-name.result.now in
    let t = distinct_turn c.args.size i.0 c.loop-block.rest.now c.in-Some.block.now c.in-Some.behind.now name (omega arith) i.1 split.0 split.1 split.2 c.name_of-name.ensures.name in
    let names : List (List ℕ) = map name_in (blocks t.0 c.args.size c.in-Some.behind.now) in
    let again : is_new name names ≡ false = not-true _ (sym (place_new name _) ∙ sym (ap is_some (c.first_named.ensures t.0 t.1)) ∙ sym c.is_some.ensures ∙ c.if-is_some.true) in
    sym (i.2 ∙ t.2 ∙ rw (lone_named name names (eqb-false _ 0 (sym c.is_empty.ensures ∙ c.if-not-is_empty.true)), again))

pub loop-block-preserved : goal.loop-block-preserved
loop-block-preserved c = λ count e.
    let i = c.loop-block.invariant count e in
    let split = c.in-Some.ensures.cases in
    let name : List ℕ = c.name_of-name.result.now in
    let t = distinct_turn c.args.size i.0 c.loop-block.rest.now c.in-Some.block.now c.in-Some.behind.now name (omega arith) i.1 split.0 split.1 split.2 c.name_of-name.ensures.name in
    let names : List (List ℕ) = map name_in (blocks t.0 c.args.size c.in-Some.behind.now) in
    let own : lone name names ≡ true = elim c.else-not-is_empty.branch [
      | else-not-is_empty-via-then-not-is_empty+else-is_some w ↦
          lone_named name names (eqb-false _ 0 (sym c.is_empty.ensures ∙ w.if-not-is_empty.true))
          ∙ not-false _ (sym (place_new name _) ∙ sym (ap is_some (w.first_named.ensures t.0 t.1)) ∙ sym w.is_some.ensures ∙ w.if-is_some.false)
      | else-not-is_empty-via-else-not-is_empty w ↦ lone_empty name names (eqb-true _ 0 (sym c.is_empty.ensures ∙ w.if-not-is_empty.false))
    ] in
    (t.0, t.1, i.2 ∙ t.2 ∙ rw own)

pub returns : goal.returns
returns c = λ count e.
    let i = c.loop-block.invariant count e in
    sym (i.2 ∙ distinct_done c.args.size i.0 c.loop-block.rest.now i.1 c.in_default.ensures.cases)
