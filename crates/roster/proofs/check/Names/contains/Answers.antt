use Rattle.std.proofs.Common.{sym, ap, ◌∙◌, ℕ, ◌≤◌, ◌<◌, Bool, not, List, [], length}
use Rattle.wire.specs.Lists.{same}
use Rattle.wire.proofs.ListLaws.{all_pass, all_fail, all_end}
use Rattle.roster.specs.code.Check.{names_at}
use Rattle.roster.proofs.LoadLaws.{names_many}
use Rattle.roster.proofs.check.Names.contains.Goals as goal

abbrev differs : List ℕ → List ℕ → Bool
differs name other = not (same name other)

pub returns-then-equal : goal.returns-then-equal
returns-then-equal c =
    let names : List (List ℕ) = names_at c.args.file.now c.args.self in
    let there : c.loop-i.i < length names = rw (names_many c.args.file.now c.args.self c.requires) c.loop-i-test.true in
    let hit = ap not (sym (c.equal.ensures ∙ ap (same c.args.name.now) c.get.ensures) ∙ c.if-equal.true) in
    sym (ap not (c.loop-i.invariant ∙ all_fail (differs c.args.name.now) [] names c.loop-i.i there hit))

pub loop-i-preserved : goal.loop-i-preserved
loop-i-preserved c =
    let names : List (List ℕ) = names_at c.args.file.now c.args.self in
    let there : c.loop-i.i < length names = rw (names_many c.args.file.now c.args.self c.requires) c.loop-i-test.true in
    let miss = ap not (sym (c.equal.ensures ∙ ap (same c.args.name.now) c.get.ensures) ∙ c.if-equal.false) in
    c.loop-i.invariant ∙ all_pass (differs c.args.name.now) [] names c.loop-i.i there miss

pub returns : goal.returns
returns c =
    let names : List (List ℕ) = names_at c.args.file.now c.args.self in
    let end : length names ≤ c.loop-i.i = rw (names_many c.args.file.now c.args.self c.requires) c.loop-i-test.false in
    sym (ap not (c.loop-i.invariant ∙ all_end (differs c.args.name.now) [] names c.loop-i.i end))
