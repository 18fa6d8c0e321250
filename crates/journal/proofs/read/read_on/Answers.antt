use mathlib.Core.Path.{sym, ◌∙◌}
use Prim.Native.Nat.{◌<◌}
use lib.ListN.{length}
use Rattle.journal.specs.code.Done.{compact_with}
use Rattle.journal.proofs.StepLaws.{not_ended}
use Rattle.journal.proofs.ReadLaws.{part_none, part_again, part_ended, part_end}
use Rattle.journal.proofs.read.read_on.Goals as goal

pub loop-i-init : goal.loop-i-init
loop-i-init c =
    (part_none (compact_with c.args.registry.now c.args.start c.args.front.now) c.args.chunk.now c.requires.2, c.requires.0, c.requires.1)

pub has_ended-requires : goal.has_ended-requires
has_ended-requires c = c.loop-i.invariant.0.within

pub returns-then-has_ended : goal.returns-then-has_ended
returns-then-has_ended c =
    let l = c.loop-i in
    part_ended _ c.args.chunk.now (compact_with l.registry l.progress l.front) l.i l.invariant.0 (sym c.has_ended.ensures ∙ c.if-has_ended.true)

pub take_on-progress-requires : goal.take_on-progress-requires
take_on-progress-requires c =
    let l = c.loop-i in
    (l.invariant.1, l.invariant.2, not_ended l.progress.fault l.progress.kept l.progress.count (sym c.has_ended.ensures ∙ c.if-has_ended.false), c.table-entries.ensures)

pub loop-i-preserved : goal.loop-i-preserved
loop-i-preserved c =
    let l = c.loop-i in
    let more : l.i < length c.args.chunk.now = c.loop-i-test.true in
    (part_again _ c.args.chunk.now (compact_with l.registry l.progress l.front) l.i l.invariant.0 more (sym c.has_ended.ensures ∙ c.if-has_ended.false) _ c.take_on-progress.ensures, c.take_on-progress.auto.front ∙ l.invariant.1, c.take_on-progress.auto.registry ∙ l.invariant.2)

pub returns : goal.returns
returns c =
    let l = c.loop-i in
    part_end _ c.args.chunk.now (compact_with l.registry l.progress l.front) l.i l.invariant.0 c.loop-i-test.false
