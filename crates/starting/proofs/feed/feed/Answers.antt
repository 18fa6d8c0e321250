use Prim.Native.Nat.{◌+◌, ◌-◌, ◌≤◌}
use mathlib.Core.Path.{◌≡◌, refl, sym, subst, ◌∙◌}
use native.Mathlib.Omega.{arith}
use borrow.Author.Rules.{rules}
use lib.ListN.{length, take, drop}
use Rattle.wire.proofs.BufferLaws.{lent}
use Rattle.service.specs.Contract.{lent_memory}
use Rattle.counters.specs.declared.Counters.{Counters}
use Rattle.starting.specs.code.Stream.{Takes}
use Rattle.starting.proofs.FeedLaws.{takes_none, takes_all, takes_more, takes_fits}
use Rattle.starting.proofs.feed.feed.Goals as goal

pub loop-at-init : goal.loop-at-init
loop-at-init c = let a = c.args in (takes_none a.list.now a.chunk.now _, omega arith, refl, refl, refl, refl)

pub overflow_add-at : goal.overflow_add-at
overflow_add-at c =
    let l = c.loop-at in
    let chunk = c.args.chunk.now in
    let (few, room, space, follows) = c.requires in
    let (taken, within, same, same2, long, long2) = l.invariant in
    let called = rw (lent l.at chunk) at c.call_by_value-o.ensures in
    let (some, fits) = takes_fits c.args.list.now chunk l.at _ _ l.response l.journal _ few c.loop-at-test.true (omega (arith, room, long)) (omega (arith, space, long2)) taken called follows in
    omega (arith, some, fits)

pub loop-at-smaller : goal.loop-at-smaller
loop-at-smaller c =
    let l = c.loop-at in
    let chunk = c.args.chunk.now in
    let (few, room, space, follows) = c.requires in
    let (taken, within, same, same2, long, long2) = l.invariant in
    let called = rw (lent l.at chunk) at c.call_by_value-o.ensures in
    let (some, fits) = takes_fits c.args.list.now chunk l.at _ _ l.response l.journal _ few c.loop-at-test.true (omega (arith, room, long)) (omega (arith, space, long2)) taken called follows in
    omega (arith, some, fits)

pub loop-at-preserved : goal.loop-at-preserved
loop-at-preserved c =
    let l = c.loop-at in
    let start = c.args in
    let chunk = start.chunk.now in
    let (few, room, space, follows) = c.requires in
    let (taken, within, same, same2, long, long2) = l.invariant in
    let call = c.call_by_value-o in
    let called = rw (lent l.at chunk) at call.ensures in
    let (some, fits) = takes_fits start.list.now chunk l.at _ _ l.response l.journal _ few c.loop-at-test.true (omega (arith, room, long)) (omega (arith, space, long2)) taken called follows in (
      takes_more start.list.now chunk l.at _ _ l.response l.journal _ few c.loop-at-test.true (omega (arith, room, long)) (omega (arith, space, long2)) taken called,
      fits,
      call.auto.connection ∙ same,
      call.auto.registry ∙ same2,
      call.auto.response ∙ long,
      call.auto.journal ∙ long2,
    )

pub returns : goal.returns
returns c =
    let l = c.loop-at in
    let a = c.args in
    takes_all a.list.now a.chunk.now l.at _ _ (omega arith) l.invariant.0
