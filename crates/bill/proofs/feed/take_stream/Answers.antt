use Rattle.std.proofs.Common.{rules, ℕ, List, ◌≡◌, ◌*◌, ◌≤◌, ◌∙◌, refl, sym, arith, length, take}
use Rattle.std.proofs.Math.Seq.{length-take-le}
use Rattle.counters.specs.Counters.{counter_most}
use Rattle.service.specs.Call.{chunk_most}
use Rattle.service.specs.Contract.{lent_memory}
use Rattle.starting.specs.code.Stream.{After, ReadWithin}
use Rattle.starting.specs.declared.files.Input.{Input}
use Rattle.starting.specs.declared.files.Input.TheVariants.{Bytes}
use Rattle.starting.proofs.FeedLaws.{read_bytes, starts, follows, after_more, after_most}
use Rattle.bill.proofs.feed.take_stream.Goals as goal

pub loop-turn-init : goal.loop-turn-init
loop-turn-init c = (
  starts c.args.list.now c.args.registry.now c.args.connection.now _ _ _ c.requires.0 c.open_connection.ensures c.zero_counters-counters.ensures,
  refl,
  refl,
  search rules,
  search rules,
  search rules,
)

pub returns-in_default : goal.returns-in_default
returns-in_default c =
    let l = c.loop-turn in
    let (size, good, listed) = c.requires in
    after_most _ _ good listed _ _ l.invariant.0 counter_most (omega arith)

-- what was read is the front of the buffer
front : {n : ℕ} {r : Input} (chunk before : List ℕ) → ReadWithin (length before) r → r ≡ Bytes n → length chunk ≡ length before → length before ≡ chunk_most
    → (n ≤ chunk_most) × (length chunk ≡ chunk_most) × (length (take n chunk) ≡ n)
front chunk before read is same long =
    let (some, most) = read_bytes read is in
    (omega (arith, most, long), same ∙ long, length-take-le _ chunk (omega (arith, most, same)))

pub slice_bounds-chunk-end : goal.slice_bounds-chunk-end
slice_bounds-chunk-end c =
    let (few, long, size) = front c.read_some-input.new.buffer _ c.read_some-input.ensures c.in-Bytes.is c.read_some-input.auto.buffer c.loop-turn.invariant.3 in
    omega (arith, few, long)

pub slice_bounds-feed-end : goal.slice_bounds-feed-end
slice_bounds-feed-end c =
    let (few, long, size) = front c.read_some-input.new.buffer _ c.read_some-input.ensures c.in-Bytes.is c.read_some-input.auto.buffer c.loop-turn.invariant.3 in
    sym size

pub feed-counters-requires : goal.feed-counters-requires
feed-counters-requires c =
    let l = c.loop-turn in
    let (few, long, size) = front c.read_some-input.new.buffer _ c.read_some-input.ensures c.in-Bytes.is c.read_some-input.auto.buffer l.invariant.3 in
    (omega (arith, few, size), omega (arith, l.invariant.4), omega (arith, l.invariant.5), follows _ _ c.requires.1 c.requires.2 _ _ l.invariant.0 _ (omega (arith, few, size)))

pub loop-turn-preserved : goal.loop-turn-preserved
loop-turn-preserved c =
    let (kept, same, same2, long2, room, space) = c.loop-turn.invariant in
    let (few, long, size) = front c.read_some-input.new.buffer _ c.read_some-input.ensures c.in-Bytes.is c.read_some-input.auto.buffer long2 in
    let (long3, good, listed) = c.requires in (
      after_most _ _ good listed _ _ (after_more _ _ good listed _ _ kept _ _ (omega (arith, few, size)) c.feed-counters.ensures) _ (omega (arith, few, size)),
      c.feed-counters.auto.connection ∙ same,
      c.feed-counters.auto.registry ∙ same2,
      long,
      c.feed-counters.auto.response ∙ room,
      c.feed-counters.auto.journal ∙ space,
    )

pub returns : goal.returns
returns c =
    let l = c.loop-turn in
    let (size, good, listed) = c.requires in
    after_most _ _ good listed _ _ l.invariant.0 counter_most (omega arith)
