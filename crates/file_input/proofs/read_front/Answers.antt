use Rattle.std.proofs.Common.{rules, ◌≡◌, ◌+◌, ◌-◌, ◌≤◌, ◌∙◌, ap, arith, length, length-drop}
use borrow.Rule.Slice.PartMut.{put_mid, same_len_mid}
use Rattle.wire.proofs.BufferLaws.{lent}
use Rattle.starting.proofs.ReadLaws.{front_within}
use Rattle.starting.proofs.FeedLaws.{read_bytes}
use Rattle.file_input.proofs.read_front.Goals as goal

-- a byte at least was read, and no more than there is room for
fits : (c : goal.In-Bytes)
    → (let l = c.loop-size in (1 ≤ c.in-Bytes.more) × (l.size + c.in-Bytes.more ≤ length l.front))
fits c =
    let l = c.loop-size in
    let (some, most) = read_bytes c.read_some-input.ensures c.in-Bytes.is in
    (some, omega (arith, most, ap length (lent l.size l.front), length-drop l.size l.front))

-- what is lent on for reading keeps its length
long : (c : goal.In-Bytes)
    → (let l = c.loop-size in
    length (put_mid l.size (length l.front - l.size) l.front c.read_some-input.new.buffer) ≡ length l.front)
long c = let l = c.loop-size in same_len_mid l.size (length l.front - l.size) l.front c.read_some-input.new.buffer c.read_some-input.auto.buffer

pub overflow_add-size : goal.overflow_add-size
overflow_add-size c = omega (arith, (fits c).1)

pub loop-size-smaller : goal.loop-size-smaller
loop-size-smaller c = omega (arith, long c, (fits c).0, (fits c).1)

pub loop-size-preserved : goal.loop-size-preserved
loop-size-preserved c = (omega (arith, long c, (fits c).1), long c ∙ c.loop-size.invariant.1)

pub returns-in_default : goal.returns-in_default
returns-in_default c =
    let l = c.loop-size in
    front_within _ l.size _ _ (omega (arith, l.invariant.0, l.invariant.1)) c.front_of.ensures

pub returns : goal.returns
returns c =
    let l = c.loop-size in
    front_within _ l.size _ _ (omega (arith, l.invariant.0, l.invariant.1)) c.front_of-2.ensures
