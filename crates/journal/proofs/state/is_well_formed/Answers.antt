use mathlib.Core.Path.{◌≡◌, sym, ap, ap₂, ◌∙◌}
use mathlib.Core.List.{List}
use Prim.Native.Nat.{ℕ, ◌+◌, ◌≤◌}
use native.Mathlib.Omega.{arith}
use lib.ListN.{drop}
use Rattle.wire.specs.Lists.{all, is_zero}
use Rattle.wire.specs.Numbers.{field}
use Rattle.wire.proofs.BufferLaws.{lent}
use Rattle.journal.specs.Compact.{file_most, is_begun_whole}
use Rattle.journal.specs.Memory.{kept_at, count_at, front_at}
use Rattle.journal.proofs.StateLaws.{state_size_lem, state_fault, state_far, state_whole, state_full, state_zeros}
use Rattle.journal.proofs.state.is_well_formed.Goals as goal
use Rattle.journal.proofs.state.is_well_formed.Goals.{After-is_whole}

abbrev state : After-is_whole → List ℕ
state c = c.args.state.now

within : (c : After-is_whole) → field kept_at 8 (state c) + field count_at 8 (state c) ≤ file_most
within c =
    let kept = c.read_u64-kept.ensures in
    let count = c.read_u64-count.ensures in
    let a = c.if-kept-gt-FILE_MOST.false in
    let b = c.if-kept-count.false in
    omega arith

whole : (c : After-is_whole) → is_begun_whole (field count_at 8 (state c)) (drop front_at (state c)) ≡ c.is_whole.result
whole c =
    sym (c.is_whole.ensures ∙ ap₂ is_begun_whole c.read_u64-count.ensures (lent front_at (state c)))

pub returns-then-state-ne-STATE_SIZE : goal.returns-then-state-ne-STATE_SIZE
returns-then-state-ne-STATE_SIZE c =
    state_size_lem c.args.state.now c.if-state-ne-STATE_SIZE.true

pub returns-then-state-gt3 : goal.returns-then-state-gt3
returns-then-state-gt3 c =
    state_fault c.args.state.now c.if-state-ne-STATE_SIZE.false c.if-state-gt3.true

pub returns-then-kept-gt-FILE_MOST : goal.returns-then-kept-gt-FILE_MOST
returns-then-kept-gt-FILE_MOST c =
    let kept = c.read_u64-kept.ensures in
    let t = c.if-kept-gt-FILE_MOST.true in
    state_far c.args.state.now c.if-state-ne-STATE_SIZE.false c.if-state-gt3.false (omega arith)

pub returns-then-kept-count : goal.returns-then-kept-count
returns-then-kept-count c =
    let kept = c.read_u64-kept.ensures in
    let count = c.read_u64-count.ensures in
    let t = c.if-kept-count.true in
    state_far c.args.state.now c.if-state-ne-STATE_SIZE.false c.if-state-gt3.false (omega arith)

pub returns-then-is_whole : goal.returns-then-is_whole
returns-then-is_whole c =
    let w = (goal.at.returns-then-is_whole c).After-is_whole in
    state_whole (state w) c.if-state-ne-STATE_SIZE.false c.if-state-gt3.false (within w) (whole w ∙ c.if-is_whole.true)

pub returns-then-count : goal.returns-then-count
returns-then-count c =
    let w = (goal.at.returns-then-count c).After-is_whole in
    let count = c.read_u64-count.ensures in
    let t = c.if-count.true in
    state_full (state w) c.if-state-ne-STATE_SIZE.false c.if-state-gt3.false (within w) (whole w ∙ c.if-is_whole.false) (omega arith)

pub returns : goal.returns
returns c =
    let w = (goal.at.returns c).After-is_whole in
    let n : ℕ = c.read_u64-count.result in
    c.all_zero.ensures
    ∙ ap (all is_zero) (lent (front_at + n) (state w) ∙ ap (λ (k : ℕ). drop (front_at + k) (state w)) c.read_u64-count.ensures)
    ∙ state_zeros (state w) c.if-state-ne-STATE_SIZE.false c.if-state-gt3.false (within w) (whole w ∙ c.if-is_whole.false)
