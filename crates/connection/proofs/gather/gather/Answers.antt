use Prim.Native.Nat.{ℕ, ◌+◌, ◌-◌}
use mathlib.Core.Path.{◌≡◌, sym, ap, ◌∙◌}
use mathlib.Core.Bool.{true≢false}
use mathlib.Core.List.{List, ◌++◌}
use native.Mathlib.Omega.{arith}
use lib.ListN.{take, drop}
use borrow.Author.Rules.{rules}
use Rattle.wire.proofs.BufferLaws.{lent}
use Rattle.stream.specs.Frame.{next}
use Rattle.stream.specs.declared.frame.Frame.{Frame}
use Rattle.stream.specs.code.Framed.{frame_of}
use Rattle.stream.proofs.FramedLaws.{frame_unfinished}
use Rattle.connection.specs.code.Gather.{held_in}
use Rattle.connection.proofs.GatherLaws.{More, part_none, part_holds, part_again, holding_few, holding_size, after_left, after_few, after_size, after_in, after_some, gathers}
use Rattle.connection.proofs.gather.gather.Goals as goal
use Rattle.connection.proofs.gather.gather.Goals.{After-fill, then-used-chunk-via-then-used-chunk, then-used-chunk-via-else-used-chunk+then-not-matches, in-Unfinished, in_default}

-- what `fill` has done
more : (c : After-fill) → More (held_in c.args.held c.args.memory.now) c.args.chunk.now c.loop-used.memory c.args.held c.loop-used.used c.fill.new.memory c.fill.result
more c = record {
  long = c.requires.long;
  part = c.loop-used.invariant;
  filled = rw (lent c.loop-used.used c.args.chunk.now) at c.fill.ensures;
}

-- what the bytes held then begin with
read : {held chunk memory : List ℕ} {n used : ℕ} {after : List ℕ} {k : ℕ} → More held chunk memory n used after k → (f : Frame)
    → f ≡ frame_of (next (take (9 + n + (used + k) - 9) (drop 9 after))) → f ≡ frame_of (next (held ++ take (used + k) chunk))
read r f e = e ∙ ap (λ x. frame_of (next x)) (after_in r)

pub loop-used-init : goal.loop-used-init
loop-used-init c = part_none _ _ _ c.requires

pub overflow_add-held : goal.overflow_add-held
overflow_add-held c =
    let l = c.loop-used in
    let few = holding_few l.memory (c.args.held + l.used) (part_holds c.requires.long l.invariant) in
    search rules

pub fill-requires : goal.fill-requires
fill-requires c = part_holds c.requires.long c.loop-used.invariant

pub overflow_add-end : goal.overflow_add-end
overflow_add-end c = let few = after_few (more (goal.at.overflow_add-end c).After-fill) in search rules

pub overflow_add-used : goal.overflow_add-used
overflow_add-used c = let few = after_few (more (goal.at.overflow_add-used c).After-fill) in search rules

pub overflow_add-end-in-loop-used : goal.overflow_add-end-in-loop-used
overflow_add-end-in-loop-used c = let few = after_few (more (goal.at.overflow_add-end-in-loop-used c).After-fill) in search rules

pub slice_bounds-read_frame-end : goal.slice_bounds-read_frame-end
slice_bounds-read_frame-end c =
    let r = more (goal.at.slice_bounds-read_frame-end c).After-fill in
    let few = after_few r in
    let size = after_size r in
    search rules

pub returns-then-used-chunk : goal.returns-then-used-chunk
returns-then-used-chunk c =
    let r = more (goal.at.returns-then-used-chunk c).After-fill in
    let e = read r _ c.read_frame-frame.ensures in
    gathers r _ e (elim c.then-used-chunk.branch [
      | then-used-chunk-via-then-used-chunk w ↦ λ _. w.if-used-chunk.true
      | then-used-chunk-via-else-used-chunk+then-not-matches w ↦ λ u. absurd (elim w.match-matches.branch [
        | in-Unfinished w' ↦ true≢false (sym w'.matches-is ∙ w.if-not-matches.true)
        | in_default w' ↦ w'.in_default.not-Unfinished (e ∙ ap frame_of u)
      ])
    ])

pub loop-used-smaller : goal.loop-used-smaller
loop-used-smaller c =
    let r = more (goal.at.loop-used-smaller c).After-fill in
    let left = after_left r in
    let some = after_some r (omega arith) in
    omega arith

pub loop-used-preserved : goal.loop-used-preserved
loop-used-preserved c =
    let r = more (goal.at.loop-used-preserved c).After-fill in
    let e = read r _ c.read_frame-frame.ensures in
    part_again r (elim c.match-matches.branch [
      | in-Unfinished w ↦ frame_unfinished _ (sym e ∙ w.in-Unfinished.is)
      | in_default w ↦ absurd (true≢false (sym c.if-not-matches.false ∙ w.matches-is))
    ])

pub shape_of-memory-then-used-chunk : goal.shape_of-memory-then-used-chunk
shape_of-memory-then-used-chunk c =
    let size = after_size (more (goal.at.shape_of-memory-then-used-chunk c).After-fill) in
    let start = holding_size c.args.memory.now c.args.held c.requires in
    search rules
