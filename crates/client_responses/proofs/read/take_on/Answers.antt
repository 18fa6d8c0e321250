use Prim.Native.Nat.{ℕ, ◌+◌, ◌≤◌}
use mathlib.Core.Path.{sym, ◌∙◌}
use mathlib.Core.List.{List}
use native.Mathlib.Omega.{arith}
use lib.ListN.{length, length-drop}
use Rattle.wire.proofs.BufferLaws.{lent}
use Rattle.client_responses.specs.State.{asked_in, bytes_in}
use Rattle.client_responses.proofs.StateLaws.{well}
use Rattle.client_responses.proofs.ReadLaws.{none_awaited, some_told, part_none, part_holds, part_again, part_stops, after_well}
use Rattle.client_responses.proofs.read.take_on.Goals as goal

pub loop-taken-init : goal.loop-taken-init
loop-taken-init c =
    let m : List ℕ = c.args.memory.now in
    part_none (asked_in m) (bytes_in m) c.args.chunk.now m c.requires.memory_is c.requires.begun

pub fill-taken-requires : goal.fill-taken-requires
fill-taken-requires c =
    let l = c.loop-taken in
    let m : List ℕ = c.args.memory.now in
    part_holds (asked_in m) (bytes_in m) c.args.chunk.now (well m c.requires.well).listed l.memory l.taken l.invariant

pub look-looked-requires : goal.look-looked-requires
look-looked-requires c =
    let l = c.loop-taken in
    let f = c.fill-taken in
    let filled = rw (lent l.taken c.args.chunk.now) at f.ensures in
    let m : List ℕ = c.args.memory.now in
    after_well (asked_in m) (bytes_in m) c.args.chunk.now (well m c.requires.well).listed l.memory l.taken l.invariant f.new.memory f.result filled

pub returns-then-taken-chunk : goal.returns-then-taken-chunk
returns-then-taken-chunk c =
    let l = c.loop-taken in
    let f = c.fill-taken in
    let filled = rw (lent l.taken c.args.chunk.now) at f.ensures in
    let left = filled.left in
    let all : length c.args.chunk.now ≤ l.taken + f.result = omega arith in
    rw c.answer.ensures (
      part_stops c.args.memory.now c.args.chunk.now c.requires.well l.memory l.taken l.invariant f.new.memory f.result filled c.look-looked.result c.look-looked.ensures (λ e. all),
      c.look-looked.ensures.within,
    )

pub loop-taken-smaller : goal.loop-taken-smaller
loop-taken-smaller c =
    let l = c.loop-taken in
    let filled = rw (lent l.taken c.args.chunk.now) at c.fill-taken.ensures in
    let left = filled.left in
    let n = length-drop l.taken c.args.chunk.now in
    let one = filled.more (omega arith) in
    omega arith

pub loop-taken-preserved : goal.loop-taken-preserved
loop-taken-preserved c =
    let l = c.loop-taken in
    let f = c.fill-taken in
    let filled = rw (lent l.taken c.args.chunk.now) at f.ensures in
    let m : List ℕ = c.args.memory.now in
    part_again (asked_in m) (bytes_in m) c.args.chunk.now (well m c.requires.well).listed l.memory l.taken l.invariant f.new.memory f.result filled c.look-looked.result c.look-looked.ensures
    (none_awaited _ (sym c.is_waiting.ensures ∙ c.if-not-is_waiting.false))

pub returns-then-not-is_waiting : goal.returns-then-not-is_waiting
returns-then-not-is_waiting c =
    let l = c.loop-taken in
    let f = c.fill-taken in
    let filled = rw (lent l.taken c.args.chunk.now) at f.ensures in
    rw c.answer-then-not-is_waiting.ensures (
      part_stops c.args.memory.now c.args.chunk.now c.requires.well l.memory l.taken l.invariant f.new.memory f.result filled c.look-looked.result c.look-looked.ensures
          (λ e. absurd (some_told _ (sym c.is_waiting.ensures ∙ c.if-not-is_waiting.true) e)),
      c.look-looked.ensures.within,
    )
