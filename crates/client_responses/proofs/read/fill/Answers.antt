use Prim.Native.Nat.{ℕ}
use mathlib.Core.Path.{sym, ◌∙◌}
use mathlib.Core.List.{List}
use native.Mathlib.Omega.{arith}
use lib.Seq.{length-take-le}
use Rattle.client_responses.specs.State.{asked_in, bytes_in}
use Rattle.client_responses.proofs.StateLaws.{well}
use Rattle.client_responses.proofs.read.fill.Goals as goal

pub read_u16-held-requires : goal.read_u16-held-requires
read_u16-held-requires c = let w = well _ c.requires.well in let s = w.size in omega arith

pub append-requires : goal.append-requires
append-requires c =
    let v = well c.args.memory.now c.requires.well in
    let few = c.run.ensures.few in
    let long = v.long in
    let k = c.min-k.result in
    let part = length-take-le k c.args.rest.now (let x = c.min-k.ensures in omega arith) in
    (v.size, omega arith)

pub returns : goal.returns
returns c =
    let m : List ℕ = c.args.memory.now in
    let long = (well m c.requires.well).long in
    let run = c.run.ensures in
    let one = run.one in
    let few = run.few in
    record {
      left = omega arith;
      few = omega arith;
      nothing_before = λ j h. run.nothing_before j (omega arith) (omega arith);
      after_is = c.append.ensures (asked_in m) (bytes_in m) (long ∙ sym c.read_u16-held.ensures) c.requires.memory_is;
      more = λ q. omega arith;
    }
