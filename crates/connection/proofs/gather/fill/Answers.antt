use Prim.Native.Nat.{ℕ, ◌+◌, ◌-◌, min}
use mathlib.Core.Path.{◌≡◌, ap, ◌∙◌}
use mathlib.Core.List.{List}
use native.Mathlib.Omega.{arith}
use lib.ListN.{length, take, drop}
use lib.Seq.{length-take-le}
use Rattle.stream.specs.Frame.{next}
use Rattle.connection.specs.code.Gather.{wanted_of, held_in, Holding}
use Rattle.connection.proofs.GatherLaws.{wanted_more, wanted_few, holding_few, holding_size}
use borrow.Author.Rules.{rules}
use Rattle.connection.proofs.gather.fill.Goals as goal
use Rattle.connection.proofs.gather.fill.Goals.{After-min-k}

pub overflow_add-end : goal.overflow_add-end
overflow_add-end c = let s = c in let few = holding_few s.args.memory.now s.args.held s.requires in search rules

-- what is wanted, of the bytes held
wanted_as : (m : List ℕ) (h w : ℕ) → Holding m h → w ≡ wanted_of (take (9 + h - 9) (drop 9 m)) → w ≡ wanted_of (held_in h m)
wanted_as m h w p e = e ∙ ap (λ (n : ℕ). wanted_of (held_in n m)) (let x : 9 + h - 9 ≡ h = omega arith in x)

pub slice_bounds-wanted-end : goal.slice_bounds-wanted-end
slice_bounds-wanted-end c =
    let few = holding_few c.args.memory.now c.args.held c.requires in
    let size = holding_size c.args.memory.now c.args.held c.requires in
    search rules

pub wanted-want-requires : goal.wanted-want-requires
wanted-want-requires c =
    let m = c.args.memory.now in
    ap (λ (n : ℕ). next (held_in n m)) (let x : 9 + c.args.held - 9 ≡ c.args.held = omega arith in x) ∙ c.requires.begun

-- as many as are wanted or there
some : (c : After-min-k) → c.min-k.result ≡ min (length c.args.chunk.now) (c.wanted-want.result - c.args.held)
some c = search rules

pub append-requires : goal.append-requires
append-requires c =
    let m : List ℕ = c.args.memory.now in
    let w = wanted_as m c.args.held _ c.requires c.wanted-want.ensures.0 in
    let few = wanted_few (held_in c.args.held m) c.requires.begun in
    let l = c.requires.long in
    let e = some (goal.at.append-requires c).After-min-k in
    let d = length-take-le c.min-k.result c.args.chunk.now (omega arith) in
    (holding_size m c.args.held c.requires, omega arith)

pub returns : goal.returns
returns c =
    let m : List ℕ = c.args.memory.now in
    let h : ℕ = c.args.held in
    let w = wanted_as m h _ c.requires c.wanted-want.ensures.0 in
    let more = wanted_more (held_in h m) c.requires.begun in
    let l = c.requires.long in
    let e = some (goal.at.returns c).After-min-k in
    record {
      left = omega arith;
      few = omega arith;
      memory_is = c.append.ensures (held_in h m) l c.requires.memory_is;
      more = λ p. omega arith;
    }
