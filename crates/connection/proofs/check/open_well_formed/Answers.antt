use mathlib.Core.Path.{◌≡◌, sym, ◌∙◌}
use mathlib.Core.Bool.{◌&&◌}
use mathlib.Core.List.{List}
use Prim.Native.Nat.{ℕ, ◌+◌, ◌-◌}
use native.Mathlib.Omega.{arith}
use borrow.Author.Tests.{le-leb, lt-leb}
use lib.ListN.{take, drop}
use lib.Dec.{leb}
use Rattle.wire.proofs.NumberLaws.{all_bytes}
use Rattle.wire.specs.Lists.{all, is_zero}
use Rattle.stream.specs.Call.{is_beginning}
use Rattle.connection.specs.Connection.{held_most, well_formed_connection}
use Rattle.connection.proofs.CheckLaws.{open_tests_lem}
use Rattle.connection.proofs.check.open_well_formed.Goals as goal
use Rattle.connection.proofs.check.open_well_formed.Goals.{After-read_u64-number}

abbrev Tests : List ℕ → ℕ → Type 0
Tests memory n =
    well_formed_connection memory ≡ leb n held_most && (all is_zero (drop (9 + n) memory) && is_beginning (take n (drop 9 memory)))

tests : (c : After-read_u64-number) → Tests c.args.memory.now c.read_u64-number.result
tests c =
    let memory : List ℕ = c.args.memory.now in
    rw c.read_u64-number.ensures
    (open_tests_lem memory c.requires.0 (all_bytes memory (λ i. (c.shared_slice_known-1.given i).fits)) c.requires.1)

pub returns-then-number : goal.returns-then-number
returns-then-number c =
    let w = (goal.at.returns-then-number c).After-read_u64-number in
    rw (tests w, lt-leb _ _ c.if-number.true)

pub returns-then-is_zero_from : goal.returns-then-is_zero_from
returns-then-is_zero_from c =
    let w = (goal.at.returns-then-is_zero_from c).After-read_u64-number in
    let n = c.read_u64-number.result in
    let same : 9 + n - 9 ≡ n = omega arith in
    rw (tests w, le-leb _ _ c.if-number.false, sym c.is_zero_from.ensures ∙ c.if-is_zero_from.true)
    (c.is_beginning.ensures ∙ rw same)

pub returns-else-is_zero_from : goal.returns-else-is_zero_from
returns-else-is_zero_from c =
    let w = (goal.at.returns-else-is_zero_from c).After-read_u64-number in
    rw (tests w, le-leb _ _ c.if-number.false, sym c.is_zero_from.ensures ∙ c.if-is_zero_from.false) c.if-is_zero_from.false
