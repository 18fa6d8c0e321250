use Prim.Native.Nat.{ℕ, ◌+◌, ◌-◌, ◌*◌, ◌/◌, ◌%◌}
use mathlib.Core.Path.{◌≡◌, sym, ap₂, ◌∙◌}
use mathlib.Core.Bool.{true, ◌&&◌}
use mathlib.Core.List.{List}
use native.Mathlib.Omega.{arith}
use borrow.Author.Tests.{eq-eqb, ne_eqb}
use lib.Bits.{bit_or}
use lib.Dec.{eqb}
use lib.ListN.{length, take, drop}
use Rattle.wire.specs.Lists.{all, is_zero}
use Rattle.wire.proofs.BitLaws.{or_zero}
use Rattle.wire.proofs.ListLaws.{all_covered, ends_fail}
use Rattle.wire.proofs.bytes.all_zero_long.Goals as goal

-- the test of the first and the last 16 bytes
ends : (s : List ℕ) (a b : ℕ) → eqb a 0 ≡ all is_zero (take 16 s) → eqb b 0 ≡ all is_zero (take 16 (drop (length s - 16) s))
    → eqb (bit_or a b) 0 ≡ all is_zero (take 16 s) && all is_zero (take 16 (drop (length s - 16) s))
ends s a b p q = or_zero a b ∙ ap₂ ◌&&◌ p q

pub returns-then-join_sixteen-ne0 : goal.returns-then-join_sixteen-ne0
returns-then-join_sixteen-ne0 c =
    let s : List ℕ = c.args.s.now in
    sym (ends_fail is_zero s 16 (length s - 16) (sym (ends s c.join_sixteen.result c.join_sixteen-2.result c.join_sixteen.ensures c.join_sixteen-2.ensures) ∙ ne_eqb _ 0 c.if-join_sixteen-ne0.true))

pub returns : goal.returns
returns c =
    let x = c.args in
    let s : List ℕ = x.s.now in
    let a : ℕ = 16 - x.at % 16 in
    let rows : ℕ = (length s - a) / 16 in
    let size : ℕ = (rows + 7) / 8 * 32 in
    let zero : all is_zero (take 16 s) && all is_zero (take 16 (drop (length s - 16) s)) ≡ true = sym (ends s c.join_sixteen.result c.join_sixteen-2.result c.join_sixteen.ensures c.join_sixteen-2.ensures) ∙ eq-eqb _ 0 c.if-join_sixteen-ne0.false in
    c.are_parts_zero.ensures
    ∙ sym (all_covered is_zero s 16 (2 * size) a (a + rows * 16) (length s - 16) (omega arith) (omega arith) (omega arith) (omega arith) (omega arith) ∙ rw zero)
