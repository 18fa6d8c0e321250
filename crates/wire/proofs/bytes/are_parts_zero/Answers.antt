use Prim.Native.Nat.{ℕ, ◌+◌, ◌-◌, ◌*◌, ◌≤◌}
use mathlib.Core.Path.{◌≡◌, refl, ap, ap₂, ◌∙◌}
use mathlib.Core.Bool.{◌&&◌}
use mathlib.Core.List.{List}
use native.Mathlib.Omega.{arith}
use lib.ListN.{take, drop}
use Rattle.wire.specs.Lists.{all, is_zero}
use Rattle.wire.proofs.ListLaws.{all_twice}
use Rattle.wire.proofs.bytes.are_parts_zero.Goals as goal

-- the second part's halves
halves : (f size : ℕ) → 2 * size ≤ f → (f - size - size + size ≡ f - size) × (f - size + size ≡ f) × (f - size - size ≡ f - 2 * size)
halves f size h = (omega arith, omega arith, omega arith)

pub returns : goal.returns
returns c =
    let x = c.args in
    let s : List ℕ = x.s.now in
    let a : ℕ = x.a in
    let f : ℕ = x.f in
    let size : ℕ = x.size in
    let half = halves f size (let h : 2 * size ≤ f = omega arith in h) in
    c.join_four.ensures
    ∙ ap₂
    ◌&&◌
    (all_twice is_zero s a (a + size) (a + size + size) size refl refl)
    (all_twice is_zero s (f - size - size) (f - size) f size half.0 half.1 ∙ ap (λ (k : ℕ). all is_zero (take (2 * size) (drop k s))) half.2)
