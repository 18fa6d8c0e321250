use Prim.Native.Nat.{◌+◌}
use mathlib.Core.Path.{sym, ap, ap₂, ◌∙◌}
use mathlib.Core.Bool.{◌&&◌}
use mathlib.Core.List.{List}
use Prim.Native.Nat.{ℕ}
use lib.Dec.{eqb}
use lib.ListN.{take, drop}
use lib.Seq.{drop-drop}
use Rattle.wire.specs.Lists.{all, is_zero}
use Rattle.wire.proofs.BitLaws.{or_zero}
use Rattle.wire.proofs.ListLaws.{all_parts}
use Rattle.wire.proofs.NumberLaws.{field_zero}
use Rattle.wire.proofs.bytes.join_sixteen.Goals as goal

pub returns : goal.returns
returns c =
    let a = c.args in
    let s : List ℕ = a.s.now in
    let at : ℕ = a.at in
    or_zero c.read_u64.result c.read_u64-2.result
    ∙ ap₂
    ◌&&◌
    (ap (λ (n : ℕ). eqb n 0) c.read_u64.ensures ∙ field_zero at 8 s)
    (ap (λ (n : ℕ). eqb n 0) c.read_u64-2.ensures ∙ field_zero (at + 8) 8 s ∙ ap (λ (l : List ℕ). all is_zero (take 8 l)) (sym (drop-drop 8 at s)))
    ∙ sym (all_parts is_zero 8 8 (drop at s))
