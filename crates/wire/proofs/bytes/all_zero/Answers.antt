use Rattle.std.proofs.Common.{◌≡◌, ℕ, List, ◌∙◌, ap, eqb, bit_or, rules}
use Rattle.std.specs.List.{fold}
use Rattle.std.proofs.lemmas.Iterator.{YieldsList-from_slice}
use Rattle.std.proofs.lemmas.Iterator.Consumers.{fold_from_yields_List}
use Rattle.wire.proofs.BitLaws.{or_zeros}
use Rattle.wire.proofs.bytes.all_zero.Goals as goal

pub returns : goal.returns
returns c =
    let s : List ℕ = c.args.s.now in
    let joined : c.fold.result ≡ fold bit_or 0 s = fold_from_yields_List _ bit_or 0 c.fold.result c.fold.ensures.ran (YieldsList-from_slice s cc) (λ a x b q k. search rules) in
    ap (λ (n : ℕ). eqb n 0) joined ∙ or_zeros 0 s
