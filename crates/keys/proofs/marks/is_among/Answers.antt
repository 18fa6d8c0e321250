use Rattle.std.proofs.Common.{ℕ, Bool, true, not, ◌&&◌, List, ap, ◌∙◌, rules}
use Rattle.std.proofs.lemmas.Iterator.{YieldsList-from_slice}
use Rattle.std.proofs.lemmas.Iterator.Consumers.{fold_from_yields_List}
use Rattle.keys.specs.code.Marks.{differs_from}
use Rattle.keys.proofs.NameLaws.{and_all}
use Rattle.keys.proofs.marks.is_among.Goals as goal

pub returns : goal.returns
returns c =
    let l : List ℕ = c.args.marks.now in
    ap not
    (fold_from_yields_List _ (λ (t : Bool) (m : ℕ). t && differs_from c.args.mark m) true c.fold.result c.fold.ensures.ran (YieldsList-from_slice l cc) (λ a x b q k. search rules)
    ∙ and_all (differs_from c.args.mark) true l)
