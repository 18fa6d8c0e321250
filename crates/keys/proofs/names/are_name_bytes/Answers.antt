use Rattle.std.proofs.Common.{ℕ, Bool, true, ◌&&◌, List, ◌∙◌, rules}
use Rattle.std.proofs.lemmas.Iterator.{YieldsList-from_slice}
use Rattle.std.proofs.lemmas.Iterator.Consumers.{fold_from_yields_List}
use Rattle.keys.specs.Names.{is_name_byte}
use Rattle.keys.proofs.NameLaws.{and_all}
use Rattle.keys.proofs.names.are_name_bytes.Goals as goal

pub returns : goal.returns
returns c =
    let s : List ℕ = c.args.s.now in
    fold_from_yields_List _ (λ (t : Bool) (b : ℕ). t && is_name_byte b) true c.fold.result c.fold.ensures.ran (YieldsList-from_slice s cc) (λ a x b q k. search rules)
    ∙ and_all is_name_byte true s
