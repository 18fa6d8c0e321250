use Rattle.std.proofs.Common.{◌∙◌, arith, rules}
use Rattle.std.proofs.lemmas.Iterator.Search.{all_from_yields_List}
use borrow.Author.Tests.{tests}
use Rattle.registry.specs.Slots.{slot_size, well_formed_slot}
use Rattle.registry.proofs.ChunkLaws.{chunks_yield, all_listed}
use Rattle.registry.proofs.check.are_slots.Goals as goal

pub returns : goal.returns
returns c = λ n e.
    all_from_yields_List well_formed_slot _ _ _ c.all.ensures.ran
    (chunks_yield n slot_size c.args.slots.now (omega arith) e c.chunks_exact.ensures.rest c.chunks_exact.ensures.size) (λ x b q k. search (rules, tests))
    ∙ all_listed well_formed_slot _
