use Rattle.std.proofs.Common.{List, ℕ, arith, rules}
use Rattle.std.proofs.lemmas.Iterator.Search.{position_from_yields_List}
use borrow.Author.Tests.{tests}
use Rattle.wire.specs.Lists.{same}
use Rattle.registry.specs.Names.{name_in}
use Rattle.registry.proofs.ChunkLaws.{chunks_yield}
use Rattle.registry.proofs.names.first_named.Goals as goal

pub returns : goal.returns
returns c = λ count e.
    position_from_yields_List (λ (block : List ℕ). same c.args.name.now (name_in block)) _ _ _ c.position.ensures.ran
    (chunks_yield count c.args.size c.args.bytes.now (omega arith) e c.chunks_exact.ensures.rest c.chunks_exact.ensures.size) (λ x b q k. search (rules, tests))
