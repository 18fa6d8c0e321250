use Rattle.std.proofs.Common.{◌≡◌, sym, ap, ◌∙◌, ℕ, List, option_map, arith, rules}
use Rattle.std.proofs.lemmas.Iterator.Search.{position_from_yields_List}
use Rattle.std.specs.List.{position}
use borrow.Author.Tests.{tests, eqb-true, eqb-false}
use Rattle.registry.specs.Registry.{line_count, line_size, lines_in}
use Rattle.registry.specs.declared.Line.{Line}
use Rattle.registry.proofs.ChunkLaws.{chunks_yield}
use Rattle.registry.proofs.PlaceLaws.{has, nameless, line_found}
use Rattle.registry.proofs.find.find_application.Goals as goal

pub returns-then-is_empty : goal.returns-then-is_empty
returns-then-is_empty c = sym (nameless c.args.registry.now c.args.name.now (eqb-true _ 0 (sym c.is_empty.ensures ∙ c.if-is_empty.true)))

pub returns : goal.returns
returns c =
    let registry : List ℕ = c.args.registry.now in
    let name : List ℕ = c.args.name.now in
    let found : c.position.result ≡ position (has name) (lines_in registry) =
    position_from_yields_List (has name) _ _ c.position.result c.position.ensures.ran
    (chunks_yield line_count line_size registry (omega arith) c.requires c.chunks_exact.ensures.rest c.chunks_exact.ensures.size) (λ x b q k. search (rules, tests)) in
    let some_name = eqb-false _ 0 (sym c.is_empty.ensures ∙ c.if-is_empty.false) in
    let mapped : c.map.result ≡ option_map {U = Line} (λ n. record { 0 = n }) c.position.result = search rules in
    mapped ∙ ap (option_map (λ n. record { 0 = n })) found ∙ line_found registry name (omega (arith, some_name))
