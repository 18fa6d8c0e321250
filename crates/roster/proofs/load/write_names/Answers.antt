use Rattle.std.proofs.Common.{◌≡◌, refl, sym, ap, ◌∙◌, ℕ, ◌*◌, ◌<◌, List, [], length, take, drop, get_or, map, arith}
use mathlib.Core.List.{flatten}
use lib.Seq.{take_at, take_all}
use Rattle.wire.specs.Lists.{padded, put, over}
use Rattle.wire.proofs.ListLaws.{all_at}
use Rattle.wire.proofs.BufferLaws.{put_on}
use Rattle.keys.specs.Names.{application_name_most}
use Rattle.keys.proofs.NameLaws.{legal_short}
use Rattle.registry.specs.Registry.{line_size, registry_size, line_of, registry_of}
use Rattle.registry.proofs.KeylessLaws.{is_legal}
use Rattle.roster.specs.code.Check.{names_at}
use Rattle.roster.proofs.LoadLaws.{names_many, lines_of, lines_more, lines_long}
use Rattle.roster.proofs.load.write_names.Goals as goal

pub loop-i-init : goal.loop-i-init
unfolding flatten
loop-i-init c = (refl, refl)

pub get-requires : goal.get-requires
get-requires c = (c.requires.1, c.loop-i-test.true)

pub write_line-requires : goal.write_line-requires
write_line-requires c =
    let names : List (List ℕ) = names_at c.args.file.now c.args.names in
    let there : c.loop-i.i < length names = rw (names_many c.args.file.now c.args.names c.requires.1) c.loop-i-test.true in (
      c.loop-i.invariant.1 ∙ c.requires.0,
      omega (arith, c.requires.1.few, c.loop-i-test.true),
      rw c.get.ensures (legal_short application_name_most _ (all_at is_legal [] names c.loop-i.i there c.requires.2)),
    )

pub loop-i-preserved : goal.loop-i-preserved
loop-i-preserved c =
    let names : List (List ℕ) = names_at c.args.file.now c.args.names in
    let many : length names ≡ c.args.names.count = names_many c.args.file.now c.args.names c.requires.1 in
    let i : ℕ = c.loop-i.i in
    let d : List ℕ = c.args.registry.now in
    let name : List ℕ = get_or names i [] in
    let there : i < length names = rw many c.loop-i-test.true in
    let reach : length (lines_of names i) ≡ i * line_size = lines_long names i c.requires.2 (omega arith) in
    let written : c.write_line.new.registry ≡ put c.loop-i.registry (i * line_size) (line_of name) = c.write_line.ensures ∙ ap (λ (n : List ℕ). put c.loop-i.registry (i * line_size) (line_of n)) c.get.ensures in (
      written
          ∙ put_on (lines_of names i) (line_of name) d c.loop-i.registry (i * line_size) (sym reach) c.loop-i.invariant.0
          ∙ ap (λ (l : List ℕ). over l d) (sym (lines_more names i there)),
      c.write_line.auto.registry ∙ c.loop-i.invariant.1,
    )

pub clear_lines-requires : goal.clear_lines-requires
clear_lines-requires c = (c.loop-i.invariant.1 ∙ c.requires.0, c.requires.1.few)

pub returns : goal.returns
unfolding registry_of
returns c =
    let names : List (List ℕ) = names_at c.args.file.now c.args.names in
    let many : length names ≡ c.args.names.count = names_many c.args.file.now c.args.names c.requires.1 in
    let n : ℕ = c.args.names.count in
    let i : c.loop-i.i ≡ n = omega arith in
    let d : List ℕ = c.args.registry.now in
    let reach : length (lines_of names n) ≡ n * line_size = lines_long names n c.requires.2 (omega arith) in
    let front : take (n * line_size) c.loop-i.registry ≡ lines_of names n =
    ap (take (n * line_size)) (c.loop-i.invariant.0 ∙ ap (λ (k : ℕ). over (lines_of names k) d) i) ∙ take_at (lines_of names n) (drop (length (lines_of names n)) d) (n * line_size) reach in
    c.clear_lines.ensures
    ∙ ap (padded registry_size) front
    ∙ ap (λ (ns : List (List ℕ)). padded registry_size (flatten (map line_of ns))) (take_all n names (omega arith))
