use Rattle.std.proofs.Common.{◌≡◌, Err, List, ℕ, rules}
use borrow.Author.Tests.{eq-eqb, ne_eqb}
use Rattle.roster.specs.Roster.{roster_into, load_roster}
use Rattle.roster.specs.code.Check.{names_at}
use Rattle.roster.proofs.RosterLaws.{roster_legal}
use Rattle.roster.proofs.LoadLaws.{known_good, known_within, known_faulty}
use Rattle.roster.proofs.load.load_roster.Goals as goal

pub returns-then-registry-ne-REGISTRY_SIZE : goal.returns-then-registry-ne-REGISTRY_SIZE
unfolding load_roster roster_into
returns-then-registry-ne-REGISTRY_SIZE c = rw (ne_eqb _ _ c.if-registry-ne-REGISTRY_SIZE.true)

pub returns-in_err-names : goal.returns-in_err-names
unfolding load_roster roster_into
returns-in_err-names c =
    let fault = c.in_err-names.field-0.0 in
    let failed : c.from_residual.result ≡ Err fault = search rules in
    rw (failed, eq-eqb _ _ c.if-registry-ne-REGISTRY_SIZE.false, known_faulty c.args.file.now fault c.in_err-names.ensures)

pub write_names-requires : goal.write_names-requires
write_names-requires c =
    let file : List ℕ = c.args.file.now in
    let names = c.in_ok-names.names in
    let good = known_good file names c.in_ok-names.ensures in
    (c.if-registry-ne-REGISTRY_SIZE.false, known_within file names c.in_ok-names.ensures, (roster_legal file (names_at file names) good).legal)

pub returns : goal.returns
unfolding load_roster roster_into
returns c =
    rw (eq-eqb _ _ c.if-registry-ne-REGISTRY_SIZE.false, known_good c.args.file.now c.in_ok-names.names c.in_ok-names.ensures, c.write_names.ensures)
