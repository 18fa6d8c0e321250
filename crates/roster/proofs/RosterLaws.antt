-- A good roster file has legal, distinct names, at most eight, and leaves a well-formed registry.
use Rattle.std.proofs.Common.{Option, Some, None, Ok}
use mathlib.Core.Path.{◌≡◌, refl, ap₂, subst}
use mathlib.Core.Bool.{Bool, true, false, ◌&&◌}
use mathlib.Core.List.{List, [], ◌∷◌, ◌++◌}
use Prim.Native.Nat.{ℕ, ◌+◌, ◌≤◌, ◌<◌}
use native.Mathlib.Omega.{arith}
use borrow.Author.Tests.{leb-false, not-false}
use lib.ListN.{length, length-append}
use lib.Dec.{eqb}
use Rattle.wire.specs.Choice.{when◌then◌else◌, first_of}
use Rattle.wire.proofs.TestLaws.{none_at}
use Rattle.wire.proofs.ListLaws.{all_append}
use Rattle.registry.specs.Names.{distinct}
use Rattle.registry.specs.Registry.{line_count, registry_size}
use Rattle.registry.specs.WellFormed.{well_formed_registry}
use Rattle.registry.proofs.NameLaws.{apart_absent, distinct_snoc}
use Rattle.registry.proofs.KeylessLaws.{is_legal, LegalNames, registry_good}
use Rattle.records.specs.Records.{Record}
use Rattle.records.proofs.RecordLaws.{StepHas, records_have}
use Rattle.roster.specs.Roster.{fault_number, record_faults, Roster, applications, faulty, record_step, roster_of, RosterOutcome, roster_into, load_roster}
use Rattle.roster.specs.declared.RosterFault.{RosterFault}
use Rattle.roster.specs.declared.RosterFault.TheVariants.{WrongMemorySize, CutRecord, UnknownTag, BadName, NinthName, RepeatedName}

-- ---- what reading a roster collects: at most eight legal, distinct names

-- no test of the record's faults holds
legal_more : (names : List (List ℕ)) (r : Record) → LegalNames names → first_of (record_faults names r) ≡ None → LegalNames (names ++ (r.value ∷ []))
unfolding record_faults
legal_more names r l e =
    let bad = none_at (record_faults names r) 1 BadName e in
    let again = none_at (record_faults names r) 3 RepeatedName e in
    let room : length names < line_count = leb-false _ _ (none_at (record_faults names r) 2 NinthName e) in
    record {
      few = rw (length-append names (r.value ∷ [])) (let x : length names + 1 ≤ line_count = omega arith in x);
      legal = all_append is_legal names (r.value ∷ []) l.legal (ap₂ ◌&&◌ (not-false (is_legal r.value) bad) refl);
      named = distinct_snoc names r.value l.named (apart_absent r.value names (not-false _ again));
    }

LegalRoster : Roster → Type 0
LegalRoster (applications names) = LegalNames names
LegalRoster (faulty fault) = Unit {0}

step_legal : (names : List (List ℕ)) (r : Record) → LegalNames names → StepHas LegalNames LegalRoster (record_step names r)
unfolding record_step LegalRoster
step_legal names r l = go (first_of (record_faults names r)) refl
  where
    go : (o : Option RosterFault) → first_of (record_faults names r) ≡ o → StepHas LegalNames LegalRoster (record_step names r)
    go (Some fault) e = rw (e, record_step) tt
    go None e = rw (e, record_step) (legal_more names r l e)

pub roster_legal : (file : List ℕ) (names : List (List ℕ)) → roster_of file ≡ applications names → LegalNames names
unfolding roster_of LegalRoster distinct
roster_legal file names e =
    subst LegalRoster e
    (records_have (faulty CutRecord) record_step applications LegalNames LegalRoster tt (λ names l. l) step_legal file []
    (record { few = omega arith; legal = refl; named = refl }))

-- a roster file that is read leaves a well-formed registry
pub roster_good : (file memory : List ℕ) → (load_roster file memory).answer ≡ Ok tt → well_formed_registry (load_roster file memory).registry ≡ true
unfolding load_roster roster_into
roster_good file memory e = go (eqb (length memory) registry_size) e
  where
    read : (r : Roster) → roster_of file ≡ r → (roster_into memory r).answer ≡ Ok tt → well_formed_registry (roster_into memory r).registry ≡ true
    read (applications names) q f = registry_good names (roster_legal file names q)
    read (faulty fault) q f = cc

    go : (t : Bool)
        → (let o : RosterOutcome = when t then roster_into memory (roster_of file) else roster_into memory (faulty WrongMemorySize) in
        o.answer ≡ Ok tt → well_formed_registry o.registry ≡ true)
    go false f = cc
    go true f = read (roster_of file) refl f

-- ---- a fault's number is small

pub fault_small : (fault : RosterFault) → fault_number fault ≤ 5
unfolding fault_number
fault_small WrongMemorySize = omega arith
fault_small CutRecord = omega arith
fault_small UnknownTag = omega arith
fault_small BadName = omega arith
fault_small NinthName = omega arith
fault_small RepeatedName = omega arith
