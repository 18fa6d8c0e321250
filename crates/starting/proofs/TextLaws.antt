-- What is written of a start: its line, or the bill of well-formed memory.
use Rattle.std.proofs.Common.{Result, Ok, Err}
use mathlib.Core.Path.{◌≡◌, refl, ap, ◌∙◌, subst}
use mathlib.Core.Bool.{true}
use mathlib.Core.List.{List, [], ◌∷◌}
use Prim.Native.Nat.{ℕ, ◌≤◌}
use borrow.Author.Tests.{le-ltb}
use lib.ListN.{length}
use Rattle.wire.specs.Choice.{first_of}
use Rattle.wire.specs.Lists.{over}
use Rattle.wire.specs.code.Wrote.{Wrote}
use Rattle.connection.specs.Connection.{well_formed_connection}
use Rattle.registry.specs.WellFormed.{well_formed_registry}
use Rattle.roster.specs.declared.RosterFault.{RosterFault}
use Rattle.service.specs.Call.{Memory}
use Rattle.billing.specs.Bill.{refused_roster, refused_list, no_file}
use Rattle.billing.specs.Outcome.{bill_most, bill_in, refusal_tests, BillOutcome, outcome_of, bill_outcome}
use Rattle.billing.specs.declared.BillRefusal.{BillRefusal}
use Rattle.starting.specs.declared.start.StartRefusal.TheVariants.{Faulty, BadList, Unreadable}
use Rattle.starting.specs.Start.{Source, line_of}

-- ---- the bill of well-formed memory

module _ (d e : List ℕ) (answer : Result ℕ BillRefusal) (m : Memory) (room : bill_most ≤ length d) (connected : well_formed_connection m.connection ≡ true)
    (registered : well_formed_registry m.registry ≡ true) (says : record { answer = answer; out = e } ≡ bill_outcome d m) where
  written : BillOutcome
  written = record { answer = Ok (length (bill_in m)); out = over (bill_in m) d }

  outcome : record { answer = answer; out = e } ≡ written
  unfolding written bill_outcome outcome_of first_of refusal_tests
  outcome = says ∙ rw (le-ltb (length d) bill_most room, connected, registered)

  pub bill_wrote : (n : ℕ) → answer ≡ Ok n → Wrote (bill_in m) d e n
  unfolding written
  bill_wrote n w = record {
    count = let a : answer ≡ Ok (length (bill_in m)) = ap (λ (o : BillOutcome). o.answer) outcome in cc;
    bytes = ap (λ (o : BillOutcome). o.out) outcome;
  }

  -- no other answer is given
  pub always_written : ((n : ℕ) → answer ≡ Ok n → ⊥) → ⊥
  unfolding written
  always_written other = other (length (bill_in m)) (ap (λ (o : BillOutcome). o.answer) outcome)

-- ---- the line that says why there is no start

module _ (s : Source) {d e : List ℕ} {r : ℕ} where
  pub wrote_unreadable : s ≡ Err Unreadable → Wrote no_file d e r → Wrote (line_of s) d e r
  unfolding line_of
  wrote_unreadable q t = rw q t

  pub wrote_refused : {fault : RosterFault} → s ≡ Err (Faulty fault) → Wrote (refused_roster fault) d e r → Wrote (line_of s) d e r
  unfolding line_of
  wrote_refused q t = rw q t

  pub wrote_unlisted : s ≡ Err BadList → Wrote refused_list d e r → Wrote (line_of s) d e r
  unfolding line_of
  wrote_unlisted q t = rw q t

pub wrote_none : (s : Source) {d : List ℕ} → s ≡ Ok tt → Wrote (line_of s) d d 0
unfolding line_of
wrote_none s q = rw q (record { count = refl; bytes = refl })
