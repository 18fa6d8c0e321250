-- THE BILL BY THE RULES: the text that write_bill's definition gives for the memory that calls leave is that of document 01's
-- bill for the roster and the joined stream of taken bytes.
use mathlib.Core.Path.{◌≡◌, refl, ap, ap₂, ◌∙◌}
use mathlib.Core.Bool.{true}
use mathlib.Core.List.{List, [], ◌∷◌, ◌++◌}
use Prim.Native.Nat.{ℕ, zero, suc, ◌+◌, ◌-◌}
use native.Mathlib.Omega.{arith}
use lib.ListN.{length, replicate}
use Rattle.wire.specs.Lists.{all}
use Rattle.wire.proofs.TestLaws.{and_left, and_right}
use Rattle.reading.specs.Calls.{taken_stream}
use Rattle.stream.specs.Rules.{rules}
use Rattle.stream.proofs.KeptLaws.{rules_connection}
use Rattle.stream.proofs.CallsLaws.{Lawful}
use Rattle.keys.specs.Names.{application_name_most}
use Rattle.registry.specs.Registry.{line_count, names_in, registry_of}
use Rattle.keys.proofs.NameLaws.{legal_some}
use Rattle.registry.proofs.KeylessLaws.{is_legal, LegalNames, registry_names, registry_good}
use Rattle.roster.specs.Roster.{applications}
use Rattle.roster.proofs.RosterLaws.{roster_legal}
use Rattle.judgement.specs.Judgement.{judgement}
use Rattle.judgement.proofs.NamesLaws.{rules_names}
use Rattle.counters.specs.Counters.{totals_of}
use Rattle.service.specs.Call.{state_in, memory_of, layout, fresh}
use Rattle.service.proofs.Demand3.{lawful}
use Rattle.service.specs.Claims.{answers_in, left_after}
use Rattle.service.proofs.CodeDemand3.{code_demand3}
use Rattle.billing.specs.Bill.{bill_of, requests_on, bill_for}
use Rattle.billing.specs.Outcome.{used_names, bill_in}
use Rattle.billing.specs.Claims.{BillOfCalls}
use Rattle.billing.proofs.RequestLaws.{bill_requests}

used_first_lem : (names : List (List ℕ)) (k : ℕ) → all is_legal names ≡ true → used_names (names ++ replicate k []) ≡ names
unfolding used_names
used_first_lem [] zero e = refl
used_first_lem [] (suc k) e = refl
used_first_lem ([] ∷ names) k e = let some = legal_some application_name_most [] (and_left (is_legal []) _ e) in absurd (omega arith)
used_first_lem ((b ∷ name) ∷ names) k e = ap (λ (l : List (List ℕ)). (b ∷ name) ∷ l) (used_first_lem names k (and_right (is_legal (b ∷ name)) _ e))

module _ (names : List (List ℕ)) (legal : LegalNames names) where
  -- the used lines are the roster's
  registry_used : used_names (names_in (registry_of names)) ≡ names
  registry_used = ap used_names (registry_names names legal) ∙ used_first_lem names (line_count - length names) legal.legal

  -- the bill of what the rules leave in memory
  pub bill_by_rules : (list stream : List ℕ) → bill_in (memory_of (rules (judgement list) (registry_of names) stream).state) ≡ bill_for list (applications names) stream
  unfolding bill_in bill_for Lawful layout memory_of
  bill_by_rules list stream =
      ap₂ bill_of
      (ap used_names (rules_names list (registry_of names) (registry_good names legal) stream) ∙ registry_used)
      (lawful (rules (judgement list) (registry_of names) stream).state (rules_connection (judgement list) (registry_of names) stream))

pub bill_of_calls : BillOfCalls
unfolding state_in totals_of Lawful layout
bill_of_calls list file names good calls runs p =
    let legal = roster_legal file names good in
    let stream : List ℕ = taken_stream calls (answers_in runs) in
    let follows = (code_demand3 list (registry_of names)).follows calls runs p in
    let accounted = follows.accounted in
    let answered = follows.answered in
    let state : state_in (left_after (fresh (registry_of names)) runs) ≡ (rules (judgement list) (registry_of names) stream).state
    = ap state_in follows.memory
    ∙ lawful (rules (judgement list) (registry_of names) stream).state (rules_connection (judgement list) (registry_of names) stream) in
    record {
      text = rw good (ap bill_in follows.memory ∙ bill_by_rules names legal list stream);
      bytes = omega arith;
      requests = ap (requests_on names) state ∙ bill_requests list names legal stream;
    }
