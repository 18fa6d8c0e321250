-- DEMAND 3 OF THE CODE: any list of calls, lent one list of keys that we ship, each step being the contract (`CallContract`) that
-- the `ensures` of the call cites. Every function of a proved crate meets its contract, so that whatever the code does is such a list.
use Prim.Native.Nat.{ℕ}
use mathlib.Core.Path.{◌≡◌, sym, subst}
use mathlib.Core.List.{List}
use Rattle.reading.specs.code.Calls.{hand_over}
use Rattle.reading.proofs.RunsLaws as reading
use Rattle.stream.specs.Call.{reader}
use Rattle.stream.specs.Handed.{Lent}
use Rattle.stream.specs.Claims.{TakenWhole}
use Rattle.journal.specs.Journalling.{journalling}
use Rattle.service.specs.Call.{Memory, layout, Call, fresh, refusal_of, call_outcome}
use Rattle.service.specs.code.Calls.{calls_outcome}
use Rattle.service.specs.Contract.{Ran, outcome_in, CallContract}
use Rattle.service.specs.Claims.{Runs, ran_outcome, handed_over, FollowsRules, CodeDemand3}
use Rattle.service.proofs.Demand3.{demand3}

-- the code's calls are the definition's
module _ (list : List ℕ) where
  pub ran : (calls : List Call) (m : Memory) (runs : List Ran) → Runs list m calls runs → calls_outcome list m calls ≡ ran_outcome m runs
  unfolding calls_outcome call_outcome
  ran calls m runs p =
      reading.ran (reader (journalling list)) layout (refusal_of list) outcome_in (CallContract list) (λ _. Unit {0}) (λ m call r _ e. e) (λ m call _. tt) calls m runs tt p

  handed : (lent : ℕ → Lent) (most : ℕ) (m : Memory) (chunks : List (List ℕ)) (runs : List Ran) → Runs list m (handed_over most lent chunks runs) runs
      → handed_over most lent chunks runs ≡ hand_over (reader (journalling list)) layout (refusal_of list) most lent m chunks
  unfolding call_outcome
  handed lent most m chunks runs p =
      reading.handed (reader (journalling list)) layout (refusal_of list) outcome_in (CallContract list) (λ _. Unit {0}) (λ m call r _ e. e) (λ m call _. tt) lent most m chunks runs tt p

pub code_demand3 : (list registry : List ℕ) → CodeDemand3 list registry
code_demand3 list registry = record {
  follows = λ calls runs p. subst (FollowsRules list registry calls) (ran list calls (fresh registry) runs p) ((demand3 list registry).follows calls);
  taken = λ w good chunks lent most runs short small room space enough p.
      let calls : List Call = handed_over most lent chunks runs in
      subst (TakenWhole chunks calls) (ran list calls (fresh registry) runs p)
      (subst (λ (x : List Call). TakenWhole chunks x (calls_outcome list (fresh registry) x)) (sym (handed list lent most (fresh registry) chunks runs p))
      ((demand3 list registry).taken w good chunks lent most short small room space enough));
}
