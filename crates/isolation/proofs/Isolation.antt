-- ONE APPLICATION CAN'T SWAY ANOTHER, over the definitions.
use Rattle.std.proofs.Common.{Some}
use mathlib.Core.Path.{◌≡◌, refl, sym, ap, ap₂, ◌∙◌, subst}
use Prim.Native.Nat.{ℕ}
use mathlib.Core.Logic.{◌⊎◌, inl, inr}
use mathlib.Core.Bool.{Bool, true, false}
use mathlib.Core.List.{List, [], ◌∷◌}
use Rattle.stream.specs.Rules.{Verdict, closed}
use Rattle.stream.specs.Parts.{verdict_on}
use Rattle.connection.specs.Connection.{connection_of}
use Rattle.registry.specs.declared.Line.{Line}
use Rattle.registry.specs.Registry.{application_named}
use Rattle.registry.specs.WellFormed.{well_formed_registry}
use Rattle.registry.proofs.RegistryLaws.{found_by_names}
use Rattle.judgement.specs.Counts.{Counts, no_counts}
use Rattle.judgement.specs.Judgement.{judgement}
use Rattle.counters.specs.Counters.{totals_of}
use Rattle.counters.specs.declared.Counters.{Counters}
use Rattle.service.specs.Call.{Memory, call_outcome, Call}
use Rattle.isolation.specs.History.{fresh_with, CallOn, History, history_of, Exchange, exchanges, requests, responses, is_by, those}
use Rattle.isolation.specs.Isolated.{EachLine, Alike, SameRequests, Isolated, open_response, AllOpenAlone, AllOne, AllLast, Unread}
use Rattle.isolation.proofs.CallLaws.{on_legal}
use Rattle.isolation.proofs.Replay.{only_those, unplaced, those_unplaced, replay, agree}
use Rattle.isolation.proofs.SerialLaws.{counts_in, serial, idle, closed_unread as unread}
use Rattle.isolation.proofs.Projections.{View, same_view, Good, view, projection, open_answer}

-- a history from fresh connections, this registry and these counters
abbrev pub from : (list registry : List ℕ) → Counters → List CallOn → History
from list registry counters calls = history_of list (fresh_with registry counters) calls

abbrev answered : (list registry : List ℕ) → Counters → List CallOn → List Exchange
answered list registry counters calls = exchanges calls (from list registry counters calls).answers

-- ---- the application's own

-- a well-formed registry, or nothing was answered
sound_or_idle : (list name : List ℕ) (line : Line) (registry : List ℕ) (counters : Counters) (calls : List CallOn) → EachLine counters
    → application_named registry name ≡ Some line
    → Good list name line registry (counts_in counters) ⊎ (requests (answered list registry counters calls) ≡ [])
unfolding totals_of
sound_or_idle list name line registry counters calls lines there = go (well_formed_registry registry) refl
  where
    go : (t : Bool) → well_formed_registry registry ≡ t
        → Good list name line registry (counts_in counters) ⊎ (requests (answered list registry counters calls) ≡ [])
    go true w = inl (record { good = w; there = there; lines = lines })
    go false w = inr (ap requests (idle list registry counters calls w))

module _ (list name : List ℕ) (line : Line) (registry registry' : List ℕ) (counters counters' : Counters)
    (lines : EachLine counters) (lines' : EachLine counters') (alike : Alike name line registry registry' counters counters')
    (calls calls' : List CallOn) (same : SameRequests name calls calls' (from list registry counters calls) (from list registry' counters' calls')) where
  unswayed : Isolated name line calls calls' (from list registry counters calls) (from list registry' counters' calls')
  unfolding totals_of
  unswayed =
      let xs : List Exchange = answered list registry counters calls in
      let xs' : List Exchange = answered list registry' counters' calls' in
      let there' : application_named registry' name ≡ Some line = found_by_names registry' registry name (sym alike.roster) ∙ alike.there in
      let a = agree (judgement list) (Good list name line) (is_by name) (view list name line) (projection list name line)
      (requests xs) (requests xs') (sym (only_those (is_by name) xs) ∙ same ∙ only_those (is_by name) xs')
      registry registry' (counts_in counters) (counts_in counters')
      (sound_or_idle list name line registry counters calls lines alike.there)
      (sound_or_idle list name line registry' counters' calls' lines' there')
      (same_view alike.slots alike.uses alike.served) in
      let s = serial list registry counters calls in
      let s' = serial list registry' counters' calls' in
      let own-responses : List Exchange → List (List ℕ) = λ ys. responses (those (is_by name) ys) in
      let views : view list name line (from list registry counters calls).host.registry (counts_in (from list registry counters calls).host.counters)
      ≡ view list name line (from list registry' counters' calls').host.registry (counts_in (from list registry' counters' calls').host.counters) =
      sym (ap₂ (view list name line) s.registry s.counts) ∙ a.views ∙ ap₂ (view list name line) s'.registry s'.counts in
      record {
        same_responses = sym (ap own-responses s.answered ∙ those_unplaced (is_by name) xs) ∙ a.answers ∙ ap own-responses s'.answered ∙ those_unplaced (is_by name) xs';
        same_slots = ap (λ (v : View). v.slots) views;
        same_uses = ap (λ (v : View). v.uses) views;
        same_served = ap (λ (v : View). v.served) views;
      }

-- ---- auth type 0

open_replayed : (list : List ℕ) (qs : List (List ℕ)) (r : List ℕ) (c : Counts) → AllOpenAlone (replay (judgement list) r c qs)
unfolding replay open_response
open_replayed list [] r c = tt
open_replayed list (q ∷ qs) r c = (
  λ legal e. ap (λ (v : Verdict (List ℕ) Counts (List ℕ)). v.response) (on_legal (judgement list) r c q legal) ∙ open_answer list [] r [] c no_counts q e,
  open_replayed list qs (verdict_on (judgement list) r c q).registry (verdict_on (judgement list) r c q).counts,
)

open_placed : (xs : List Exchange) → AllOpenAlone (unplaced xs) → AllOpenAlone xs
open_placed [] a = tt
open_placed (x ∷ xs) (a, rest) = (a, open_placed xs rest)

open_by_itself : (list registry : List ℕ) (counters : Counters) (calls : List CallOn) → AllOpenAlone (answered list registry counters calls)
open_by_itself list registry counters calls =
    let xs : List Exchange = answered list registry counters calls in
    open_placed xs (subst AllOpenAlone (serial list registry counters calls).answered (open_replayed list (requests xs) registry (counts_in counters)))

-- ---- the claim, for any list of keys that we ship

pub record Isolation (list : List ℕ) : Type 0 where
  -- two histories, refused calls among them or not, on any registries and counters
  pub isolated : (name : List ℕ) (line : Line) (registry registry' : List ℕ) (counters counters' : Counters)
      → EachLine counters → EachLine counters' → Alike name line registry registry' counters counters'
      → (calls calls' : List CallOn)
      → SameRequests name calls calls' (from list registry counters calls) (from list registry' counters' calls')
      → Isolated name line calls calls' (from list registry counters calls) (from list registry' counters' calls')
  -- one history: responses under auth type 0 go by their own request alone
  pub open_alone : (registry : List ℕ) (counters : Counters) (calls : List CallOn)
      → AllOpenAlone (exchanges calls (from list registry counters calls).answers)
  -- each response of it answers one request
  pub one_each : (registry : List ℕ) (counters : Counters) (calls : List CallOn)
      → AllOne (exchanges calls (from list registry counters calls).answers)
  -- the exchange that closes a connection is the last on it
  pub closing_last : (registry : List ℕ) (counters : Counters) (calls : List CallOn)
      → AllLast (exchanges calls (from list registry counters calls).answers)
  -- a call on a closed connection reads nothing
  pub closed_unread : (m : Memory) (call : Call) → connection_of m.connection ≡ closed
      → Unread m (call_outcome list m call).answer.given.response.count (call_outcome list m call).memory

pub isolation : (list : List ℕ) → Isolation list
isolation list = record {
  isolated = unswayed list;
  open_alone = open_by_itself list;
  one_each = λ registry counters calls. (serial list registry counters calls).one_each;
  closing_last = λ registry counters calls. (serial list registry counters calls).closing_last;
  closed_unread = unread list;
}
