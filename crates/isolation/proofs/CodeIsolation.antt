-- ONE APPLICATION CAN'T SWAY ANOTHER, OF THE CODE: two histories of calls of `service::call::call` on many connections, lent one
-- list of keys that we ship, each step being the contract of that function (`CallContract`, which its `ensures` cites).
use Prim.Native.Nat.{ℕ}
use mathlib.Core.Path.{◌≡◌, refl, sym, ap, subst, ◌∙◌}
use mathlib.Core.List.{List, [], ◌∷◌}
use Rattle.service.specs.Call.{CallOutcome}
use Rattle.service.specs.Contract.{Ran, answer_in}
use Rattle.service.specs.Claims.{answers_in}
use Rattle.isolation.specs.History.{Host, left, fresh_with, CallOn, History, history_of, exchanges}
use Rattle.isolation.specs.Isolated.{SameRequests, Isolated, AllOpenAlone, AllOne, AllLast, Unread}
use Rattle.isolation.specs.Claims.{Runs, left_after, ran_from, CodeIsolation}
use Rattle.isolation.proofs.Isolation.{from, isolation}

-- ---- the code's calls are the definition's

ran : (list : List ℕ) (calls : List CallOn) (h : Host) (runs : List Ran) → Runs list h calls runs
    → history_of list h calls ≡ record { answers = answers_in runs; host = left_after h calls runs }
unfolding history_of
ran list [] h [] p = refl
ran list [] h (r ∷ rest) p = absurd p
ran list (c ∷ calls) h [] p = absurd p
ran list (c ∷ calls) h (r ∷ rest) (e, p) =
    ap (λ (o : CallOutcome). (let after : History = history_of list (left h c.connection o.memory) calls in
    let x : History = record { answers = o.answer ∷ after.answers; host = after.host } in x)) (sym e)
    ∙ ap (λ (o : History). (let x : History = record { answers = answer_in r ∷ o.answers; host = o.host } in x)) (ran list calls (left h c.connection r.memory) rest p)

-- ---- the claim

pub code_isolation : CodeIsolation
code_isolation = record {
  isolated = λ list name line registry registry' counters counters' lines lines' alike calls calls' runs runs' p p'.
      let e = ran list calls (fresh_with registry counters) runs p in
      let e' = ran list calls' (fresh_with registry' counters') runs' p' in
      let Claim : History → History → Type 0 = λ o o'. SameRequests name calls calls' o o' → Isolated name line calls calls' o o' in
      subst (λ (o : History). Claim o (ran_from registry' counters' calls' runs')) e
      (subst (Claim (from list registry counters calls)) e' ((isolation list).isolated name line registry registry' counters counters' lines lines' alike calls calls'));
  open_alone = λ list registry counters calls runs p.
      subst (λ (o : History). AllOpenAlone (exchanges calls o.answers)) (ran list calls (fresh_with registry counters) runs p) ((isolation list).open_alone registry counters calls);
  one_each = λ list registry counters calls runs p.
      subst (λ (o : History). AllOne (exchanges calls o.answers)) (ran list calls (fresh_with registry counters) runs p) ((isolation list).one_each registry counters calls);
  closing_last = λ list registry counters calls runs p.
      subst (λ (o : History). AllLast (exchanges calls o.answers)) (ran list calls (fresh_with registry counters) runs p) ((isolation list).closing_last registry counters calls);
  closed_unread = λ list m call r e n.
      subst (λ (o : CallOutcome). Unread m o.answer.given.response.count o.memory) (sym e) ((isolation list).closed_unread m call n);
}
