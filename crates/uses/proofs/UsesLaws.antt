-- FINANCE'S LINES ADD UP: while an application destroys no key and no count is at its most, its counts together rise by one with
-- each request that uses one of its own keys, and with no other (document 02, "Use per key").
use mathlib.Core.Path.{◌≡◌, refl, sym, ap, ap₂, ◌∙◌, subst}
use mathlib.Core.Bool.{Bool, true, false, ◌&&◌}
use mathlib.Core.List.{List, [], ◌∷◌}
use Prim.Native.Nat.{ℕ, zero, suc, ◌+◌, ◌<◌}
use native.Mathlib.Omega.{arith}
use lib.ListN.{get_or, set}
use lib.Dec.{ltb}
use Rattle.wire.specs.Choice.{when◌then◌else◌}
use Rattle.wire.specs.Lists.{all}
use Rattle.wire.proofs.TestLaws.{and_left, and_right}
use Rattle.wire.proofs.ListLaws.{all_at}
use Rattle.registry.specs.Slots.{uses_most, used}
use Rattle.registry.specs.Registry.{line_count, uses_of}
use Rattle.registry.specs.WellFormed.{well_formed_registry}
use Rattle.registry.specs.declared.Line.{Line}
use Rattle.reading.specs.Calls.{taken_stream}
use Rattle.stream.specs.Frame.{legal_start, oversized}
use Rattle.stream.specs.Rules.{judge}
use Rattle.stream.specs.Parts.{parts_of, verdict_on}
use Rattle.stream.proofs.PartsLaws.{registry_from, rules_registry}
use Rattle.judgement.specs.Counts.{Counts, no_counts, sum, increment}
use Rattle.judgement.specs.Judgement.{refused_early, verdict_of, judgement}
use Rattle.judgement.proofs.VerdictLaws.{verdict_kept}
use Rattle.counters.proofs.RequestLaws.{sum_increment}
use Rattle.service.specs.Call.{Memory, memory_of}
use Rattle.service.specs.Claims.{answers_in}
use Rattle.service.proofs.CodeDemand3.{code_demand3}
use Rattle.uses.specs.Uses.{is_use, destroys_key, registry_after, count_if}
use Rattle.uses.specs.Claims.{UsesAddUp, UsesOfCalls}
use Rattle.uses.proofs.RequestLaws.{Step, stays, adds, request_step}

-- ---- counts that are not at their most

abbrev not_full : List ℕ → Bool
not_full counts = all (λ n. ltb n uses_most) counts

-- one use more leaves a count no smaller
used_more : (n : ℕ) → ltb (used n) uses_most ≡ true → ltb n uses_most ≡ true
unfolding used
used_more n = go (ltb n uses_most) refl
  where
    go : (t : Bool) → ltb n uses_most ≡ t → ltb (when t then n + 1 else n) uses_most ≡ true → t ≡ true
    go true q e = refl
    go false q e = sym q ∙ e

set_back : (counts : List ℕ) (k : ℕ) → not_full (set counts k (used (get_or counts k 0))) ≡ true → not_full counts ≡ true
set_back [] k e = refl
set_back (n ∷ counts) zero e = ap₂ ◌&&◌ (used_more n (and_left (ltb (used n) uses_most) _ e)) (and_right (ltb (used n) uses_most) _ e)
set_back (n ∷ counts) (suc k) e = ap₂ ◌&&◌ (and_left (ltb n uses_most) _ e) (set_back counts k (and_right (ltb n uses_most) _ e))

step_back : {before after : List ℕ} {t : Bool} → Step before after t → not_full after ≡ true → not_full before ≡ true
step_back (stays same none) e = subst (λ (l : List ℕ). not_full l ≡ true) same e
step_back {before} (adds k h more one-use) e = set_back before k (subst (λ (l : List ℕ). not_full l ≡ true) more e)

step_sum : {before after : List ℕ} {t : Bool} → Step before after t → not_full before ≡ true → sum after ≡ sum before + (when t then 1 else 0)
unfolding used increment
step_sum {before} (stays same none) e = rw none (omega (arith, ap sum same))
step_sum {before} (adds k h more one-use) e =
    let below : ltb (get_or before k 0) uses_most ≡ true = all_at (λ n. ltb n uses_most) 0 before k h e in
    let one : used (get_or before k 0) ≡ suc (get_or before k 0) = rw below (omega arith) in
    rw one-use (omega (arith, ap sum more, ap (λ (n : ℕ). sum (set before k n)) one, sum_increment before k h))

-- ---- request by request

module _ (list : List ℕ) where
  -- the registry after a request goes by the registry before it alone
  after_any : (r : List ℕ) (c : Counts) (request : List ℕ) → (verdict_on (judgement list) r c request).registry ≡ registry_after list r request
  unfolding registry_after verdict_on judge judgement refused_early verdict_of
  after_any r c request = go (legal_start request) refl (oversized request) refl
    where
      go : (a : Bool) → legal_start request ≡ a → (b : Bool) → oversized request ≡ b
          → (verdict_on (judgement list) r c request).registry ≡ registry_after list r request
      go false p b q = rw (registry_after, verdict_on, p)
      go true p true q = rw (registry_after, verdict_on, p, judge, q)
      go true p false q = rw (registry_after, verdict_on, p, judge, q)

  after_good : (r : List ℕ) → well_formed_registry r ≡ true → (request : List ℕ) → well_formed_registry (registry_after list r request) ≡ true
  unfolding registry_after
  after_good r w request = (verdict_kept list r no_counts request w).0

  module _ (line : Line) (hl : line.0 < line_count) where
    abbrev left : (r : List ℕ) → Counts → (requests : List (List ℕ)) → List ℕ
    left r c requests = uses_of (registry_from (judgement list) r c requests) line

    Added : (r : List ℕ) → Counts → (requests : List (List ℕ)) → Type 0
    Added r c requests = (not_full (uses_of r line) ≡ true) × (sum (left r c requests) ≡ sum (uses_of r line) + count_if (is_use list line) list r requests)

    each : (requests : List (List ℕ)) (r : List ℕ) (c : Counts) → well_formed_registry r ≡ true
        → count_if (destroys_key list line) list r requests ≡ 0 → not_full (left r c requests) ≡ true → Added r c requests
    unfolding registry_from count_if Added
    each [] r c w kept e = (e, omega arith)
    each (request ∷ requests) r c w kept e =
        let v = verdict_on (judgement list) r c request in
        let same : v.registry ≡ registry_after list r request = after_any r c request in
        let (not-here, rest) = none_there (destroys_key list line r request) _ kept in
        let (full, total) = each requests (registry_after list r request) v.counts (after_good r w request) rest
        (subst (λ (s : List ℕ). not_full (left s v.counts requests) ≡ true) same e) in
        let step = request_step list r w line hl request not-here in
        let before = step_back step full in
        (before, omega (arith, ap (λ (s : List ℕ). sum (left s v.counts requests)) same, total, step_sum step before))
      where
        none_there : (t : Bool) (n : ℕ) → (when t then 1 else 0) + n ≡ 0 → (t ≡ false) × (n ≡ 0)
        none_there false n e = (refl, omega arith)
        none_there true n e = absurd (omega arith)

-- ---- the claims

-- counts fall by Destroy alone, so that none is at its most before where none is afterwards
pub uses_add_up : UsesAddUp
unfolding Added
uses_add_up list registry w line hl stream kept e =
    let same = rules_registry (judgement list) registry stream in
    ap (λ (r : List ℕ). sum (uses_of r line)) same
    ∙ (each list line hl (parts_of stream).answered registry _ w kept (subst (λ (r : List ℕ). not_full (uses_of r line) ≡ true) same e)).1

pub uses_of_calls : UsesOfCalls
unfolding memory_of
uses_of_calls list registry w line hl calls runs p kept e =
    let same = ap (λ (m : Memory). uses_of m.registry line) ((code_demand3 list registry).follows calls runs p).memory in
    ap sum same
    ∙ uses_add_up list registry w line hl (taken_stream calls (answers_in runs)) kept (subst (λ (l : List ℕ). not_full l ≡ true) same e)
