-- What the judgement keeps: a well-formed registry stays well formed and keeps the applications' names, and a status other than
-- 0 leaves it alone.
use Rattle.std.proofs.Common.{Option, Some, None}
use mathlib.Core.Path.{◌≡◌, refl, sym, ap}
use mathlib.Core.Bool.{Bool, true, false}
use mathlib.Core.List.{List}
use Prim.Native.Nat.{ℕ}
use lib.Dec.{eqb}
use Rattle.wire.specs.Choice.{when◌then◌else◌}
use Rattle.wire.specs.Request.{Request, request_of}
use Rattle.wire.proofs.TestLaws.{some≢none, either}
use Rattle.stream.specs.Frame.{oversized}
use Rattle.stream.specs.Rules.{Verdict, judge}
use Rattle.keys.specs.Key.{Key, import_bits}
use Rattle.registry.specs.Slots.{Entry}
use Rattle.registry.specs.Registry.{names_in, application_named, unchanged, changed}
use Rattle.registry.specs.WellFormed.{well_formed_registry}
use Rattle.registry.specs.declared.Line.{Line}
use Rattle.keys.proofs.KeyLaws.{import_legal}
use Rattle.registry.proofs.SlotLaws.{Legal}
use Rattle.registry.proofs.RegistryLaws.{Used, named_used}
use Rattle.registry.proofs.WellFormedLaws.{Allowed, stays, fills, clears, uses, change_kept}
use Rattle.shipped.specs.Shipped.{ListedKey}
use Rattle.lookup.specs.Lookup.{Source, own, listed, key_named}
use Rattle.messages.specs.Operations.{Output}
use Rattle.judgement.specs.Status.{status_number}
use Rattle.judgement.specs.Operations.{Result, success, refuse, refuse_at, counted}
use Rattle.judgement.specs.Counts.{Counts}
use Rattle.judgement.specs.Judgement.{application_of, askers_slots, result_of, changed_by, verdict_of, refused_early, judgement}
use Rattle.judgement.proofs.SourceLaws.{own_there, own_held}
use Rattle.judgement.proofs.ImportLaws.{Taken, bounded_legal}
use Rattle.judgement.proofs.Results.{served_status, by_result}

-- ---- the application that asks

pub asks : (r : List ℕ) (q : Request) (line : Line) → application_of r q ≡ Some line → Used r line
unfolding application_of
asks r q line e = go (eqb q.auth_type 0) e
  where
    go : (t : Bool) → (let a : Option Line = when t then None else application_named r q.auth in a) ≡ Some line → Used r line
    go true w = absurd (some≢none line (sym w))
    go false w = named_used r q.auth line w

-- ---- the registry after a request

pub taken_legal : (key : Key) → Taken import_bits key → Legal key
taken_legal key t = bounded_legal key t.bounds (import_legal _ t.bits)

use_allowed : (slots : List Entry) (keys : List ListedKey) (name : List ℕ) (source : Source) → key_named name slots keys ≡ Some source
    → (output : Output) → Allowed slots (counted source (success output unchanged)).change
unfolding counted success status_number
use_allowed slots keys name (own slot key) e output = uses name key (own_there name slots keys slot key e) (own_held name slots keys slot key e)
use_allowed slots keys name (listed key) e output = stays

pub result_allowed : (list r : List ℕ) (q : Request) → Allowed (askers_slots r (application_of r q)) (result_of list r q).change
unfolding refuse refuse_at success
result_allowed list r q = by_result list r q (λ x. Allowed (askers_slots r (application_of r q)) x.change) (record {
  refused = λ status. stays;
  broken = λ at. stays;
  served = λ output h. stays;
  imported = λ slot key t n e. fills (taken_legal key t) n e;
  destroyed = λ slot name e. clears name e;
  exported = λ source name e. use_allowed _ _ name source e _;
  verified = λ source name e. use_allowed _ _ name source e _;
})

-- of the registry r, and what it becomes
abbrev Kept : List ℕ → List ℕ → Type 0
Kept r s = (well_formed_registry s ≡ true) × (names_in s ≡ names_in r)

request_kept : (list r : List ℕ) (q : Request) → well_formed_registry r ≡ true → Kept r (changed_by r (application_of r q) (result_of list r q))
unfolding changed_by askers_slots
request_kept list r q w = go (application_of r q) refl (result_allowed list r q)
  where
    go : (o : Option Line) → application_of r q ≡ o → Allowed (askers_slots r o) (result_of list r q).change
        → Kept r (changed_by r o (result_of list r q))
    go None e ok = (w, refl)
    go (Some line) e ok = change_kept r w line (asks r q line e) (result_of list r q).change ok

module _ (list r : List ℕ) (c : Counts) (request : List ℕ) (w : well_formed_registry r ≡ true) where
  judge_kept : Kept r (judge (judgement list) r c request).registry
  unfolding judge judgement refused_early verdict_of
  judge_kept = either (λ (v : Verdict (List ℕ) Counts (List ℕ)). Kept r v.registry) (oversized request) (λ _. (w, refl)) (λ _. request_kept list r (request_of request) w)

  pub judge_good_lem : well_formed_registry (judge (judgement list) r c request).registry ≡ true
  judge_good_lem = judge_kept.0

  pub judge_names : names_in (judge (judgement list) r c request).registry ≡ names_in r
  judge_names = judge_kept.1

-- ---- any status but 0 leaves the registry alone

KeptUnlessServed : Result → Type 0
KeptUnlessServed x = (status_number x.status ≡ 0 → ⊥) → x.change ≡ unchanged

result_kept : (list r : List ℕ) (q : Request) → KeptUnlessServed (result_of list r q)
unfolding KeptUnlessServed refuse refuse_at success status_number
result_kept list r q = by_result list r q KeptUnlessServed (record {
  refused = λ status h. refl;
  broken = λ at h. refl;
  served = λ output h n. refl;
  imported = λ slot key v n e h. absurd (h refl);
  destroyed = λ slot name e h. absurd (h refl);
  exported = λ source name e h. absurd (h (ap status_number (served_status source _)));
  verified = λ source name e h. absurd (h (ap status_number (served_status source _)));
})

-- a request that is judged at its last byte
pub refused_keeps : (list r : List ℕ) (c : Counts) (request : List ℕ)
    → (status_number (result_of list r (request_of request)).status ≡ 0 → ⊥) → ((judgement list).on_request r c request).registry ≡ r
unfolding judgement verdict_of changed_by changed KeptUnlessServed
refused_keeps list r c request h = go (application_of r (request_of request))
  where
    x : Result
    x = result_of list r (request_of request)

    go : (o : Option Line) → changed_by r o x ≡ r
    go None = refl
    go (Some line) = ap (changed r line) (result_kept list r (request_of request) h)

-- and one that is answered before
pub early_keeps : (list r : List ℕ) (c : Counts) (header : List ℕ)
    → (((judgement list).on_bad_start r c).registry ≡ r) × (((judgement list).on_oversized r c header).registry ≡ r)
unfolding judgement refused_early
early_keeps list r c header = (refl, refl)
