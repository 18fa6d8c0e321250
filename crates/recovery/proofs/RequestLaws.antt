-- ONE REQUEST: replaying its record on the registry with use counts 0 gives the registry that the rules leave, with use counts 0.
use Rattle.std.proofs.Common.{Option, Some, None}
use mathlib.Core.Path.{◌≡◌, refl, sym, ap, ◌∙◌}
use mathlib.Core.Bool.{Bool, true, false}
use mathlib.Core.List.{List, [], ◌∷◌}
use Prim.Native.Nat.{ℕ}
use borrow.Author.Tests.{eqb-false}
use lib.Dec.{eqb}
use Rattle.wire.specs.Request.{Request, request_of}
use Rattle.wire.proofs.TestLaws.{either}
use Rattle.registry.specs.WellFormed.{well_formed_registry}
use Rattle.registry.specs.declared.Line.{Line}
use Rattle.registry.proofs.WellFormedLaws.{Allowed}
use Rattle.stream.specs.Frame.{legal_start, oversized}
use Rattle.stream.specs.Rules.{Verdict, judge}
use Rattle.stream.specs.Handed.{Handed}
use Rattle.stream.specs.Parts.{verdict_on}
use Rattle.stream.proofs.PartsLaws.{registry_from}
use Rattle.judgement.specs.Status.{status_number}
use Rattle.judgement.specs.Operations.{Result}
use Rattle.judgement.specs.Counts.{Counts}
use Rattle.judgement.specs.Judgement.{application_of, askers_slots, result_of, changed_by, refused_early, verdict_of, judgement}
use Rattle.judgement.proofs.JudgementLaws.{asks, result_allowed, refused_keeps}
use Rattle.judgement.proofs.VerdictLaws.{verdict_kept}
use Rattle.journal.specs.Record.{Act, record_of}
use Rattle.journal.specs.Replay.{replay}
use Rattle.journal.specs.Journalling.{record_for, served_act, recorded_for, journalling}
use Rattle.journal.proofs.ReplayLaws.{replay_any, changed_for, served_replayed, refused_unrecorded}
use Rattle.recovery.specs.Unused.{unused}
use Rattle.recovery.proofs.UnusedLaws.{alike, unused_change}

-- these bytes, no record or one, lead from a registry to another
pub data Tells (g bytes g' : List ℕ) : Type 0 where
  silent : bytes ≡ [] → g ≡ g' → Tells g bytes g'
  tells : (act : Act) → bytes ≡ record_of act → replay g act ≡ Some g' → Tells g bytes g'

any_tells : (g g' : List ℕ) (o : Option Act) → replay_any g o ≡ Some g' → Tells g (record_for o) g'
unfolding replay_any record_for
any_tells g g' None e = silent refl cc
any_tells g g' (Some act) e = tells act refl e

module _ (list r : List ℕ) (w : well_formed_registry r ≡ true) (c : Counts) (request : List ℕ) where
  abbrev q : Request
  q = request_of request

  abbrev x : Result
  x = result_of list r q

  changed_for_lem : changed_for (unused r) (application_of r q) x.change ≡ unused (changed_by r (application_of r q) x)
  unfolding changed_for changed_by askers_slots
  changed_for_lem = go (application_of r q) refl (result_allowed list r q)
    where
      go : (o : Option Line) → application_of r q ≡ o → Allowed (askers_slots r o) x.change → changed_for (unused r) o x.change ≡ unused (changed_by r o x)
      go None e ok = refl
      go (Some line) e ok = sym (unused_change r w line (asks r q line e).there x.change ok)

  late_tells : Tells (unused r) (record_for (served_act list r q)) (unused (changed_by r (application_of r q) x))
  late_tells = go (eqb (status_number x.status) 0) refl
    where
      go : (t : Bool) → eqb (status_number x.status) 0 ≡ t → Tells (unused r) (record_for (served_act list r q)) (unused (changed_by r (application_of r q) x))
      go true e = any_tells (unused r) _ (served_act list r q) (served_replayed list (unused r) r (alike r w) q e ∙ ap Some changed_for_lem)
      go false e =
          let stays : changed_by r (application_of r q) x ≡ r = (unfold judgement verdict_of in refused_keeps list r c request (eqb-false _ _ e)) in
          silent (ap record_for (refused_unrecorded list (unused r) r (alike r w) q e) ∙ (unfold record_for in refl)) (ap unused (sym stays))

  abbrev reply : Verdict (List ℕ) Counts Handed
  reply = verdict_on (journalling list) r c request

  pub reply_tells : Tells (unused r) reply.response.recorded (unused reply.registry)
  unfolding verdict_on judge journalling recorded_for judgement refused_early verdict_of
  reply_tells =
      either P (legal_start request)
      (λ _. either P (oversized request) (λ _. silent refl refl) (λ _. late_tells))
      (λ _. silent refl refl)
    where
      P : Verdict (List ℕ) Counts Handed → Type 0
      P v = Tells (unused r) v.response.recorded (unused v.registry)

-- ---- the judgement with records is the judgement

abbrev pub without_record : Verdict (List ℕ) Counts Handed → Verdict (List ℕ) Counts (List ℕ)
without_record v = record { response = v.response.response; registry = v.registry; counts = v.counts }

pub same_verdict : (list r : List ℕ) (c : Counts) (request : List ℕ)
    → verdict_on (judgement list) r c request ≡ without_record (verdict_on (journalling list) r c request)
unfolding verdict_on judge journalling
same_verdict list r c request = go (legal_start request) refl (oversized request) refl
  where
    go : (a : Bool) → legal_start request ≡ a → (b : Bool) → oversized request ≡ b
        → verdict_on (judgement list) r c request ≡ without_record (verdict_on (journalling list) r c request)
    go false p b q = rw (p, verdict_on)
    go true p true q = rw (p, verdict_on, q, judge)
    go true p false q = rw (p, verdict_on, q, judge)

pub registry_same : (list : List ℕ) (requests : List (List ℕ)) (r : List ℕ) (c : Counts)
    → registry_from (judgement list) r c requests ≡ registry_from (journalling list) r c requests
unfolding registry_from
registry_same list [] r c = refl
registry_same list (request ∷ requests) r c =
    ap (λ (v : Verdict (List ℕ) Counts (List ℕ)). registry_from (judgement list) v.registry v.counts requests) (same_verdict list r c request)
    ∙ registry_same list requests (verdict_on (journalling list) r c request).registry (verdict_on (journalling list) r c request).counts

pub reply_good : (list r : List ℕ) (c : Counts) (request : List ℕ) → well_formed_registry r ≡ true
    → well_formed_registry (verdict_on (journalling list) r c request).registry ≡ true
reply_good list r c request w =
    ap (λ (v : Verdict (List ℕ) Counts (List ℕ)). well_formed_registry v.registry) (sym (same_verdict list r c request)) ∙ (verdict_kept list r c request w).0
