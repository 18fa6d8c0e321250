-- What a verdict does to the line of one application: nothing, unless the request was served for it; and then what the line's own
-- slots and counts and the request's result say.
use Rattle.std.proofs.Common.{Option, Some, None}
use mathlib.Core.Path.{◌≡◌, refl, sym, ap, ◌∙◌, subst}
use Prim.Native.Nat.{ℕ, ◌<◌}
use mathlib.Core.Bool.{true, false}
use mathlib.Core.List.{List}
use native.Mathlib.Decide.{ℕ_discrete}
use borrow.Author.Tests.{ne_eqb}
use lib.ListN.{length, get_or}
use Rattle.wire.specs.Request.{Request, request_of}
use Rattle.wire.proofs.TestLaws.{either}
use Rattle.stream.specs.Frame.{legal_start, oversized}
use Rattle.stream.specs.Rules.{Verdict, judge}
use Rattle.stream.specs.Parts.{verdict_on}
use Rattle.registry.specs.Registry.{line_count, names_in, slots_of, uses_of, changed}
use Rattle.registry.specs.WellFormed.{well_formed_registry}
use Rattle.registry.specs.declared.Line.{Line}
use Rattle.registry.proofs.WellFormedLaws.{Allowed}
use Rattle.registry.proofs.UseLaws.{others_slots, others_uses, changed_slots, changed_uses, own_slots, own_uses}
use Rattle.judgement.specs.Status.{status_number}
use Rattle.judgement.specs.Operations.{Result}
use Rattle.judgement.specs.Counts.{Counts, count_refused, count}
use Rattle.judgement.specs.Judgement.{application_of, askers_slots, result_of, changed_by, verdict_of, refused_early, judgement}
use Rattle.judgement.specs.declared.Status.{Status}
use Rattle.judgement.proofs.JudgementLaws.{asks, result_allowed, judge_good_lem, judge_names, refused_keeps}
use Rattle.judgement.proofs.CountLaws.{count_lines, served_next, count_own, count_others, count_nobody, count_refused_lem}
use Rattle.judgement.proofs.ResponseLaws.{response_some}

-- ---- every verdict is given early, or on the fields of a request of legal start and within bounds

module _ (list : List ℕ) (P : Verdict (List ℕ) Counts (List ℕ) → Type 0) (r : List ℕ) (c : Counts) (request : List ℕ)
    (early : (provider session opcode : ℕ) (status : Status) → P (refused_early r c provider session opcode status))
    (late : legal_start request ≡ true → oversized request ≡ false → P (verdict_of r c (request_of request) (result_of list r (request_of request)))) where
  pub by_verdict : P (verdict_on (judgement list) r c request)
  unfolding verdict_on judge judgement
  by_verdict = either P (legal_start request) (λ l. either P (oversized request) (λ _. early _ _ _ _) (λ o. late l o)) (λ _. early _ _ _ _)

pub late_verdict : (list r : List ℕ) (c : Counts) (request : List ℕ) → legal_start request ≡ true → oversized request ≡ false
    → verdict_on (judgement list) r c request ≡ verdict_of r c (request_of request) (result_of list r (request_of request))
unfolding verdict_on judge judgement
late_verdict list r c request l o = rw (l, o)

-- ---- what it keeps

module _ (list r : List ℕ) (c : Counts) (request : List ℕ) where
  -- a well-formed registry stays well formed, and keeps the applications' names
  pub verdict_kept : well_formed_registry r ≡ true
      → (well_formed_registry (verdict_on (judgement list) r c request).registry ≡ true)
      × (names_in (verdict_on (judgement list) r c request).registry ≡ names_in r)
  unfolding verdict_on judgement refused_early
  verdict_kept w =
      either (λ (v : Verdict (List ℕ) Counts (List ℕ)). (well_formed_registry v.registry ≡ true) × (names_in v.registry ≡ names_in r)) (legal_start request)
      (λ _. (judge_good_lem list r c request w, judge_names list r c request w)) (λ _. (w, refl))

  -- there is a counter for each line
  pub verdict_lines : length (verdict_on (judgement list) r c request).counts.served ≡ length c.served
  verdict_lines =
      by_verdict list (λ v. length v.counts.served ≡ length c.served) r c request
      (λ p s o status. unfold refused_early count_refused in refl)
      (λ l o. unfold verdict_of in count_lines c _ _)

  -- no response is empty
  pub verdict_some : 0 < length (verdict_on (judgement list) r c request).response
  verdict_some =
      by_verdict list (λ v. 0 < length v.response) r c request
      (λ p s o status. unfold refused_early in response_some p s _ o (status_number status) _)
      (λ l o. unfold verdict_of in response_some _ _ _ _ _ _)

-- ---- the line of an application

-- its slots, its counts of uses and its count of served requests are as they were
pub record Untouched (line : Line) (r : List ℕ) (c : Counts) (r' : List ℕ) (c' : Counts) : Type 0 where
  pub slots : slots_of r' line ≡ slots_of r line
  pub uses : uses_of r' line ≡ uses_of r line
  pub served : get_or c'.served line.0 0 ≡ get_or c.served line.0 0

-- they are what this result makes of them
pub record Moved (line : Line) (x : Result) (r : List ℕ) (c : Counts) (r' : List ℕ) (c' : Counts) : Type 0 where
  pub slots : slots_of r' line ≡ changed_slots (slots_of r line) x.change
  pub uses : uses_of r' line ≡ changed_uses (uses_of r line) x.change
  pub served : get_or c'.served line.0 0 ≡ served_next x.status (get_or c.served line.0 0)

-- the request is judged at its last byte, asked by the application of this line, and served
pub record ServedFor (list r : List ℕ) (line : Line) (request : List ℕ) : Type 0 where
  pub legal : legal_start request ≡ true
  pub small : oversized request ≡ false
  pub asker : application_of r (request_of request) ≡ Some line
  pub status : status_number (result_of list r (request_of request)).status ≡ 0

module _ (list r : List ℕ) (w : well_formed_registry r ≡ true) (c : Counts) (line : Line) (hl : line.0 < line_count) (request : List ℕ) where
  abbrev q : Request
  q = request_of request

  abbrev x : Result
  x = result_of list r q

  abbrev after : Verdict (List ℕ) Counts (List ℕ)
  after = verdict_on (judgement list) r c request

  -- a request that is not served for the application leaves its line alone, whoever asks
  pub untouched : (ServedFor list r line request → ⊥) → Untouched line r c after.registry after.counts
  unfolding changed_by askers_slots judgement verdict_of
  untouched unserved =
      by_verdict list (λ v. Untouched line r c v.registry v.counts) r c request
      (λ p s o status. unfold refused_early count_refused in record { slots = refl; uses = refl; served = refl })
      (λ a b. asked a b (application_of r q) refl (result_allowed list r q))
    where
      asked : legal_start request ≡ true → oversized request ≡ false → (o : Option Line) → application_of r q ≡ o → Allowed (askers_slots r o) x.change
          → Untouched line r c (changed_by r o x) (count c o x.status)
      asked a b None e ok = record { slots = refl; uses = refl; served = ap (λ (l : List ℕ). get_or l line.0 0) (count_nobody c x.status) }
      asked a b (Some l) e ok = elim (ℕ_discrete l.0 line.0) [
        | no other ↦
            let there = (asks r q l e).there in
            record {
              slots = others_slots r w l there line hl other x.change ok;
              uses = others_uses r w l there line hl other x.change ok;
              served = count_others c l line x.status other;
            }
        | yes same ↦
            let mine : application_of r q ≡ Some line = e ∙ ap Some (λ i. record { 0 = same i }) in
            let refused : status_number x.status ≡ 0 → ⊥ = λ z. unserved (record { legal = a; small = b; asker = mine; status = z }) in
            let stays : changed r l x.change ≡ r = ap (λ (o : Option Line). changed_by r o x) (sym e) ∙ refused_keeps list r c request refused in
            record {
              slots = ap (λ (s : List ℕ). slots_of s line) stays;
              uses = ap (λ (s : List ℕ). uses_of s line) stays;
              served = ap (λ (l : List ℕ). get_or l line.0 0) (count_refused_lem c (Some l) x.status (ne_eqb (status_number x.status) 0 refused));
            }
      ]

  -- one that the application asks moves it by its result
  module _ (legal : legal_start request ≡ true) (small : oversized request ≡ false) (asker : application_of r q ≡ Some line) where
    pub asked_registry : after.registry ≡ changed r line x.change
    unfolding verdict_of changed_by
    asked_registry =
        ap (λ (v : Verdict (List ℕ) Counts (List ℕ)). v.registry) (late_verdict list r c request legal small) ∙ ap (λ (o : Option Line). changed_by r o x) asker

    asked_counts : after.counts ≡ count c (Some line) x.status
    unfolding verdict_of
    asked_counts =
        ap (λ (v : Verdict (List ℕ) Counts (List ℕ)). v.counts) (late_verdict list r c request legal small)
        ∙ ap (λ (o : Option Line). count c o x.status) asker

    pub moved : line.0 < length c.served → Moved line x r c after.registry after.counts
    moved h =
        let ok : Allowed (slots_of r line) x.change = unfold askers_slots in subst (λ (o : Option Line). Allowed (askers_slots r o) x.change) asker (result_allowed list r q) in
        record {
          slots = ap (λ (s : List ℕ). slots_of s line) asked_registry ∙ own_slots r w line hl x.change ok;
          uses = ap (λ (s : List ℕ). uses_of s line) asked_registry ∙ own_uses r w line hl x.change ok;
          served = ap (λ (k : Counts). get_or k.served line.0 0) asked_counts ∙ count_own c line x.status h;
        }
