-- Every answered request is counted once: served for one application, served with auth type 0, or refused with one status.
use Rattle.std.proofs.Common.{Option, Some, None}
use mathlib.Core.Path.{◌≡◌, refl, ◌∙◌}
use Prim.Native.Nat.{ℕ, zero, suc, ◌+◌, ◌<◌}
use mathlib.Core.List.{List, [], ◌∷◌}
use native.Mathlib.Omega.{arith}
use lib.ListN.{length, replicate, get_or, length-set}
use lib.Dec.{ltb, eqb, lit<}
use borrow.Author.Tests.{eqb-false}
use Rattle.wire.specs.Request.{content_length, request_of}
use Rattle.wire.proofs.TestLaws.{either}
use Rattle.stream.specs.Frame.{legal_start, oversized, content_most}
use Rattle.stream.specs.Rules.{Verdict, judge, rules}
use Rattle.stream.specs.Parts.{parts_of, verdict_on}
use Rattle.stream.proofs.PartsLaws.{CountsEach, rules_counted}
use Rattle.registry.specs.Registry.{line_count}
use Rattle.registry.specs.declared.Line.{Line}
use Rattle.registry.proofs.RegistryLaws.{Used}
use Rattle.judgement.specs.Status.{status_number, refused_statuses, refused_count}
use Rattle.judgement.specs.Counts.{Counts, no_counts, sum, requests_in, increment, index_of, count_refused, count_served, count}
use Rattle.judgement.specs.Judgement.{refused_early, oversized_status, application_of, result_of, verdict_of, judgement}
use Rattle.judgement.specs.declared.Status.{Status}
use Rattle.judgement.proofs.JudgementLaws.{asks}
use Rattle.judgement.proofs.StatusLaws.{index_below}

pub sum_increment : (l : List ℕ) (i : ℕ) → i < length l → sum (increment l i) ≡ suc (sum l)
unfolding sum increment
sum_increment [] i h = absurd (omega arith)
sum_increment (x ∷ l) zero h = omega arith
sum_increment (x ∷ l) (suc i) h = omega (arith, sum_increment l i (omega arith))

length_increment : (l : List ℕ) (i : ℕ) → length (increment l i) ≡ length l
unfolding increment
length_increment l i = length-set l i (suc (get_or l i 0))

pub sum_zeros : (n : ℕ) → sum (replicate n 0) ≡ 0
unfolding sum
sum_zeros zero = refl
sum_zeros (suc n) = omega (arith, sum_zeros n)

large_refused : (header : List ℕ) → 0 < status_number (oversized_status header)
unfolding oversized_status status_number
large_refused header = either (λ (s : Status). 0 < status_number s) (ltb content_most (content_length header)) (λ _. lit< tt) (λ _. lit< tt)

-- `servedSum` adds up what is served for applications, or for some of them: for all that there are on a registry that fits
module _ (servedSum : List ℕ → ℕ) (Fits : (registry : List ℕ) → Type 0) where
  abbrev pub counted_by : Counts → ℕ
  counted_by c = servedSum c.served + c.unauthenticated + sum c.refused

  abbrev pub Shape : Counts → Type 0
  Shape c = (length c.served ≡ line_count) × (length c.refused ≡ refused_count)

  abbrev pub Room : (registry : List ℕ) → Counts → Type 0
  Room r c = Fits r × Shape c

  pub record Adds (list : List ℕ) : Type 0 where
    pub nothing : servedSum (replicate line_count 0) ≡ 0
    pub one : (r : List ℕ) (line : Line) (l : List ℕ) → Fits r → Used r line → length l ≡ line_count → servedSum (increment l line.0) ≡ suc (servedSum l)
    pub kept : (r : List ℕ) (c : Counts) (request : List ℕ) → Fits r → Fits (verdict_on (judgement list) r c request).registry

  -- one request more, and the counts keep their shape
  abbrev OneMore : Counts → Counts → Type 0
  OneMore c after = (counted_by after ≡ suc (counted_by c)) × Shape after

  module _ (list : List ℕ) (adds : Adds list) where
    one_refused : (c : Counts) (status : Status) → 0 < status_number status → Shape c → OneMore c (count_refused c status)
    unfolding count_refused
    one_refused c status h (served, refused) =
        let more = sum_increment c.refused (index_of status refused_statuses) (omega (arith, index_below status h)) in
        (omega arith, (served, length_increment c.refused (index_of status refused_statuses) ∙ refused))

    module _ (r : List ℕ) (c : Counts) (room : Room r c) where
      one_served : (line : Option Line) → ((l : Line) → line ≡ Some l → Used r l) → OneMore c (count_served c line)
      unfolding count_served
      one_served None used = (omega arith, room.1)
      one_served (Some line) used =
          let more = adds.one r line c.served room.0 (used line refl) room.1.0 in
          (omega arith, (length_increment c.served line.0 ∙ room.1.0, room.1.1))

      one_counted : (line : Option Line) (status : Status) → ((l : Line) → line ≡ Some l → Used r l) → OneMore c (count c line status)
      unfolding count
      one_counted line status used =
          either (OneMore c) (eqb (status_number status) 0)
          (λ _. one_served line used)
          (λ e. one_refused c status (positive (status_number status) (eqb-false _ _ e)) room.1)
        where
          positive : (n : ℕ) → (n ≡ 0 → ⊥) → 0 < n
          positive zero h = absurd (h refl)
          positive (suc n) h = omega arith

      one_judged : (request : List ℕ) → OneMore c (judge (judgement list) r c request).counts
      unfolding judge judgement refused_early verdict_of
      one_judged request =
          let q = request_of request in
          either (λ (v : Verdict (List ℕ) Counts (List ℕ)). OneMore c v.counts) (oversized request)
          (λ _. one_refused c (oversized_status _) (large_refused _) room.1)
          (λ _. one_counted (application_of r q) (result_of list r q).status (asks r q))

      one_verdict : (request : List ℕ) → OneMore c (verdict_on (judgement list) r c request).counts
      unfolding verdict_on judgement refused_early status_number
      one_verdict request =
          either (λ (v : Verdict (List ℕ) Counts (List ℕ)). OneMore c v.counts) (legal_start request)
          (λ _. one_judged request)
          (λ _. one_refused c _ (omega arith) room.1)

    pub each_counted : CountsEach (judgement list) counted_by Room
    unfolding judgement no_counts
    each_counted = record {
      nothing = omega (arith, adds.nothing, sum_zeros refused_count);
      one = λ r c request room. (one_verdict r c room request).0;
      room = λ r c request room. (adds.kept r c request room.0, (one_verdict r c room request).1);
    }

-- ---- all requests, whatever the registry

abbrev Any : (registry : List ℕ) → Type 0
Any registry = Unit {0}

adds_all : (list : List ℕ) → Adds sum Any list
adds_all list = record {
  nothing = sum_zeros line_count;
  one = λ r line l fits used long. sum_increment l line.0 (omega (arith, used.there, long));
  kept = λ r c request fits. tt;
}

-- the rules count as many requests as they answer
pub rules_requests : (list registry stream : List ℕ) → requests_in (rules (judgement list) registry stream).state.totals.counts ≡ length (parts_of stream).answered
unfolding requests_in judgement no_counts
rules_requests list registry stream =
    rules_counted (judgement list) (counted_by sum Any) (Room sum Any) (each_counted sum Any list (adds_all list)) registry (tt, (refl, refl)) stream
