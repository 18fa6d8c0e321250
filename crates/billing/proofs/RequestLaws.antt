-- The requests on the bill of a good roster: served for the roster's lines alone, so that none is missing.
use mathlib.Core.Path.{◌≡◌, refl, sym, ◌∙◌, subst}
use mathlib.Core.Bool.{true, true≢false}
use mathlib.Core.List.{List, [], ◌∷◌, ◌++◌}
use Prim.Native.Nat.{ℕ, zero, suc, ◌-◌, ◌<◌}
use native.Mathlib.Omega.{arith}
use lib.ListN.{length, take, get_or, replicate}
use Rattle.wire.proofs.TestLaws.{either}
use Rattle.stream.specs.Frame.{legal_start}
use Rattle.stream.specs.Rules.{Verdict, rules}
use Rattle.stream.specs.Parts.{parts_of, verdict_on}
use Rattle.stream.proofs.PartsLaws.{rules_counted}
use Rattle.registry.specs.Registry.{line_count, names_in, registry_of}
use Rattle.registry.specs.WellFormed.{is_used, well_formed_registry}
use Rattle.registry.proofs.KeylessLaws.{LegalNames, registry_names, registry_good}
use Rattle.judgement.specs.Counts.{Counts, no_counts, sum, increment}
use Rattle.judgement.specs.Judgement.{refused_early, judgement}
use Rattle.judgement.proofs.JudgementLaws.{judge_good_lem, judge_names}
use Rattle.counters.proofs.RequestLaws.{Adds, counted_by, Room, each_counted}
use Rattle.billing.specs.Bill.{requests_on}

-- a line that is used stands among the first, which have names
used_below : (names : List (List ℕ)) (k i : ℕ) → is_used (get_or (names ++ replicate k []) i []) ≡ true → i < length names
used_below [] zero i e = absurd (true≢false (sym e))
used_below [] (suc k) zero e = absurd (true≢false (sym e))
used_below [] (suc k) (suc i) e = absurd (omega (arith, used_below [] k i e))
used_below (name ∷ names) k zero e = omega arith
used_below (name ∷ names) k (suc i) e = omega (arith, used_below names k i e)

sum_front : (k : ℕ) (l : List ℕ) (i : ℕ) → i < k → i < length l → sum (take k (increment l i)) ≡ suc (sum (take k l))
unfolding sum increment
sum_front zero l i h m = absurd (omega arith)
sum_front (suc k) [] i h m = absurd (omega arith)
sum_front (suc k) (x ∷ l) zero h m = omega arith
sum_front (suc k) (x ∷ l) (suc i) h m = omega (arith, sum_front k l i (omega arith) (omega arith))

zeros_front : (k n : ℕ) → sum (take k (replicate n 0)) ≡ 0
unfolding sum
zeros_front zero n = refl
zeros_front (suc k) zero = refl
zeros_front (suc k) (suc n) = omega (arith, zeros_front k n)

module _ (list : List ℕ) (names : List (List ℕ)) (legal : LegalNames names) where
  -- a well-formed registry with the roster's names
  abbrev Named : (registry : List ℕ) → Type 0
  Named registry = (well_formed_registry registry ≡ true) × (names_in registry ≡ names ++ replicate (line_count - length names) [])

  abbrev served_on : List ℕ → ℕ
  served_on l = sum (take (length names) l)

  named_kept : (r : List ℕ) (c : Counts) (request : List ℕ) → Named r → Named (verdict_on (judgement list) r c request).registry
  unfolding verdict_on judgement refused_early
  named_kept r c request (good, same) =
      either (λ (v : Verdict (List ℕ) Counts (List ℕ)). Named v.registry) (legal_start request)
      (λ _. (judge_good_lem list r c request good, judge_names list r c request good ∙ same))
      (λ _. (good, same))

  adds_named : Adds served_on Named list
  adds_named = record {
    nothing = zeros_front (length names) line_count;
    one = λ r line l (good, same) used long.
        sum_front (length names) l line.0
        (used_below names (line_count - length names) line.0 (subst (λ (x : List (List ℕ)). is_used (get_or x line.0 []) ≡ true) same used.used))
        (omega (arith, used.there, long));
    kept = named_kept;
  }

  -- every answered request stands on the bill once
  pub bill_requests : (stream : List ℕ) → requests_on names (rules (judgement list) (registry_of names) stream).state ≡ length (parts_of stream).answered
  unfolding requests_on judgement no_counts
  bill_requests stream =
      rules_counted (judgement list) (counted_by served_on Named) (Room served_on Named) (each_counted served_on Named list adds_named)
      (registry_of names) ((registry_good names legal, registry_names names legal), (refl, refl)) stream
