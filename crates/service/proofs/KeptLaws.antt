-- What the judgement keeps, as the stream's laws ask it: no counter rises by more than one, and a well-formed registry stays
-- well formed.
use Rattle.std.proofs.Common.{Option, Some, None}
use mathlib.Core.Path.{refl}
use mathlib.Core.List.{List, [], ◌∷◌}
use Prim.Native.Nat.{ℕ, zero, suc, ◌≤◌}
use native.Mathlib.Omega.{arith}
use lib.Dec.{eqb}
use Rattle.wire.proofs.TestLaws.{either}
use Rattle.stream.specs.Frame.{oversized}
use Rattle.stream.specs.Rules.{Verdict, judge}
use Rattle.stream.proofs.KeptLaws.{Keeps}
use Rattle.registry.specs.WellFormed.{well_formed_registry}
use Rattle.registry.specs.declared.Line.{Line}
use Rattle.judgement.specs.Status.{status_number, refused_statuses}
use Rattle.judgement.specs.Counts.{Counts, no_counts, increment, index_of, count_refused, count_served, count}
use Rattle.judgement.specs.Judgement.{verdict_of, refused_early, judgement}
use Rattle.judgement.specs.declared.Status.{Status}
use Rattle.judgement.proofs.JudgementLaws.{judge_good_lem}
use Rattle.counters.specs.Counters.{maximum, largest_count}

-- ---- the counters

increment_one : (l : List ℕ) (i : ℕ) → maximum (increment l i) ≤ suc (maximum l)
unfolding increment maximum
increment_one [] i = omega arith
increment_one (x ∷ l) zero = omega arith
increment_one (x ∷ l) (suc i) = omega (arith, increment_one l i)

refused_one : (c : Counts) (status : Status) → largest_count (count_refused c status) ≤ suc (largest_count c)
unfolding largest_count count_refused
refused_one c status = omega (arith, increment_one c.refused (index_of status refused_statuses))

served_one : (c : Counts) (o : Option Line) → largest_count (count_served c o) ≤ suc (largest_count c)
unfolding largest_count count_served
served_one c None = omega arith
served_one c (Some line) = omega (arith, increment_one c.served line.0)

count_one : (c : Counts) (o : Option Line) (status : Status) → largest_count (count c o status) ≤ suc (largest_count c)
unfolding count
count_one c o status =
    either (λ x. largest_count x ≤ suc (largest_count c)) (eqb (status_number status) 0) (λ _. served_one c o) (λ _. refused_one c status)

-- ---- together

judge_counts_lem : (list r : List ℕ) (c : Counts) (request : List ℕ) → largest_count (judge (judgement list) r c request).counts ≤ suc (largest_count c)
unfolding judge judgement refused_early verdict_of
judge_counts_lem list r c request = either (λ (v : Verdict (List ℕ) Counts (List ℕ)). largest_count v.counts ≤ suc (largest_count c)) (oversized request) (λ _. refused_one c _) (λ _. count_one c _ _)

pub keeps : (list : List ℕ) → Keeps largest_count well_formed_registry (judgement list)
unfolding judgement no_counts largest_count maximum refused_early
keeps list = record {
  start_counts = refl;
  bad_counts = λ r c. refused_one c _;
  judge_counts = judge_counts_lem list;
  bad_good = λ r c w. w;
  judge_good = judge_good_lem list;
}
