-- Document 01's tally: the counters in memory ("Roster, registry, connection, tally").
use Rattle.std.specs.Prelude.{ℕ, max, ◌^◌, List, [], ◌∷◌}
use Rattle.stream.specs.Rules.{Totals}
use Rattle.judgement.specs.Counts.{Counts, no_counts}
use Rattle.counters.specs.declared.Counters.{Counters}

unfoldable pub totals_of : Counters → Totals Counts
totals_of c = record {
  taken = c.taken;
  answered = c.answered;
  dropped = c.dropped;
  counts = record { served = c.served; unauthenticated = c.unauthenticated; refused = c.refused };
}

unfoldable pub counters_of : Totals Counts → Counters
counters_of t = record {
  taken = t.taken;
  answered = t.answered;
  dropped = t.dropped;
  served = t.counts.served;
  unauthenticated = t.counts.unauthenticated;
  refused = t.counts.refused;
}

-- all counts are 0
unfoldable pub zero_counters : Counters
zero_counters = counters_of (record { taken = 0; answered = 0; dropped = 0; counts = no_counts })

-- ---- how high a counter may be

abbrev pub counter_most : ℕ
counter_most = 2 ^ 62

unfoldable pub maximum : List ℕ → ℕ
maximum [] = 0
maximum (n ∷ ns) = max n (maximum ns)

unfoldable pub largest_count : Counts → ℕ
largest_count c = max (maximum c.served) (max c.unauthenticated (maximum c.refused))

unfoldable pub largest_counter : Counters → ℕ
largest_counter c = max c.taken (max c.answered (max c.dropped (largest_count (totals_of c).counts)))
