-- There is room in the counters for what a call counts.
use Prim.Native.Nat.{◌≤◌}
use native.Mathlib.Omega.{arith}
use Rattle.counters.specs.Counters.{counter_most, largest_counter}
use Rattle.counters.specs.code.Counted.{Fits}
use Rattle.counters.specs.declared.Counters.{Counters}
use Rattle.counters.specs.declared.Increments.{Increments}
use Rattle.counters.proofs.CountedLaws.{low_enough}
use Rattle.service.specs.code.Served.{Modest}

-- counters of at most 2^62 have room for what a call counts
pub modest_fits : (c : Counters) (by : Increments) → largest_counter c ≤ counter_most → Modest by → Fits c by
unfolding largest_counter
modest_fits c by low modest = record {
  taken = omega (arith, modest.taken);
  answered = omega (arith, modest.answered);
  dropped = omega (arith, modest.dropped);
  low = low_enough (largest_counter c) by.event low;
  below = modest.event;
}
