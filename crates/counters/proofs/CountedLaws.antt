-- Laws of what a call counts, and that there is room for it.
use Rattle.std.proofs.Common.{Option, Some, None}
use Prim.Native.Nat.{ℕ, ◌≤◌}
use mathlib.Core.Path.{◌≡◌, refl, subst}
use mathlib.Core.Bool.{Bool, true, false}
use native.Mathlib.Omega.{arith}
use borrow.Author.Tests.{eqb-false}
use lib.ListN.{get_or}
use lib.Dec.{eqb}
use Rattle.wire.specs.Choice.{when◌then◌else◌}
use Rattle.judgement.specs.Status.{status_number}
use Rattle.judgement.specs.Counts.{Counts, count_served, count_refused, count}
use Rattle.judgement.specs.code.Decided.{AskerBelow}
use Rattle.judgement.specs.declared.Status.{Status}
use Rattle.counters.specs.Counters.{totals_of, counter_most, largest_count, largest_counter}
use Rattle.counters.specs.code.Counted.{served_for, event_of, count_event, EventBelow, LowFor, Fits}
use Rattle.counters.proofs.CountersLaws.{at_most_maximum}
use Rattle.counters.specs.declared.Counters.{Counters}
use Rattle.counters.specs.declared.Event.{Event}
use Rattle.counters.specs.declared.Event.TheVariants.{Refused}
use Rattle.counters.specs.declared.Increments.{Increments}
use Rattle.registry.specs.declared.Line.{Line}

-- ---- there is room for one more where no counter is above 2^62

pub low_enough : (highest : ℕ) (event : Option Event) → highest ≤ counter_most → LowFor highest event
low_enough highest None low = tt
low_enough highest (Some event) low = low

-- where a request is counted, every counter is low
module _ (c : Counters) (by : Increments) (fits : Fits c by) (event : Event) (e : by.event ≡ Some event) where
  low : largest_counter c ≤ counter_most
  low = subst (LowFor (largest_counter c)) e fits.low

  pub served_low : (i : ℕ) → get_or c.served i 0 ≤ counter_most
  unfolding largest_counter largest_count totals_of
  served_low i = let h = low in omega (arith, at_most_maximum c.served i)

  pub unauthenticated_low : c.unauthenticated ≤ counter_most
  unfolding largest_counter largest_count totals_of
  unauthenticated_low = let h = low in omega arith

  pub refused_low : (i : ℕ) → get_or c.refused i 0 ≤ counter_most
  unfolding largest_counter largest_count totals_of
  refused_low i = let h = low in omega (arith, at_most_maximum c.refused i)

-- ---- a request's event counts what the rules count, and has a counter

pub event_counts : (counts : Counts) (asker : Option Line) (status : Status) → count_event counts (Some (event_of asker status)) ≡ count counts asker status
unfolding event_of count count_event served_for
event_counts counts asker status = go (eqb (status_number status) 0) refl
  where
    served : (asker : Option Line) → count_event counts (Some (served_for asker)) ≡ count_served counts asker
    served None = refl
    served (Some line) = refl

    go : (zero : Bool) → eqb (status_number status) 0 ≡ zero
        → count_event counts (Some (when zero then served_for asker else Refused status)) ≡ (when zero then count_served counts asker else count_refused counts status)
    go true e = served asker
    go false e = refl

pub event_below : (asker : Option Line) (status : Status) → AskerBelow asker → EventBelow (Some (event_of asker status))
unfolding event_of served_for
event_below asker status below = go (eqb (status_number status) 0) refl
  where
    served : (asker : Option Line) → AskerBelow asker → EventBelow (Some (served_for asker))
    served None b = tt
    served (Some line) b = b

    go : (zero : Bool) → eqb (status_number status) 0 ≡ zero → EventBelow (Some (when zero then served_for asker else Refused status))
    go true e = served asker below
    go false e = omega (arith, eqb-false (status_number status) 0 e)
