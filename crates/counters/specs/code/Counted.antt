-- The counters after a call, in the reading copy's terms.
use Rattle.std.specs.Prelude.{ℕ, ◌+◌, ◌≤◌, ◌<◌, ◌^◌, eqb, Option, Some, None}
use Rattle.wire.specs.Choice.{when◌then◌else◌}
use Rattle.registry.specs.Registry.{line_count}
use Rattle.judgement.specs.Status.{status_number}
use Rattle.judgement.specs.Counts.{Counts, count_served, count_refused}
use Rattle.judgement.specs.declared.Status.{Status}
use Rattle.counters.specs.Counters.{totals_of, counters_of, counter_most, largest_counter}
use Rattle.counters.specs.declared.Counters.{Counters}
use Rattle.counters.specs.declared.Event.{Event}
use Rattle.counters.specs.declared.Event.TheVariants.{Served, ServedUnauthenticated, Refused}
use Rattle.counters.specs.declared.Increments.{Increments}
use Rattle.registry.specs.declared.Line.{Line}

-- ---- what a request counts as

unfoldable pub served_for : Option Line → Event
served_for None = ServedUnauthenticated
served_for (Some line) = Served line

unfoldable pub event_of : Option Line → Status → Event
event_of asker status = when eqb (status_number status) 0 then served_for asker else Refused status

unfoldable pub count_event : Counts → Option Event → Counts
count_event counts None = counts
count_event counts (Some (Served line)) = count_served counts (Some line)
count_event counts (Some ServedUnauthenticated) = count_served counts None
count_event counts (Some (Refused status)) = count_refused counts status

-- ---- all that a call counts

unfoldable pub counted : Counters → Increments → Counters
counted c by = counters_of (record {
  taken = c.taken + by.taken;
  answered = c.answered + by.answered;
  dropped = c.dropped + by.dropped;
  counts = count_event (totals_of c).counts by.event;
})

-- ---- when there is room for it

-- the event, if it is a request, has a counter
abbrev pub EventBelow : Option Event → Type 0
EventBelow None = Unit {0}
EventBelow (Some (Served line)) = line.0 < line_count
EventBelow (Some ServedUnauthenticated) = Unit {0}
EventBelow (Some (Refused status)) = 0 < status_number status

-- one more is counted only where no counter is above 2^62
abbrev pub LowFor : (highest : ℕ) → Option Event → Type 0
LowFor highest None = Unit {0}
LowFor highest (Some event) = highest ≤ counter_most

pub record Fits (c : Counters) (by : Increments) : Type 0 where
  pub taken : c.taken + by.taken < 2 ^ 64
  pub answered : c.answered + by.answered < 2 ^ 64
  pub dropped : c.dropped + by.dropped < 2 ^ 64
  pub low : LowFor (largest_counter c) by.event
  pub below : EventBelow by.event
