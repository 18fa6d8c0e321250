use mathlib.Core.Path.{refl}
use Rattle.judgement.specs.Counts.{no_counts}
use Rattle.counters.specs.Counters.{counters_of, zero_counters}
use Rattle.counters.proofs.counting.zero_counters.Goals as goal

pub returns : goal.returns
unfolding zero_counters counters_of no_counts
returns c = refl
