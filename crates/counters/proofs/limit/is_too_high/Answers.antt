use Prim.Native.Nat.{ℕ, max}
use mathlib.Core.Path.{◌≡◌}
use native.Mathlib.Omega.{arith}
use Rattle.counters.specs.Counters.{totals_of, maximum, largest_count, largest_counter}
use Rattle.counters.proofs.limit.is_too_high.Goals as goal

none_more : (n : ℕ) → max n 0 ≡ n
none_more n = omega arith

pub returns : goal.returns
unfolding maximum largest_counter largest_count totals_of
returns c = rw (c.largest.ensures, c.largest-served.ensures, c.largest-refused.ensures, none_more (maximum c.args.c.refused))
