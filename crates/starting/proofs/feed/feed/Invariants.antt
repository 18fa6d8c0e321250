use Prim.Native.Nat.{◌+◌, ◌-◌, ◌≤◌}
use mathlib.Core.Path.{◌≡◌, refl, sym, subst, ◌∙◌}
use native.Mathlib.Omega.{arith}
use borrow.Author.Rules.{rules}
use lib.ListN.{length, take, drop}
use Rattle.wire.proofs.BufferLaws.{lent}
use Rattle.service.specs.Call.{CallOutcome, call_outcome}
use Rattle.service.specs.Contract.{lent_memory, call_with, code_number, ran_with, outcome_in}
use Rattle.counters.specs.declared.Counters.{Counters}
use Rattle.starting.specs.code.Stream.{Takes}
use Rattle.starting.proofs.FeedLaws.{takes_none, takes_all, takes_more, takes_fits}
use Rattle.starting.proofs.feed.feed.Given as goal

abbrev pub invariant-loop-at : goal.invariant-loop-at
invariant-loop-at l = Takes l.list (take l.at l.chunk) (lent_memory l.initial.connection l.initial.registry l.initial.after) (lent_memory l.connection l.registry l.after) × (l.at ≤ length l.chunk)
    × (length l.connection ≡ length l.initial.connection) × (length l.registry ≡ length l.initial.registry) × (length l.response ≡ length l.initial.response) × (length l.journal ≡ length l.initial.journal)

abbrev pub decreases-loop-at : goal.decreases-loop-at
decreases-loop-at l = length l.chunk - l.at
