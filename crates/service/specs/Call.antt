-- THE CALL'S WHOLE OUTCOME, which the code's contract cites: "When a call is not taken" (C6: document 02, "Keys we ship"), and what
-- a taken one leaves.
use Rattle.std.specs.Prelude.{ℕ, Bool, not, List, [], ◌∷◌, length, ltb, Option, option_map}
use Rattle.wire.specs.Choice.{first_of}
pub use Rattle.wire.specs.Response.{buffer_least}
use Rattle.reading.specs.Calls.{Call as CallWith, Answer as AnswerWith, Layout, CallOutcome as CallOutcomeWith, CallsOutcome as CallsOutcomeWith, call_on}
use Rattle.stream.specs.Rules.{State, opened}
use Rattle.stream.specs.Call.{reader}
use Rattle.stream.specs.Handed.{Handed, Lent, Given, give}
use Rattle.connection.specs.Connection.{connection_bytes, connection_of, well_formed_connection}
use Rattle.registry.specs.WellFormed.{well_formed_registry}
use Rattle.shipped.specs.Shipped.{well_formed_list}
use Rattle.judgement.specs.Counts.{Counts}
use Rattle.journal.specs.Journalling.{journalling}
use Rattle.counters.specs.Counters.{totals_of, counters_of, zero_counters, counter_most, largest_counter}
use Rattle.counters.specs.declared.Counters.{Counters}
use Rattle.service.specs.Refusals.{refusal_number}
use Rattle.service.specs.declared.Refusal.{Refusal}
use Rattle.service.specs.declared.Refusal.TheVariants.{ResponseBufferTooSmall, ChunkTooLong, ConnectionIllFormed, RegistryIllFormed, CounterTooHigh, ListIllFormed, JournalBufferTooSmall}

-- ---- what a call is lent

-- and changes in place
pub record Memory : Type 0 where
  pub connection : List ℕ
  pub registry : List ℕ
  pub counters : Counters

unfoldable pub state_in : Memory → State (List ℕ) Counts
state_in m = record { connection = connection_of m.connection; registry = m.registry; totals = totals_of m.counters }

unfoldable pub memory_of : State (List ℕ) Counts → Memory
memory_of s = record { connection = connection_bytes s.connection; registry = s.registry; counters = counters_of s.totals }

-- and two buffers, for a response and for a record of the journal
unfoldable pub layout : Layout Memory (State (List ℕ) Counts) Handed Lent Given
layout = record { load = state_in; store = memory_of; give = give }

-- the call, what it says (a refusal by its number), and what calls leave
abbrev pub Call : Type 0
Call = CallWith Lent

abbrev pub Answer : Type 0
Answer = AnswerWith ℕ Given

abbrev pub CallOutcome : Type 0
CallOutcome = CallOutcomeWith Memory ℕ Given

abbrev pub CallsOutcome : Type 0
CallsOutcome = CallsOutcomeWith Memory ℕ Given

-- a fresh connection and zero counters
unfoldable pub fresh : (registry : List ℕ) → Memory
fresh registry = record { connection = connection_bytes (opened []); registry = registry; counters = zero_counters }

-- ---- when a call is not taken

abbrev pub chunk_most : ℕ
chunk_most = 65536

-- a journal buffer has room for any record
abbrev pub journal_least : ℕ
journal_least = 1024

unfoldable pub refusal_tests : (list : List ℕ) → Memory → Call → List (Bool × Refusal)
refusal_tests list m call =
    (ltb (length call.lent.response) buffer_least, ResponseBufferTooSmall)
    ∷ (ltb chunk_most (length call.chunk), ChunkTooLong)
    ∷ (not (well_formed_connection m.connection), ConnectionIllFormed)
    ∷ (not (well_formed_registry m.registry), RegistryIllFormed)
    ∷ (ltb counter_most (largest_counter m.counters), CounterTooHigh)
    ∷ (not (well_formed_list list), ListIllFormed)
    ∷ (ltb (length call.lent.journal) journal_least, JournalBufferTooSmall)
    ∷ []

-- C1 to C7, first that applies, by its number
unfoldable pub refusal_of : (list : List ℕ) → Memory → Call → Option ℕ
refusal_of list m call = option_map refusal_number (first_of (refusal_tests list m call))

-- ---- the call, by the judgement with its records; all calls are lent the same list of keys that we ship, read-only

unfoldable pub call_outcome : (list : List ℕ) → Memory → Call → CallOutcome
call_outcome list m call = call_on (reader (journalling list)) layout (refusal_of list) m call
