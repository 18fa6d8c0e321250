-- What is claimed of the call, for every list of keys that we ship: types, no proof. Each is about whatever code meets the contract
-- of a call (`CallContract`), as `service::call::call`, `call_by_value` and, for C and Rust, `abi::razidkot_call` do.
use Rattle.std.specs.Prelude.{ℕ, ◌+◌, ◌≤◌, ◌≡◌, true, length, Some}
use mathlib.Core.List.{List, [], flatten}
use Rattle.reading.specs.Calls.{taken_stream, answers_by}
use Rattle.reading.specs.Claims as reading
use Rattle.stream.specs.Rules.{held_bytes, rules}
use Rattle.stream.specs.Call.{by_rules}
use Rattle.stream.specs.Parts.{joined, parts_of, responses_to}
use Rattle.stream.specs.Handed.{Lent, joined_responses, responses_in, joined_records}
use Rattle.stream.specs.Claims.{within, TakenWhole}
use Rattle.connection.specs.Connection.{connection_of}
use Rattle.registry.specs.WellFormed.{well_formed_registry}
use Rattle.shipped.specs.Shipped.{well_formed_list}
use Rattle.judgement.specs.Counts.{requests_in}
use Rattle.judgement.specs.Judgement.{longest_response, judgement}
use Rattle.journal.specs.Journalling.{journalling, journal_of}
use Rattle.journal.specs.Record.{record_most}
use Rattle.counters.specs.Counters.{totals_of, counter_most}
use Rattle.service.specs.Call.{Memory, memory_of, layout, Call, Answer, CallsOutcome, fresh, buffer_least, journal_least, chunk_most, refusal_of}
use Rattle.service.specs.Contract.{Ran, refusal_in, outcome_in, CallContract}

-- ---- DEMAND 1: any call

-- nothing is taken, written or altered
pub record Still (m : Memory) (call : Call) (r : Ran) : Type 0 where
  pub taken : r.taken ≡ 0
  pub written : r.written ≡ 0
  pub recorded : r.recorded ≡ 0
  pub memory : r.memory ≡ m
  pub response : r.response ≡ call.lent.response
  pub journal : r.journal ≡ call.lent.journal

pub record EachCall (list : List ℕ) (m : Memory) (call : Call) (r : Ran) : Type 0 where
  -- it says the first of the listed cases that applies, if one does,
  pub refused_exactly : refusal_in r.code ≡ refusal_of list m call
  -- and then alters nothing, as it does with an empty chunk
  pub refused_still : (code : ℕ) → refusal_of list m call ≡ Some code → Still m call r
  pub empty_still : call.chunk ≡ [] → Still m call r
  -- at most 629 bytes are written and 645 recorded, and the buffers keep their lengths
  pub short : r.written ≤ longest_response
  pub short_record : r.recorded ≤ record_most
  pub kept_response : length r.response ≡ length call.lent.response
  pub kept_journal : length r.journal ≡ length call.lent.journal

abbrev pub Demand1 : Type 0
Demand1 = (list : List ℕ) (m : Memory) (call : Call) (r : Ran) → CallContract list m call r → EachCall list m call r

-- ---- DEMAND 3: any list of calls

-- one call after the other, each on the memory that the one before left
abbrev pub Runs : (list : List ℕ) → Memory → List Call → List Ran → Type 0
Runs list m calls runs = reading.Runs outcome_in (CallContract list) m calls runs

abbrev pub answers_in : List Ran → List Answer
answers_in runs = reading.answers_in outcome_in runs

abbrev pub left_after : Memory → List Ran → Memory
left_after m runs = reading.left_after outcome_in m runs

abbrev pub ran_outcome : Memory → List Ran → CallsOutcome
ran_outcome m runs = record { answers = answers_in runs; memory = left_after m runs }

-- the calls of a caller that hands over what is left of a chunk again, as the code says how many bytes it took: at most `most`;
-- `lent k` is lent when k more may follow
abbrev pub handed_over : (most : ℕ) (lent : ℕ → Lent) (chunks : List (List ℕ)) → List Ran → List Call
handed_over most lent chunks runs = reading.handed_over outcome_in most lent chunks runs

-- what a list of calls did, against the rules on the joined stream of taken bytes, uncut
pub record FollowsRules (list registry : List ℕ) (calls : List Call) (o : CallsOutcome) : Type 0 where
  -- each call answers as the rules say: refused with its code, or so many bytes taken and that response written
  pub answers : o.answers ≡ answers_by (by_rules (journalling list) registry) layout (refusal_of list) [] calls
  -- the joined responses are theirs
  pub responses : joined_responses o.answers ≡ flatten (rules (judgement list) registry (taken_stream calls o.answers)).responses
  -- the joined records are those of its served imports and destroys, one for each, in their order
  pub records : joined_records o.answers ≡ journal_of list registry (taken_stream calls o.answers)
  -- connection, registry and counters are theirs too
  pub memory : o.memory ≡ memory_of (rules (judgement list) registry (taken_stream calls o.answers)).state
  -- bytes taken are the stream's length: bytes of answered requests, of the unfinished one, and dropped after closing
  pub taken : o.memory.counters.taken ≡ length (taken_stream calls o.answers)
  pub accounted : o.memory.counters.taken
      ≡ o.memory.counters.answered + held_bytes (connection_of o.memory.connection) + o.memory.counters.dropped
  -- each counted from the stream itself: it is its parts joined, which framing alone tells, and these are their lengths
  pub parts : taken_stream calls o.answers ≡ joined (parts_of (taken_stream calls o.answers))
  pub answered : o.memory.counters.answered ≡ length (flatten (parts_of (taken_stream calls o.answers)).answered)
  pub held : held_bytes (connection_of o.memory.connection) ≡ length (parts_of (taken_stream calls o.answers)).held
  pub dropped : o.memory.counters.dropped ≡ length (parts_of (taken_stream calls o.answers)).dropped
  -- the responses that the calls wrote: one for each answered request, in their order
  pub each : responses_in o.answers ≡ responses_to (judgement list) registry (parts_of (taken_stream calls o.answers)).answered
  pub one_each : length (responses_in o.answers) ≡ length (parts_of (taken_stream calls o.answers)).answered
  -- served for all lines, served with auth type 0 and refused for all statuses: each answered request is counted once
  pub requests : requests_in (totals_of o.memory.counters).counts ≡ length (parts_of (taken_stream calls o.answers)).answered

-- from a fresh connection, zero counters and this registry, with this list
pub record CodeDemand3 (list registry : List ℕ) : Type 0 where
  -- any list of calls, refused ones included
  pub follows : (calls : List Call) (runs : List Ran) → Runs list (fresh registry) calls runs → FollowsRules list registry calls (ran_outcome (fresh registry) runs)
  -- both well formed, and a stream of at most 2^62 bytes, cut anywhere into chunks of at most 65,536, with buffers of at
  -- least 1,024 bytes; one call for each byte and each chunk is enough
  pub taken : well_formed_registry registry ≡ true → well_formed_list list ≡ true → (chunks : List (List ℕ)) (lent : ℕ → Lent) (most : ℕ) (runs : List Ran)
      → length (flatten chunks) ≤ counter_most → within chunk_most chunks ≡ true → ((k : ℕ) → buffer_least ≤ length (lent k).response) → ((k : ℕ) → journal_least ≤ length (lent k).journal)
      → length (flatten chunks) + length chunks ≤ most
      → (let calls : List Call = handed_over most lent chunks runs in
      Runs list (fresh registry) calls runs → TakenWhole chunks calls (ran_outcome (fresh registry) runs))
