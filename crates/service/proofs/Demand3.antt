-- Demand 3 of the definition's calls, at document 01's judgement and on memory as the code has it. The list of keys that we ship
-- is a fixed input: the same in all calls.
use Rattle.std.proofs.Common.{None}
use mathlib.Core.Path.{◌≡◌, sym, ap, ◌∙◌, subst}
use mathlib.Core.Bool.{true}
use mathlib.Core.List.{List, [], ◌++◌, map, flatten}
use Prim.Native.Nat.{ℕ, ◌+◌, ◌≤◌}
use native.Mathlib.Omega.{arith}
use borrow.Author.Tests.{le-ltb}
use lib.ListN.{length, take}
use Rattle.wire.specs.Choice.{first_of}
use Rattle.wire.proofs.TestLaws.{either}
use Rattle.reading.specs.Call.{Effect, call_rule}
use Rattle.reading.specs.Calls.{took, call_on, taken_stream}
use Rattle.reading.specs.code.Calls.{hand_over}
use Rattle.stream.specs.Frame.{oversized}
use Rattle.stream.specs.Rules.{State, Outcome, judge, rules}
use Rattle.stream.specs.Call as stream
use Rattle.stream.specs.Call.{reader}
use Rattle.stream.specs.Handed.{Lent, responses_in}
use Rattle.stream.specs.Parts.{parts_of, responses_to}
use Rattle.stream.specs.Claims.{within, TakenWhole}
use Rattle.stream.proofs.PartsLaws.{one_each, rules_from_stream}
use Rattle.stream.proofs.ResponseLaws.{Answers, Every, Anything, NotEmpty}
use Rattle.stream.proofs.KeptLaws.{rules_connection, rules_kept}
use Rattle.stream.proofs.CallsLaws.{Lawful, rules_took, follows_rules}
use Rattle.stream.proofs.HandedLaws.{call_bare, rules_bare, follows_with_journal, each_with_journal, delivered_with_journal}
use Rattle.connection.proofs.ConnectionLaws.{load_store, stored_good}
use Rattle.registry.specs.WellFormed.{well_formed_registry}
use Rattle.shipped.specs.Shipped.{well_formed_list}
use Rattle.judgement.specs.Counts.{Counts, requests_in}
use Rattle.judgement.specs.Judgement.{refused_early, verdict_of, judgement}
use Rattle.judgement.proofs.ResponseLaws.{response_some}
use Rattle.journal.specs.Journalling.{recorded_for, records_in, journalling, journal_of}
use Rattle.counters.specs.Counters.{totals_of, counters_of, zero_counters, counter_most, largest_count, largest_counter}
use Rattle.counters.proofs.RequestLaws.{rules_requests}
use Rattle.service.specs.Call.{Memory, state_in, memory_of, layout, Call, CallOutcome, CallsOutcome, fresh, buffer_least, journal_least, chunk_most, refusal_tests, refusal_of, call_outcome}
use Rattle.service.specs.code.Calls.{calls_outcome}
use Rattle.service.specs.Claims.{FollowsRules}
use Rattle.service.proofs.KeptLaws.{keeps}

-- ---- memory

pub lawful : Lawful layout
unfolding Lawful layout state_in memory_of totals_of counters_of
lawful s w = λ i. record { connection = load_store s.connection w i; registry = s.registry; totals = s.totals }

-- ---- what the rules keep is refused for the buffer or the chunk alone

pub accepts : (list registry : List ℕ) → well_formed_registry registry ≡ true → well_formed_list list ≡ true → (seen : List ℕ) (call : Call)
    → length seen ≤ counter_most → length call.chunk ≤ chunk_most → buffer_least ≤ length call.lent.response → journal_least ≤ length call.lent.journal
    → refusal_of list (memory_of (rules (judgement list) registry seen).state) call ≡ None
unfolding refusal_of refusal_tests first_of memory_of counters_of
accepts list registry w good seen call h short room space =
    let s : State (List ℕ) Counts = (rules (judgement list) registry seen).state in
    let k = rules_kept largest_count well_formed_registry (judgement list) (keeps list) registry w seen in
    let taken = k.taken in
    let answered = k.answered in
    let dropped = k.dropped in
    let counts = k.counts in
    let small : largest_counter (counters_of s.totals) ≤ counter_most = unfold largest_counter totals_of counters_of in omega arith in
    rw (
      le-ltb (length call.lent.response) buffer_least room,
      le-ltb chunk_most (length call.chunk) short,
      stored_good s.connection (rules_connection (judgement list) registry seen),
      k.good,
      le-ltb counter_most (largest_counter (counters_of s.totals)) small,
      good,
      le-ltb (length call.lent.journal) journal_least space,
    )

-- ---- one call on what the rules leave

pub record CalledOn (list registry seen : List ℕ) (call : Call) (o : CallOutcome) : Type 0 where
  pub taken : o.answer.taken ≡ (call_rule (reader (judgement list)) (rules (judgement list) registry seen).state call.chunk).taken
  pub memory : o.memory ≡ memory_of (rules (judgement list) registry (seen ++ take o.answer.taken call.chunk)).state

pub called_on : (list registry seen : List ℕ) (call : Call) → refusal_of list (memory_of (rules (judgement list) registry seen).state) call ≡ None
    → CalledOn list registry seen call (call_outcome list (memory_of (rules (judgement list) registry seen).state) call)
unfolding call_outcome layout journalling
called_on list registry seen call ok =
    let same : (s : List ℕ) → (rules (journalling list) registry s).state ≡ (rules (judgement list) registry s).state
    = λ s. ap (λ (o : Outcome (List ℕ) Counts (List ℕ)). o.state) (rules_bare (recorded_for list) (judgement list) registry s) in
    let s : State (List ℕ) Counts = (rules (judgement list) registry seen).state in
    let o : CallOutcome = call_outcome list (memory_of s) call in
    let t : o ≡ (let e = call_rule (reader (journalling list)) s call.chunk in
    record { answer = took layout e.taken e.event call; memory = memory_of (rules (journalling list) registry (seen ++ take e.taken call.chunk)).state })
    = subst (λ (x : State (List ℕ) Counts). call_on (reader (journalling list)) layout (refusal_of list) (memory_of x) call ≡ (let e = call_rule (reader (journalling list)) x call.chunk in
    record { answer = took layout e.taken e.event call; memory = memory_of (rules (journalling list) registry (seen ++ take e.taken call.chunk)).state })) (same seen)
    (rules_took (journalling list) layout lawful (refusal_of list) registry seen call (ap (λ (x : State (List ℕ) Counts). refusal_of list (memory_of x) call) (same seen) ∙ ok)) in
    let n : o.answer.taken ≡ (call_rule (reader (journalling list)) s call.chunk).taken = ap (λ (x : CallOutcome). x.answer.taken) t in
    record {
      taken = n ∙ ap (λ (e : Effect (State (List ℕ) Counts) (List ℕ)). e.taken) (call_bare (recorded_for list) (judgement list) s call.chunk);
      memory =
          ap (λ (x : CallOutcome). x.memory) t ∙ ap memory_of (same (seen ++ take (call_rule (reader (journalling list)) s call.chunk).taken call.chunk))
          ∙ ap (λ (k : ℕ). memory_of (rules (judgement list) registry (seen ++ take k call.chunk)).state) (sym n);
    }

-- ---- no response is empty

never_empty : (list : List ℕ) → Every (judgement list) Anything NotEmpty
unfolding judge judgement refused_early verdict_of
never_empty list = record {
  bad = λ r c g. record { response = response_some 0 0 _ 0 _ []; registry = tt };
  large = λ r c header g. record { response = response_some _ _ _ _ _ []; registry = tt };
  judged = λ r c request g.
      either (Answers (judgement list) Anything NotEmpty) (oversized request)
      (λ _. record { response = response_some _ _ _ _ _ []; registry = tt })
      (λ _. record { response = response_some _ _ _ _ _ _; registry = tt });
}

-- ---- requests

-- the counters that the rules leave have as many requests as they answered
requests_stored : (list registry stream : List ℕ)
    → requests_in (totals_of (memory_of (rules (judgement list) registry stream).state).counters).counts ≡ length (parts_of stream).answered
unfolding memory_of totals_of counters_of
requests_stored list registry stream = rules_requests list registry stream

-- ---- records

journal_is : (list registry stream : List ℕ)
    → journal_of list registry stream ≡ flatten (map (λ h. h.recorded) (responses_to (journalling list) registry (parts_of stream).answered))
unfolding journal_of records_in
journal_is list registry stream = ap records_in (rules_from_stream (journalling list) registry stream).responses

-- ---- the claim

-- from a fresh connection, zero counters and this registry, with this list
pub record Demand3 (list registry : List ℕ) : Type 0 where
  -- any list of calls, refused ones included
  pub follows : (calls : List Call) → FollowsRules list registry calls (calls_outcome list (fresh registry) calls)
  -- both well formed, and a stream of at most 2^62 bytes, cut anywhere into chunks of at most 65,536, with buffers of at
  -- least 1,024 bytes (`lent k` when k more calls may follow; one call for each byte and each chunk is enough)
  pub taken : well_formed_registry registry ≡ true → well_formed_list list ≡ true → (chunks : List (List ℕ)) (lent : ℕ → Lent) (most : ℕ)
      → length (flatten chunks) ≤ counter_most → within chunk_most chunks ≡ true → ((k : ℕ) → buffer_least ≤ length (lent k).response) → ((k : ℕ) → journal_least ≤ length (lent k).journal)
      → length (flatten chunks) + length chunks ≤ most
      → (let calls : List Call = hand_over (reader (journalling list)) layout (refusal_of list) most lent (fresh registry) chunks in
      TakenWhole chunks calls (calls_outcome list (fresh registry) calls))

pub demand3 : (list registry : List ℕ) → Demand3 list registry
unfolding calls_outcome journalling fresh layout state_in memory_of stream.fresh judgement zero_counters totals_of
demand3 list registry = record {
  follows = λ calls.
      let o : CallsOutcome = calls_outcome list (fresh registry) calls in
      let stream : List ℕ = taken_stream calls o.answers in
      let f = follows_rules (journalling list) layout lawful (refusal_of list) registry calls in
      let each : responses_in o.answers ≡ responses_to (judgement list) registry (parts_of stream).answered
      = each_with_journal (recorded_for list) (judgement list) state_in memory_of (refusal_of list) registry lawful calls (never_empty list) in
      let j = follows_with_journal (recorded_for list) (judgement list) state_in memory_of (refusal_of list) registry lawful calls in
      record {
        answers = f.answers;
        responses = j.responses;
        records = j.records ∙ sym (journal_is list registry stream);
        memory = j.memory;
        taken = f.taken;
        accounted = f.accounted;
        parts = f.parts;
        answered = f.answered;
        held = f.held;
        dropped = f.dropped;
        each = each;
        one_each = ap length each ∙ one_each (judgement list) registry (parts_of stream).answered;
        requests = ap (λ (m : Memory). requests_in (totals_of m.counters).counts) j.memory ∙ requests_stored list registry stream;
      };
  taken = λ w good chunks lent most short small room space enough.
      delivered_with_journal (recorded_for list) (judgement list) state_in memory_of (refusal_of list) registry lawful counter_most chunk_most lent
      (λ seen chunk k h few. accepts list registry w good seen _ h few (room k) (space k)) most chunks enough small short;
}
