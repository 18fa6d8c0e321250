-- What every call keeps to, whatever it is lent: it is refused exactly in the seven cases, a refused one alters nothing, an
-- empty chunk alters nothing, at most 629 bytes are written and 645 recorded, and both buffers keep their lengths.
use Rattle.std.proofs.Common.{Option, Some, None, option_map}
use mathlib.Core.Path.{◌≡◌, refl, sym, ap, subst, ◌∙◌}
use mathlib.Core.Bool.{true}
use mathlib.Core.List.{List, []}
use Prim.Native.Nat.{ℕ, ◌≤◌}
use native.Mathlib.Omega.{arith}
use borrow.Author.Tests.{ltb-false, not-false}
use lib.ListN.{length}
use Rattle.wire.specs.Request.{request_of}
use Rattle.wire.specs.Choice.{first_of}
use Rattle.wire.proofs.TestLaws.{none_at, either}
use Rattle.stream.specs.Rules.{State, judge}
use Rattle.reading.specs.Call.{Effect, call_rule}
use Rattle.reading.specs.Calls.{refused, took, call_on}
use Rattle.reading.specs.Buffer.{Written, written}
use Rattle.reading.proofs.BufferLaws.{same_length}
use Rattle.stream.specs.Call.{reader}
use Rattle.stream.specs.Frame.{oversized}
use Rattle.stream.specs.Handed.{Handed, recording, Lent, give}
use Rattle.stream.proofs.ResponseLaws.{IfSome, Answers, Every, Anything, call_every}
use Rattle.stream.proofs.HandedLaws.{bare_event, bare_effect, call_bare}
use Rattle.connection.specs.Connection.{well_formed_connection}
use Rattle.connection.proofs.ConnectionLaws.{store_load}
use Rattle.registry.specs.WellFormed.{well_formed_registry}
use Rattle.shipped.specs.Shipped.{well_formed_list}
use Rattle.judgement.specs.Counts.{Counts}
use Rattle.judgement.specs.Judgement.{refused_early, longest_response, judgement}
use Rattle.judgement.proofs.ResponseLaws.{bad_short, oversized_short, judge_short}
use Rattle.journal.specs.Journalling.{recorded_for, journalling}
use Rattle.journal.specs.Record.{record_most}
use Rattle.journal.proofs.ChangeLaws.{record_short}
use Rattle.counters.specs.Counters.{totals_of, counters_of, zero_counters, counter_most, largest_counter}
use Rattle.service.specs.Call.{Memory, state_in, memory_of, layout, Call, CallOutcome, fresh, buffer_least, journal_least, refusal_tests, refusal_of, call_outcome}
use Rattle.service.specs.Contract.{Ran, CallContract}
use Rattle.service.specs.Claims.{Still, Demand1}
use Rattle.service.specs.code.Served.{Ready}
use Rattle.service.specs.Refusals.{refusal_number}
use Rattle.service.specs.declared.Refusal.TheVariants.{ResponseBufferTooSmall, ChunkTooLong, ConnectionIllFormed, RegistryIllFormed, CounterTooHigh, ListIllFormed, JournalBufferTooSmall}
use Rattle.service.proofs.KeptLaws.{keeps}

abbrev Kept : Type 0
Kept = State (List ℕ) Counts

-- ---- what a taken call writes

abbrev Good : (registry : List ℕ) → Type 0
Good registry = well_formed_registry registry ≡ true

abbrev Short : (response : List ℕ) → Type 0
Short response = length response ≤ longest_response

every_short : (list : List ℕ) → Every (judgement list) Good Short
unfolding judgement refused_early
every_short list = record {
  bad = λ r c w. record { response = bad_short list r c; registry = (keeps list).bad_good r c w };
  large = λ r c header w. record { response = oversized_short list r c header; registry = w };
  judged = λ r c request w. record { response = judge_short list r c request w; registry = (keeps list).judge_good r c request w };
}

call_short : (list : List ℕ) (s : Kept) → Good s.registry → (chunk : List ℕ) → IfSome Short (call_rule (reader (judgement list)) s chunk).event
call_short list = call_every (judgement list) Good Short (every_short list)

-- ---- what it records

abbrev Modest : Handed → Type 0
Modest h = length h.recorded ≤ record_most

every_modest : (list : List ℕ) → Every (journalling list) Anything Modest
unfolding journalling recorded_for judge
every_modest list = record {
  bad = λ r c _. record { response = omega arith; registry = tt };
  large = λ r c header _. record { response = omega arith; registry = tt };
  judged = λ r c request _.
      either (Answers (recording (recorded_for list) (judgement list)) Anything Modest) (oversized request)
      (λ _. record { response = omega arith; registry = tt })
      (λ _. record { response = record_short list r (request_of request); registry = tt });
}

abbrev pub recorded_effect : (list : List ℕ) → Memory → (chunk : List ℕ) → Effect Kept Handed
recorded_effect list m chunk = call_rule (reader (journalling list)) (state_in m) chunk

call_modest : (list : List ℕ) (m : Memory) (chunk : List ℕ) → IfSome Modest (recorded_effect list m chunk).event
call_modest list m chunk = call_every (journalling list) Anything Modest (every_modest list) (state_in m) tt chunk

-- but for the record it is what it would be without
pub effect_bare : (list : List ℕ) (m : Memory) (chunk : List ℕ)
    → bare_effect (recorded_for list) (judgement list) (recorded_effect list m chunk) ≡ call_rule (reader (judgement list)) (state_in m) chunk
unfolding journalling
effect_bare list m chunk = call_bare (recorded_for list) (judgement list) (state_in m) chunk

-- ---- a call that is not refused has passed the seven tests

none_under : {A B : Type 0} (f : A → B) (o : Option A) → option_map f o ≡ None → o ≡ None
none_under f None e = refl
none_under f (Some x) e = cc

pub record Passed (list : List ℕ) (m : Memory) (call : Call) : Type 0 where
  pub ready : Ready m.connection m.registry list call.chunk call.lent.response call.lent.journal
  pub counters_good : largest_counter m.counters ≤ counter_most

pub passed : (list : List ℕ) (m : Memory) (call : Call) → refusal_of list m call ≡ None → Passed list m call
unfolding refusal_of refusal_tests
passed list m call refused =
    let tests = refusal_tests list m call in
    let e : first_of tests ≡ None = none_under refusal_number (first_of tests) refused in
    record {
      ready =
          record {
            buffer_good = ltb-false _ _ (none_at tests 0 ResponseBufferTooSmall e);
            chunk_good = ltb-false _ _ (none_at tests 1 ChunkTooLong e);
            connection_good = not-false (well_formed_connection m.connection) (none_at tests 2 ConnectionIllFormed e);
            registry_good = not-false (well_formed_registry m.registry) (none_at tests 3 RegistryIllFormed e);
            list_good = not-false (well_formed_list list) (none_at tests 5 ListIllFormed e);
            journal_good = ltb-false _ _ (none_at tests 6 JournalBufferTooSmall e);
          };
      counters_good = ltb-false _ _ (none_at tests 4 CounterTooHigh e);
    }

-- ---- any call

module _ (list : List ℕ) (m : Memory) (call : Call) where
  pub refused_outcome : (code : ℕ) → refusal_of list m call ≡ Some code → call_outcome list m call ≡ record { answer = refused layout code call; memory = m }
  unfolding call_outcome call_on
  refused_outcome code e = rw (e, call_on)

  pub taken_outcome : refusal_of list m call ≡ None
      → call_outcome list m call
      ≡ record { answer = took layout (recorded_effect list m call.chunk).taken (recorded_effect list m call.chunk).event call; memory = memory_of (recorded_effect list m call.chunk).kept }
  unfolding call_outcome call_on layout
  taken_outcome e = rw (e, call_on)

  -- at most 629 bytes are written, 645 recorded, and both buffers keep their lengths
  record Fits (o : CallOutcome) : Type 0 where
    written : o.answer.given.response.count ≤ longest_response
    recorded : o.answer.given.journal.count ≤ record_most
    response_length : length o.answer.given.response.buffer ≡ length call.lent.response
    journal_length : length o.answer.given.journal.buffer ≡ length call.lent.journal

  took_fits : (n : ℕ) (o : Option Handed) (l : Memory) → IfSome Short (bare_event (recorded_for list) (judgement list) o) → IfSome Modest o → buffer_least ≤ length call.lent.response
      → journal_least ≤ length call.lent.journal → Fits (record { answer = took layout n o call; memory = l })
  unfolding layout give written
  took_fits n None l s z h g = record { written = omega arith; recorded = omega arith; response_length = refl; journal_length = refl }
  took_fits n (Some r) l s z h g = record {
    written = s;
    recorded = z;
    response_length = same_length r.response call.lent.response (omega arith);
    journal_length = same_length r.recorded call.lent.journal (omega arith);
  }

  call_fits : Fits (call_outcome list m call)
  unfolding layout give written state_in
  call_fits = go (refusal_of list m call) refl
    where
      go : (o : Option ℕ) → refusal_of list m call ≡ o → Fits (call_outcome list m call)
      go (Some code) e = rw (refused_outcome code e) (record { written = omega arith; recorded = omega arith; response_length = refl; journal_length = refl })
      go None e =
          let t = passed list m call e in
          let f = recorded_effect list m call.chunk in
          rw (taken_outcome e)
          (took_fits f.taken f.event _
          (subst (λ (x : Effect Kept (List ℕ)). IfSome Short x.event) (sym (effect_bare list m call.chunk)) (call_short list (state_in m) t.ready.registry_good call.chunk))
          (call_modest list m call.chunk) t.ready.buffer_good t.ready.journal_good)

  -- a call says the first case that applies, if one does
  refused_exactly : (call_outcome list m call).answer.refusal ≡ refusal_of list m call
  refused_exactly = go (refusal_of list m call) refl
    where
      go : (o : Option ℕ) → refusal_of list m call ≡ o → (call_outcome list m call).answer.refusal ≡ o
      go (Some code) e = rw (refused_outcome code e)
      go None e = rw (taken_outcome e)

-- an empty chunk alters nothing, whether the call is refused or not
record Idle (m : Memory) (lent : Lent) (o : CallOutcome) : Type 0 where
  taken : o.answer.taken ≡ 0
  response_stays : o.answer.given.response ≡ record { count = 0; buffer = lent.response }
  journal_stays : o.answer.given.journal ≡ record { count = 0; buffer = lent.journal }
  memory_stays : o.memory ≡ m

empty_idle : (list : List ℕ) (m : Memory) (lent : Lent) → Idle m lent (call_outcome list m (record { chunk = []; lent = lent }))
unfolding layout give written call_rule state_in memory_of counters_of totals_of
empty_idle list m lent = go (refusal_of list m call) refl
  where
    call : Call
    call = record { chunk = []; lent = lent }

    go : (o : Option ℕ) → refusal_of list m call ≡ o → Idle m lent (call_outcome list m call)
    go (Some code) e = rw (refused_outcome list m call code e) (record { taken = refl; response_stays = refl; journal_stays = refl; memory_stays = refl })
    go None e =
        let t = passed list m call e in
        rw (taken_outcome list m call e)
        (record {
          taken = refl;
          response_stays = refl;
          journal_stays = refl;
          memory_stays = λ i. record { connection = store_load m.connection t.ready.connection_good i; registry = m.registry; counters = m.counters };
        })

-- ---- DEMAND 1 OF THE CODE

module _ (list : List ℕ) (m : Memory) (call : Call) (r : Ran) (e : CallContract list m call r) where
  still : (call_outcome list m call).answer.taken ≡ 0 → (call_outcome list m call).answer.given.response ≡ record { count = 0; buffer = call.lent.response }
      → (call_outcome list m call).answer.given.journal ≡ record { count = 0; buffer = call.lent.journal } → (call_outcome list m call).memory ≡ m → Still m call r
  still taken response journal memory = record {
    taken = ap (λ (o : CallOutcome). o.answer.taken) e ∙ taken;
    written = ap (λ (o : CallOutcome). o.answer.given.response.count) e ∙ ap (λ (w : Written). w.count) response;
    recorded = ap (λ (o : CallOutcome). o.answer.given.journal.count) e ∙ ap (λ (w : Written). w.count) journal;
    memory = ap (λ (o : CallOutcome). o.memory) e ∙ memory;
    response = ap (λ (o : CallOutcome). o.answer.given.response.buffer) e ∙ ap (λ (w : Written). w.buffer) response;
    journal = ap (λ (o : CallOutcome). o.answer.given.journal.buffer) e ∙ ap (λ (w : Written). w.buffer) journal;
  }

  when_refused : (code : ℕ) → refusal_of list m call ≡ Some code → Still m call r
  unfolding layout give written
  when_refused code q =
      let o = refused_outcome list m call code q in
      still (ap (λ (x : CallOutcome). x.answer.taken) o) (ap (λ (x : CallOutcome). x.answer.given.response) o) (ap (λ (x : CallOutcome). x.answer.given.journal) o) (ap (λ (x : CallOutcome). x.memory) o)

  when_empty : call.chunk ≡ [] → Still m call r
  when_empty q =
      let i : Idle m call.lent (call_outcome list m call)
      = subst (λ (chunk : List ℕ). Idle m call.lent (call_outcome list m (record { chunk = chunk; lent = call.lent }))) (sym q) (empty_idle list m call.lent) in
      still i.taken i.response_stays i.journal_stays i.memory_stays

pub each_call : Demand1
each_call list m call r e =
    let fits = call_fits list m call in
    record {
      refused_exactly = ap (λ (o : CallOutcome). o.answer.refusal) e ∙ refused_exactly list m call;
      refused_still = when_refused list m call r e;
      empty_still = when_empty list m call r e;
      short = subst (λ (o : CallOutcome). o.answer.given.response.count ≤ longest_response) (sym e) fits.written;
      short_record = subst (λ (o : CallOutcome). o.answer.given.journal.count ≤ record_most) (sym e) fits.recorded;
      kept_response = subst (λ (o : CallOutcome). length o.answer.given.response.buffer ≡ length call.lent.response) (sym e) fits.response_length;
      kept_journal = subst (λ (o : CallOutcome). length o.answer.given.journal.buffer ≡ length call.lent.journal) (sym e) fits.journal_length;
    }

-- ---- the counters that demand 3 starts from are those that cleared counters are

pub fresh_counters : (registry : List ℕ) → (fresh registry).counters ≡ zero_counters
unfolding fresh
fresh_counters registry = refl
