-- What a taken call leaves in the memory that it was lent, in the reading copy's terms.
use Rattle.std.specs.Prelude.{ℕ, ◌+◌, ◌-◌, ◌≤◌, ◌<◌, ◌^◌, true, ◌≡◌, List, [], length, take, drop, ltb, Option, Some, None}
use Rattle.wire.specs.Choice.{when◌then◌else◌}
use Rattle.wire.specs.Request.{request_least, header_length, request_length}
use Rattle.wire.specs.code.Wrote.{Wrote}
use Rattle.reading.specs.Call.{Effect, call_rule}
use Rattle.stream.specs.Rules.{opened, skipping, closed, State}
use Rattle.stream.specs.code.Effects.{waiting, answering}
use Rattle.stream.specs.Call.{reader}
use Rattle.stream.specs.Handed.{Handed}
use Rattle.connection.specs.Connection.{bytes_at, connection_size, laid_out, connection_bytes, well_formed_connection}
use Rattle.registry.specs.WellFormed.{well_formed_registry}
use Rattle.shipped.specs.Shipped.{well_formed_list}
use Rattle.judgement.specs.Counts.{Counts}
use Rattle.journal.specs.Journalling.{journalling}
use Rattle.answer.specs.declared.Answered.{Answered}
use Rattle.counters.specs.Counters.{totals_of, counters_of}
use Rattle.counters.specs.code.Counted.{event_of, counted, EventBelow}
use Rattle.counters.specs.declared.Counters.{Counters}
use Rattle.counters.specs.declared.Increments.{Increments}
use Rattle.service.specs.Call.{Memory, state_in, buffer_least, journal_least, chunk_most}
use Rattle.service.specs.declared.Handled.{Handled}

-- none of C1 to C4, C6 and C7 applies
pub record Ready (connection registry list chunk buffer journal : List ℕ) : Type 0 where
  pub buffer_good : buffer_least ≤ length buffer
  pub chunk_good : length chunk ≤ chunk_most
  pub connection_good : well_formed_connection connection ≡ true
  pub registry_good : well_formed_registry registry ≡ true
  pub list_good : well_formed_list list ≡ true
  pub journal_good : journal_least ≤ length journal

-- ---- what a call comes to

-- no response is written; of so many bytes taken so many came after closing
abbrev pub unanswered : (taken dropped : ℕ) → Handled
unanswered taken dropped = record { written = 0; recorded = 0; added = record { taken = taken; answered = 0; dropped = dropped; event = None } }

abbrev pub finished : (n size : ℕ) → Answered → Handled
finished n size a = record {
  written = a.written;
  recorded = a.recorded;
  added = record { taken = n; answered = size; dropped = 0; event = Some (event_of a.asker a.status) };
}

-- so little that counters of at most 2^62 have room for it
pub record Modest (by : Increments) : Type 0 where
  pub taken : by.taken ≤ chunk_most
  pub answered : by.answered < 2 ^ 40
  pub dropped : by.dropped ≤ chunk_most
  pub event : EventBelow by.event

-- the response and the record, if there is one, were written over the front of `before`, which is now `after`, and of `journal`,
-- which is now `journal'`; n and m say how many bytes
abbrev pub WroteAny : Option Handed → (before after journal journal' : List ℕ) → (n m : ℕ) → Type 0
WroteAny None before after journal journal' n m = (n ≡ 0) × (after ≡ before) × (m ≡ 0) × (journal' ≡ journal)
WroteAny (Some h) before after journal journal' n m = Wrote h.response before after n × Wrote h.recorded journal journal' m

-- the effect was carried out, but that the counters c have still to be counted up
pub record Carried (c : Counters) (e : Effect (State (List ℕ) Counts) Handed) (connection registry before after journal journal' : List ℕ) (r : Handled) : Type 0 where
  pub taken_is : r.added.taken ≡ e.taken
  pub written_is : WroteAny e.event before after journal journal' r.written r.recorded
  pub connection_is : connection ≡ connection_bytes e.kept.connection
  pub registry_is : registry ≡ e.kept.registry
  pub counters_is : counted c r.added ≡ counters_of e.kept.totals
  pub modest : Modest r.added

-- what a taken call does
abbrev pub effect_of : (list : List ℕ) → Memory → (chunk : List ℕ) → Effect (State (List ℕ) Counts) Handed
effect_of list m chunk = call_rule (reader (journalling list)) (state_in m) chunk

-- ---- an oversized request, of which `to_go` bytes are missing and `here` are at hand behind the `used` first bytes of the chunk

unfoldable pub skip_effect : (list registry : List ℕ) → Counters → (header : List ℕ) (used here to_go : ℕ) → Effect (State (List ℕ) Counts) Handed
skip_effect list registry c header used here to_go =
    let s : State (List ℕ) Counts = record { connection = closed; registry = registry; totals = totals_of c } in
    when ltb here to_go then waiting s (used + here) (skipping header (to_go - here))
    else answering s (used + to_go) (request_length header) ((journalling list).on_oversized registry (totals_of c).counts header) (opened [])

-- the header that a skipping connection holds
abbrev pub header_at : (connection : List ℕ) → List ℕ
header_at connection = take (header_length (drop bytes_at connection)) (drop bytes_at connection)

pub record SkipReady (connection buffer : List ℕ) (used here to_go : ℕ) : Type 0 where
  pub buffer_good : buffer_least ≤ length buffer
  pub used_good : used + here ≤ chunk_most
  pub size_good : length connection ≡ connection_size
  pub long : request_least ≤ length (header_at connection)
  pub header_is : length (header_at connection) ≡ header_length (drop bytes_at connection)
  pub kind : ℕ
  pub number : ℕ
  pub laid : connection ≡ laid_out kind number (header_at connection)
