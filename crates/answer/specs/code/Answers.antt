-- What an answered request leaves, in the reading copy's terms.
use Rattle.std.specs.Prelude.{ℕ, ◌≡◌, List, [], eqb, Option, Some, None, Result as Tested, Err}
use Rattle.wire.specs.Choice.{when◌then◌else◌, first_of}
use Rattle.wire.specs.Response.{response_bytes}
use Rattle.wire.specs.code.Wrote.{Wrote}
use Rattle.wire.specs.declared.header.Header.{Header}
use Rattle.messages.specs.Formats.{format_of, format_for, content_type_of}
use Rattle.messages.specs.Operations.{output_bytes}
use Rattle.stream.specs.Rules.{Verdict}
use Rattle.stream.specs.Handed.{Handed}
use Rattle.registry.specs.Registry.{slots_of}
use Rattle.registry.specs.declared.Line.{Line}
use Rattle.shipped.specs.Shipped.{keys_in}
use Rattle.judgement.specs.Status.{status_number}
use Rattle.judgement.specs.Operations.{Result, refuse, operated}
use Rattle.judgement.specs.Counts.{Counts, no_counts, count}
use Rattle.judgement.specs.code.Decided.{header_tests, AskerBelow}
use Rattle.judgement.specs.declared.Status.{Status}
use Rattle.judgement.specs.declared.Status.TheVariants.{NotAuthenticated}
use Rattle.answer.specs.declared.Answered.{Answered}

-- the verdict `v` was carried out: its response stands at the front of the buffer `before`, which is now `after`, its record at
-- the front of `journal`, which is now `journal'`, the registry is its own, and `r` counts as it does, whatever the counts are
pub record AnsweredBy (v : Counts → Verdict (List ℕ) Counts Handed) (registry before after journal journal' : List ℕ) (r : Answered) : Type 0 where
  pub response : Wrote (v no_counts).response.response before after r.written
  pub recorded : Wrote (v no_counts).response.recorded journal journal' r.recorded
  pub kept : registry ≡ (v no_counts).registry
  pub counts : (c : Counts) → count c r.asker r.status ≡ (v c).counts
  pub asker : AskerBelow r.asker

-- a request was refused with this status: it is nobody's, counts by its status alone, and has no record
abbrev pub RefusedWith : (provider session type opcode : ℕ) → Status → (before after : List ℕ) → Answered → Type 0
RefusedWith provider session type opcode status before after r =
    (r.status ≡ status) × (r.asker ≡ None) × Wrote (response_bytes provider session type opcode (status_number status) []) before after r.written × (r.recorded ≡ 0)

-- ---- who asks

-- by the first of the header's tests that applies, and else by what the auth bytes say
abbrev pub sender_of : Option Status → Tested (Option Line) Status → Tested (Option Line) Status
sender_of None found = found
sender_of (Some status) found = Err status

-- ---- a request whose header has passed

abbrev pub PassedHeader : Header → Type 0
PassedHeader h = first_of (header_tests h) ≡ None

-- what comes of it for an application
abbrev pub result_for_named : Header → (body registry list : List ℕ) → Line → Result
result_for_named h body registry list line = operated (format_of (format_for h.content_type)) h.opcode body (slots_of registry line) (keys_in list)

-- and for nobody that is named: the keystore is not for them
unfoldable pub result_for_nobody : Header → (body list : List ℕ) → Result
result_for_nobody h body list = when eqb h.provider 1 then refuse NotAuthenticated else operated (format_of (format_for h.content_type)) h.opcode body [] (keys_in list)

-- the result `x` was answered for `who`: its response, with the header's provider, session and opcode, stands at the front of
-- the buffer `before`, which is now `after`
pub record ResultAnswered (h : Header) (x : Result) (who : Option Line) (before after : List ℕ) (r : Answered) : Type 0 where
  pub status : r.status ≡ x.status
  pub asker : r.asker ≡ who
  pub response : Wrote (response_bytes h.provider h.session (content_type_of (format_for h.accept_type)) h.opcode (status_number x.status) (output_bytes (format_of (format_for h.accept_type)) x.output)) before after r.written
