-- What is claimed of both ends (document 02, "The client's half").
use Rattle.std.specs.Prelude.{ℕ, ◌^◌, ◌<◌, ◌≡◌, true, false, length, take, Option, Some, None, Ok}
use mathlib.Core.List.{List, [], ◌∷◌, ◌++◌, map, flatten}
use Rattle.wire.specs.Choice.{first_of}
use Rattle.wire.specs.Lists.{one_of}
use Rattle.wire.specs.Request.{request_of, request_bytes}
use Rattle.reading.specs.Reader.{read}
use Rattle.reading.specs.Calls.{taken_stream, Call as ReadCall}
use Rattle.reading.specs.Claims.{answers_in as answers_by, left_after, handed_over, enough, taken_in}
use Rattle.messages.specs.Opcodes.{core_opcodes, keystore_opcodes}
use Rattle.messages.specs.Formats.{format_of, content_types}
use Rattle.messages.specs.Operations.{Operation, ping, list_providers, list_opcodes, import_key, destroy_key, export_public_key, verify_signature, operation_of}
use Rattle.stream.specs.Frame.{legal_start, oversized, whole, next}
use Rattle.stream.specs.Parts.{verdict_on}
use Rattle.registry.specs.Registry.{application_named}
use Rattle.registry.specs.WellFormed.{well_formed_registry}
use Rattle.registry.specs.declared.Line.{Line}
use Rattle.judgement.specs.Operations.{refuse}
use Rattle.judgement.specs.Counts.{Counts, no_counts}
use Rattle.judgement.specs.Judgement.{application_of, judgement}
use Rattle.judgement.specs.declared.Status.TheVariants.{InvalidHeader}
use Rattle.stream.specs.Handed.{responses_in}
use Rattle.service.specs.Call.{Call, fresh}
use Rattle.service.specs.Contract.{Ran}
use Rattle.service.specs.Claims.{Runs, answers_in}
use Rattle.client_requests.specs.Writing.{Sender, body_format, request_for, legal_types, legal_sender, field_tests, write_outcome}
use Rattle.client_requests.specs.declared.Types.{Types}
use Rattle.client_responses.specs.Reading.{provider_for, Reply, found, response_reader}
use Rattle.client_responses.specs.declared.Asked.{Asked}
use Rattle.client_responses.specs.State.{state_bytes, waiting, said}
use Rattle.client_responses.specs.Claims.{ReadRun, ran_as, Reads, last_said}
use Rattle.conversation.specs.Conversation.{reply_of, asked_by, result_for, replies_in_turn, Ask, written, asked_for, replies_to}

-- ---- "what the client writes, the service reads as the same request"

-- what the client's code can be asked for: a provider is 32 bits
abbrev pub Small : Operation → Type 0
Small ping = Unit {0}
Small list_providers = Unit {0}
Small (list_opcodes provider) = provider < 2 ^ 32
Small (import_key key) = Unit {0}
Small (destroy_key name) = Unit {0}
Small (export_public_key name) = Unit {0}
Small (verify_signature name hash signature) = Unit {0}

-- a request that is not refused
pub record Writable (types : Types) (sender : Sender) (operation : Operation) : Type 0 where
  pub types_legal : legal_types types ≡ true
  pub sender_legal : legal_sender sender ≡ true
  pub fields_legal : first_of (field_tests (body_format types) operation) ≡ None
  pub small : Small operation

-- the application that the service finds for a sender
unfoldable pub application_for : (registry : List ℕ) → Sender → Option Line
application_for registry None = None
application_for registry (Some name) = application_named registry name

-- framed as one whole request whatever follows it; the header's fields, the operation and the application
pub record ReadAsWritten (session : ℕ) (types : Types) (sender : Sender) (operation : Operation) : Type 0 where
  pub framed : (rest : List ℕ) → next (request_bytes (request_for session types sender operation) ++ rest) ≡ whole (length (request_bytes (request_for session types sender operation)))
  pub within : oversized (request_bytes (request_for session types sender operation)) ≡ false
  pub fields : request_of (request_bytes (request_for session types sender operation)) ≡ request_for session types sender operation
  pub operation_read : operation_of (format_of (body_format types)) (request_for session types sender operation).opcode (request_for session types sender operation).body ≡ Some operation
  pub application : (registry : List ℕ) → application_of registry (request_for session types sender operation) ≡ application_for registry sender

-- for any pair of formats
abbrev pub RequestsRead : Type 0
RequestsRead = (session : ℕ) (types : Types) (sender : Sender) (operation : Operation) → Writable types sender operation → ReadAsWritten session types sender operation

-- the code that writes requests: the n bytes that it says it wrote are the request's, and it is one that is not refused
pub record WroteRequest (ask : Ask) (n : ℕ) (out : List ℕ) : Type 0 where
  pub bytes : take n out ≡ written ask
  pub writable : Writable ask.types ask.sender ask.operation

abbrev pub RequestsWritten : Type 0
RequestsWritten = (ask : Ask) → Small ask.operation → (before : List ℕ) (n : ℕ) (out : List ℕ)
    → record { answer = Ok n; out = out } ≡ write_outcome before ask.session ask.types ask.sender ask.operation → WroteRequest ask n out

-- ---- "what the service writes to it, the client reads as the same response"

-- a request that a client may have sent: whole, with a listed opcode, that opcode's provider and a listed accept type, whatever
-- else is in it. An oversized one asks for format 1, in which it is answered
pub record Sent (request : List ℕ) : Type 0 where
  pub framed : next request ≡ whole (length request)
  pub listed : one_of (core_opcodes ++ keystore_opcodes) (request_of request).opcode ≡ true
  pub provider : (request_of request).provider ≡ provider_for (request_of request).opcode
  pub accepts : one_of content_types (request_of request).accept_type ≡ true
  pub oversized_accepts : oversized request ≡ true → (request_of request).accept_type ≡ 1

-- whatever follows the response, it is found to be this reply, and the reader takes it to its last byte and nothing more
pub record Hears (asked : Asked) (response : List ℕ) (reply : Reply) : Type 0 where
  pub finds : (rest : List ℕ) → found asked (response ++ rest) ≡ Some reply
  pub reads : (rest : List ℕ) → read (response_reader asked) [] (response ++ rest) ≡ record { taken = length response; events = reply ∷ []; kept = response }

-- on any well-formed registry and counts, under any list of keys that we ship; `reply_of` is never a refusal
pub record ResponsesRead : Type 0 where
  -- what is written to a request is read as its result
  pub whole : (list registry : List ℕ) (counts : Counts) → well_formed_registry registry ≡ true → (request : List ℕ) → Sent request
      → Hears (asked_by request) (verdict_on (judgement list) registry counts request).response (reply_of (result_for list registry request))
  -- and what is written to a wrong magic or H as status 17, whatever was asked
  pub bad_start_lem : (list registry : List ℕ) (counts : Counts) (request : List ℕ) → legal_start request ≡ false → (asked : Asked)
      → Hears asked (verdict_on (judgement list) registry counts request).response (reply_of (refuse InvalidHeader))

-- ---- "the two ends together"

-- the calls of a reader of one response: what is left of a chunk is handed over again, with a call for each byte and each chunk
abbrev pub calls_for : (chunks : List (List ℕ)) → List ReadRun → List (ReadCall (Unit {0}))
calls_for chunks runs = handed_over ran_as (enough chunks) (λ _. tt) chunks runs

abbrev pub Listens : (asked : Asked) (chunks : List (List ℕ)) → List ReadRun → Type 0
Listens asked chunks runs = Reads (state_bytes asked []) (calls_for chunks runs) runs

-- the calls took the response and no more, keep it, and the last one says what it was read as
pub record Hearing (asked : Asked) (response : List ℕ) (reply : Reply) (runs : List ReadRun) : Type 0 where
  pub memory : left_after ran_as (state_bytes asked []) runs ≡ state_bytes asked response
  pub taken : taken_in (answers_by ran_as runs) ≡ length response
  pub says : last_said waiting runs ≡ said reply

-- each response, read from the joined responses from it on in any cut
abbrev pub Listening : List Asked → (responses : List (List ℕ)) → List Reply → Type 0
Listening [] [] [] = Unit {0}
Listening [] [] (y ∷ ys) = ⊥
Listening [] (r ∷ rs) ys = ⊥
Listening (asked ∷ more) [] ys = ⊥
Listening (asked ∷ more) (r ∷ rs) [] = ⊥
Listening (asked ∷ more) (r ∷ rs) (y ∷ ys) =
    ((chunks : List (List ℕ)) (runs : List ReadRun) → flatten chunks ≡ flatten (r ∷ rs)
    → Listens asked chunks runs → Hearing asked r y runs)
    × Listening more rs ys

abbrev pub AllSent : (requests : List (List ℕ)) → Type 0
AllSent [] = Unit {0}
AllSent (request ∷ requests) = Sent request × AllSent requests

abbrev pub AllWritable : List Ask → Type 0
AllWritable [] = Unit {0}
AllWritable (ask ∷ asks) = Writable ask.types ask.sender ask.operation × AllWritable asks

-- ONE CLAIM ABOUT BOTH CODES' CONTRACTS: requests, handed to the service's call in any cut from a fresh connection, zero counters
-- and a well-formed registry, under any list of keys that we ship; and the responses, handed to the client's reader in any cut
pub record BothEnds : Type 0 where
  -- the client hears of any requests that it may have sent what the rules give them,
  pub any_sent : (list registry : List ℕ) → well_formed_registry registry ≡ true → (requests : List (List ℕ)) → AllSent requests
      → (calls : List Call) (runs : List Ran) → Runs list (fresh registry) calls runs → taken_stream calls (answers_in runs) ≡ flatten requests
      → Listening (map asked_by requests) (responses_in (answers_in runs)) (replies_in_turn list registry no_counts requests)
  -- and of those that it wrote the results of the rules on its operations
  pub as_written : (list registry : List ℕ) → well_formed_registry registry ≡ true → (asks : List Ask) → AllWritable asks
      → (calls : List Call) (runs : List Ran) → Runs list (fresh registry) calls runs → taken_stream calls (answers_in runs) ≡ flatten (map written asks)
      → Listening (map asked_for asks) (responses_in (answers_in runs)) (replies_to list registry asks)
