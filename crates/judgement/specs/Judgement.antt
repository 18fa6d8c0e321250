-- "Order of judgement on one request".
use Rattle.std.specs.Prelude.{ℕ, Bool, ◌&&◌, not, List, [], ◌∷◌, ◌++◌, length, ltb, eqb, Option, Some, None, is_some}
use Rattle.wire.specs.Choice.{when◌then◌else◌, first_of}
use Rattle.wire.specs.Lists.{one_of}
use Rattle.wire.specs.Request.{content_length, Request, request_of}
use Rattle.wire.specs.Response.{response_bytes}
use Rattle.messages.specs.Formats.{format_of, format_for, content_type_of, content_types}
use Rattle.messages.specs.Operations.{output_bytes}
use Rattle.messages.specs.declared.format.BodyFormat.TheVariants.{Protobuf}
use Rattle.stream.specs.Frame.{content_most}
use Rattle.stream.specs.Rules.{Verdict, Judgement}
use Rattle.registry.specs.Slots.{Entry}
use Rattle.registry.specs.Registry.{application_named, slots_of, changed}
use Rattle.registry.specs.declared.Line.{Line}
use Rattle.shipped.specs.Shipped.{keys_in}
use Rattle.judgement.specs.Status.{status_number}
use Rattle.messages.specs.Opcodes.{core_opcodes, keystore_opcodes, opcodes_of}
use Rattle.judgement.specs.Operations.{Result, refuse, operated}
use Rattle.judgement.specs.Counts.{Counts, no_counts, count_refused, count}
use Rattle.judgement.specs.declared.Status.{Status}
use Rattle.judgement.specs.declared.Status.TheVariants.{WrongProviderId, ContentTypeNotSupported, AcceptTypeNotSupported, WireProtocolVersionNotSupported, ProviderDoesNotExist, OpcodeDoesNotExist, AuthenticationError, AuthenticatorDoesNotExist, InvalidHeader, NotAuthenticated, BodySizeExceedsLimit}

-- ---- the order's first two steps: a wrong start, and an oversized request

-- an empty body of content type 1, and the registry stays
unfoldable pub refused_early : (registry : List ℕ) → Counts → (provider session opcode : ℕ) → Status → Verdict (List ℕ) Counts (List ℕ)
refused_early registry counts provider session opcode status = record {
  response = response_bytes provider session (content_type_of Protobuf) opcode (status_number status) [];
  registry = registry;
  counts = count_refused counts status;
}

-- oversized: 20 if C is too large, else 11
unfoldable pub oversized_status : (header : List ℕ) → Status
oversized_status header = when ltb content_most (content_length header) then BodySizeExceedsLimit else AuthenticationError

-- ---- the order's third step: at the last byte, first that applies

-- the application that the auth bytes name; with auth type 0 there is none
unfoldable pub application_of : (registry : List ℕ) → Request → Option Line
application_of registry q = when eqb q.auth_type 0 then None else application_named registry q.auth

unfoldable pub refusals : (registry : List ℕ) → Request → List (Bool × Status)
refusals registry q =
    (not (eqb q.major 1 && eqb q.minor 0), WireProtocolVersionNotSupported)
    ∷ (not (one_of content_types q.content_type), ContentTypeNotSupported)
    ∷ (not (one_of content_types q.accept_type), AcceptTypeNotSupported)
    ∷ (not (one_of (core_opcodes ++ keystore_opcodes) q.opcode), OpcodeDoesNotExist)
    ∷ (ltb 1 q.provider, ProviderDoesNotExist)
    ∷ (not (one_of (opcodes_of q.provider) q.opcode), WrongProviderId)
    ∷ (ltb 1 q.auth_type, AuthenticatorDoesNotExist)
    ∷ (eqb q.auth_type 0 && ltb 0 (length q.auth), AuthenticationError)
    ∷ (eqb q.auth_type 1 && not (is_some (application_of registry q)), AuthenticationError)
    ∷ (eqb q.provider 1 && eqb q.auth_type 0, NotAuthenticated)
    ∷ []

-- the slots of the application that asks, if there is one
unfoldable pub askers_slots : (registry : List ℕ) → Option Line → List Entry
askers_slots registry None = []
askers_slots registry (Some line) = slots_of registry line

-- the content type says how the body is read
unfoldable pub result_of : (list registry : List ℕ) → Request → Result
result_of list registry q = elim (first_of (refusals registry q)) [
  | Some status ↦ refuse status
  | None ↦ operated (format_of (format_for q.content_type)) q.opcode q.body (askers_slots registry (application_of registry q)) (keys_in list)
]

-- ---- the judgement: a response, the registry and the counts after a request; the list of keys that we ship is a fixed input

unfoldable pub changed_by : (registry : List ℕ) → Option Line → Result → List ℕ
changed_by registry None r = registry
changed_by registry (Some line) r = changed registry line r.change

-- the accept type says how the response's body is written
abbrev pub answer_bytes : Request → Result → List ℕ
answer_bytes q r =
    let format = format_for q.accept_type in
    response_bytes q.provider q.session (content_type_of format) q.opcode (status_number r.status) (output_bytes (format_of format) r.output)

unfoldable pub verdict_of : (registry : List ℕ) → Counts → Request → Result → Verdict (List ℕ) Counts (List ℕ)
verdict_of registry counts q r = record {
  response = answer_bytes q r;
  registry = changed_by registry (application_of registry q) r;
  counts = count counts (application_of registry q) r.status;
}

-- "The longest response has 629 bytes"
abbrev pub longest_response : ℕ
longest_response = 629

unfoldable pub judgement : (list : List ℕ) → Judgement (List ℕ) Counts (List ℕ)
judgement list = record {
  no_counts = no_counts;
  on_bad_start = λ registry counts. refused_early registry counts 0 0 0 InvalidHeader;
  on_oversized = λ registry counts header.
      let q = request_of header in
      refused_early registry counts q.provider q.session q.opcode (oversized_status header);
  on_request = λ registry counts request.
      let q = request_of request in
      verdict_of registry counts q (result_of list registry q);
}
