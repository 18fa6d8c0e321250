-- WHAT THE SERVICE WRITES TO ANY REQUEST THAT A CLIENT MAY HAVE SENT, THE CLIENT READS AS THE SAME RESPONSE, on any well-formed
-- registry: status and output, and never a refusal; and so it does the answer with status 17.
use Rattle.std.proofs.Common.{Some}
use mathlib.Core.Path.{◌≡◌, refl, sym, ap, ◌∙◌, subst}
use Prim.Native.Nat.{ℕ, ◌+◌, ◌^◌, ◌≤◌, ◌<◌}
use mathlib.Core.Bool.{Bool, true, false}
use mathlib.Core.List.{List, [], ◌++◌, append-nil}
use native.Mathlib.Omega.{arith}
use borrow.Author.Tests.{ltb-false}
use lib.ListN.{length, take, drop, length-take}
use lib.Dec.{ltb}
use Rattle.wire.specs.Numbers.{field}
use Rattle.wire.specs.Request.{content_length, header_length, Request, request_of}
use Rattle.wire.specs.Response.{response_bytes}
use Rattle.wire.proofs.TestLaws.{or_left, either}
use Rattle.wire.proofs.NumberLaws.{field_part}
use Rattle.wire.proofs.ResponseLaws.{response_long}
use Rattle.messages.specs.Formats.{format_of, format_for, content_type_of}
use Rattle.messages.specs.Operations.{output_bytes, answer_of}
use Rattle.messages.specs.declared.format.BodyFormat.{BodyFormat}
use Rattle.messages.specs.declared.format.BodyFormat.TheVariants.{Protobuf}
use Rattle.messages.proofs.FormatsLaws.{nothing_bytes}
use Rattle.stream.specs.Frame.{content_most, legal_start, oversized}
use Rattle.stream.specs.Rules.{Verdict, judge}
use Rattle.stream.specs.Parts.{verdict_on}
use Rattle.stream.proofs.FrameLaws.{legal_size}
use Rattle.stream.proofs.ChunkLaws.{whole_found}
use Rattle.registry.specs.WellFormed.{well_formed_registry}
use Rattle.judgement.specs.Status.{status_number}
use Rattle.judgement.specs.Counts.{Counts}
use Rattle.judgement.specs.Operations.{Result, refuse}
use Rattle.judgement.specs.Judgement.{refused_early, oversized_status, verdict_of, judgement}
use Rattle.judgement.specs.declared.Status.TheVariants.{InvalidHeader}
use Rattle.judgement.proofs.ResponseLaws.{judge_short}
use Rattle.client_responses.specs.Reading.{response_content_most, body_reply, found}
use Rattle.client_responses.specs.declared.Asked.{Asked}
use Rattle.conversation.specs.Conversation.{reply_of, asked_by, result_for}
use Rattle.conversation.specs.Claims.{Sent, Hears, ResponsesRead}
use Rattle.conversation.proofs.Answered.{header_of, Its, found_whole, invalid_its, its_own, listed_type, Sound, sound_reply}
use Rattle.conversation.proofs.ReadLaws.{response_read}
use Rattle.conversation.proofs.Results.{Bare, refused, result_sound}

-- a response that is for the request is heard as its body says
heard : (asked : Asked) (provider session content_type opcode status : ℕ) (body : List ℕ) → Its asked (header_of provider session content_type opcode status body)
    → length body ≤ response_content_most → Hears asked (response_bytes provider session content_type opcode status body) (body_reply (format_for asked.accept_type) asked.opcode status body)
heard asked provider session content_type opcode status body its short =
    let response : List ℕ = response_bytes provider session content_type opcode status body in
    let finds : (rest : List ℕ) → found asked (response ++ rest) ≡ Some (body_reply (format_for asked.accept_type) asked.opcode status body)
    = λ rest. found_whole asked provider session content_type opcode status body rest its short in
    record {
      finds = finds;
      reads = response_read asked provider session content_type opcode status body its short (body_reply (format_for asked.accept_type) asked.opcode status body) (ap (found asked) (sym (append-nil response)) ∙ finds []);
    }

-- ---- a whole request

module _ (list registry : List ℕ) (counts : Counts) (good : well_formed_registry registry ≡ true) (request : List ℕ) (sent : Sent request) where
  abbrev q : Request
  q = request_of request

  abbrev result : Result
  result = result_for list registry request

  abbrev v : Verdict (List ℕ) Counts (List ℕ)
  v = verdict_on (judgement list) registry counts request

  -- the format that it asks for
  abbrev f : BodyFormat
  f = format_for q.accept_type

  -- the response with this result
  abbrev response : Result → List ℕ
  response r = response_bytes q.provider q.session (content_type_of f) q.opcode (status_number r.status) (output_bytes (format_of f) r.output)

  legal : legal_start request ≡ true
  legal = (whole_found request (length request) sent.framed).0

  -- an oversized one's header has its fields
  same : (at width : ℕ) → at + width ≤ 28 → field at width (take (header_length request) request) ≡ field at width request
  same at width h =
      field_part 0 (header_length request) at width request (omega (arith, legal_size request legal))
      ∙ ap (λ (k : ℕ). field k width request) (let z : 0 + at ≡ at = omega arith in z)

  response_is : v.response ≡ response result
  unfolding verdict_on judge judgement refused_early verdict_of result_for refuse request_of oversized_status format_for content_type_of
  response_is = go (oversized request) refl
    where
      go : (t : Bool) → oversized request ≡ t → v.response ≡ response result
      go true e =
          let one : field 18 1 request ≡ 1 = sent.oversized_accepts e in
          rw (legal, e, same 8 1 (omega arith), same 9 8 (omega arith), same 20 4 (omega arith), same 26 2 (omega arith), one, nothing_bytes Protobuf)
      go false e = rw (legal, e)

  short_output : length (output_bytes (format_of f) result.output) ≤ response_content_most
  unfolding verdict_on
  short_output =
      let s : length v.response ≤ 629 = rw legal (judge_short list registry counts request good) in
      let e = ap length response_is in
      let l = response_long q.provider q.session (content_type_of f) q.opcode (status_number result.status) (output_bytes (format_of f) result.output) [] in
      omega arith

  oversized_bare : Bare (oversized_status request)
  unfolding oversized_status status_number
  oversized_bare = either Bare (ltb content_most (content_length request)) (λ _. (refl, refl, refl)) (λ _. (refl, refl, refl))

  short_body : oversized request ≡ false → length q.body < 2 ^ 32
  unfolding oversized request_of
  short_body e =
      let c : content_length request ≤ content_most = ltb-false _ _ (or_left _ _ e) in
      let l = length-take (content_length request) (drop (header_length request) request) in
      omega arith

  sound : Sound q.opcode result
  unfolding result_for
  sound =
      either (Sound q.opcode) (oversized request)
      (λ _. refused q.opcode (oversized_status request) oversized_bare)
      (λ e. result_sound list registry good q (short_body e))

  hears : Hears (asked_by request) v.response (reply_of result)
  unfolding asked_by
  hears =
      let body : List ℕ = output_bytes (format_of f) result.output in
      let status : ℕ = status_number result.status in
      subst (λ (b : List ℕ). Hears (asked_by request) b (reply_of result)) (sym response_is)
      (subst (Hears (asked_by request) (response result)) (sound_reply f q.opcode result sound)
      (heard (asked_by request) q.provider q.session (content_type_of f) q.opcode status body
      (its_own (asked_by request) q.provider (content_type_of f) status body sent.provider sound.whole (listed_type q.accept_type sent.accepts)) short_output))

-- ---- a wrong magic or H

bad_hears : (list registry : List ℕ) (counts : Counts) (request : List ℕ) → legal_start request ≡ false → (asked : Asked)
    → Hears asked (verdict_on (judgement list) registry counts request).response (reply_of (refuse InvalidHeader))
unfolding verdict_on judgement refused_early body_reply answer_of refuse status_number content_type_of
bad_hears list registry counts request e asked = rw e (heard asked 0 0 1 0 17 [] (invalid_its asked) (omega arith))

pub answer_read : ResponsesRead
answer_read = record { whole = hears; bad_start_lem = bad_hears }
