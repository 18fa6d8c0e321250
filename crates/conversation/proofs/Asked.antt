-- WHAT THE CLIENT WRITES, THE SERVICE READS AS THE SAME REQUEST: framed as one whole request whatever follows it, the header's
-- fields, the operation, the application.
use Rattle.std.proofs.Common.{Some, None}
use mathlib.Core.Path.{◌≡◌, refl, sym, ap, ◌∙◌}
use Prim.Native.Nat.{ℕ, ◌≤◌}
use mathlib.Core.Bool.{true, false}
use mathlib.Core.List.{List, [], ◌++◌, append-nil}
use native.Mathlib.Omega.{arith}
use borrow.Author.Tests.{eq-eqb, le-leb, le-ltb}
use lib.ListN.{length, length-append}
use Rattle.wire.specs.Request.{magic_number, magic, header_size, content_length, auth_length, request_of, request_bytes}
use Rattle.wire.proofs.RequestLaws.{request_magic, request_size, request_content, request_auth, request_long, request_back}
use Rattle.keys.specs.Names.{key_name_most}
use Rattle.keys.proofs.NameLaws.{legal_short}
use Rattle.keys.proofs.KeyLaws.{legal_data_lem, legal_bits_lem, import_legal}
use Rattle.messages.specs.Formats.{format_of}
use Rattle.messages.specs.Operations.{Operation, ping, list_providers, list_opcodes, import_key, destroy_key, export_public_key, verify_signature, input_of, operation_body}
use Rattle.messages.proofs.OperationLaws.{operation_back}
use Rattle.messages.proofs.FormatsLaws.{lawful, verify_body_least}
use Rattle.client_requests.proofs.JudgeLaws.{name_passed, import_name_passed, import_data_passed, import_bits_passed}
use Rattle.client_requests.proofs.WritingLaws.{auth_short, body_short}
use Rattle.client_requests.specs.Writing.{Sender, body_format, request_for}
use Rattle.client_requests.specs.declared.Types.{Types}
use Rattle.stream.specs.Frame.{content_most, auth_most, legal_start, oversized, whole, next}
use Rattle.stream.proofs.FrameLaws.{next_whole}
use Rattle.judgement.specs.Judgement.{application_of}
use Rattle.conversation.specs.Claims.{Writable, application_for, RequestsRead}
use Rattle.conversation.proofs.Answered.{Brief, brief_fits}

-- ---- the body is short, and the values fit

short_body : (types : Types) (sender : Sender) (operation : Operation) → Writable types sender operation → length (operation_body (format_of (body_format types)) operation) ≤ content_most
short_body types sender operation w = body_short (body_format types) operation w.fields_legal

brief : (types : Types) (sender : Sender) (operation : Operation) → Writable types sender operation → Brief (input_of operation)
brief types sender ping w = tt
brief types sender list_providers w = tt
brief types sender (list_opcodes provider) w = (w.small, tt)
brief types sender (import_key key) w =
    let n = legal_short key_name_most key.name (import_name_passed (body_format types) key w.fields_legal) in
    let d = legal_data_lem key.bytes (import_data_passed (body_format types) key w.fields_legal) in
    let b = legal_bits_lem key.bits (import_legal key.bits (import_bits_passed (body_format types) key w.fields_legal)) in
    (omega arith, (omega arith, (omega arith, tt)))
brief types sender (destroy_key name) w = let n = legal_short key_name_most name (name_passed (body_format types) name w.fields_legal) in (omega arith, tt)
brief types sender (export_public_key name) w = let n = legal_short key_name_most name (name_passed (body_format types) name w.fields_legal) in (omega arith, tt)
brief types sender (verify_signature name hash signature) w =
    let all = short_body types sender (verify_signature name hash signature) w in
    let parts = verify_body_least (body_format types) name hash signature in
    (omega arith, (omega arith, (omega arith, tt)))

-- ---- the claim

module _ (session : ℕ) (types : Types) (sender : Sender) (operation : Operation) (w : Writable types sender operation) where
  abbrev bytes : List ℕ
  bytes = request_bytes (request_for session types sender operation)

  pub legal : (rest : List ℕ) → legal_start (bytes ++ rest) ≡ true
  unfolding legal_start
  legal rest =
      let q = request_for session types sender operation in
      rw (
        eq-eqb (magic (bytes ++ rest)) magic_number (request_magic q rest),
        le-leb 22 (header_size (bytes ++ rest)) (omega (arith, request_size q rest)),
        le-leb (header_size (bytes ++ rest)) 64 (omega (arith, request_size q rest)),
      )

  framed : (rest : List ℕ) → next (bytes ++ rest) ≡ whole (length bytes)
  framed rest =
      let q = request_for session types sender operation in
      let long = request_long q rest in
      let all = length-append bytes rest in
      next_whole (bytes ++ rest) (legal rest) (omega arith) ∙ ap whole long

  within : oversized bytes ≡ false
  unfolding oversized request_for
  within =
      let q = request_for session types sender operation in
      let c = ap content_length (append-nil bytes) in
      let a = ap auth_length (append-nil bytes) in
      rw (
        le-ltb content_most (content_length bytes) (omega (arith, request_content q [], short_body types sender operation w)),
        le-ltb auth_most (auth_length bytes) (omega (arith, request_auth q [], auth_short sender w.sender_legal)),
      )

  fields : request_of bytes ≡ request_for session types sender operation
  unfolding request_for
  fields = ap request_of (sym (append-nil bytes)) ∙ request_back (request_for session types sender operation) [] refl refl

  application : (who : Sender) (registry : List ℕ) → application_of registry (request_for session types who operation) ≡ application_for registry who
  unfolding application_of application_for request_for
  application None registry = refl
  application (Some name) registry = refl

pub read_as_written : RequestsRead
unfolding request_for
read_as_written session types sender operation w = record {
  framed = framed session types sender operation w;
  within = within session types sender operation w;
  fields = fields session types sender operation w;
  operation_read = operation_back (format_of (body_format types)) (lawful (body_format types)) operation (brief_fits (body_format types) (input_of operation) (brief types sender operation w));
  application = application session types sender operation w sender;
}
