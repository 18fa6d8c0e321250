-- Laws of a request that is written: the header and the auth bytes around its body, and the whole outcome.
use Rattle.std.proofs.Common.{Some, None, Ok, Err}
use Prim.Native.Nat.{ℕ, ◌+◌, ◌-◌, ◌≤◌}
use native.Mathlib.Omega.{arith}
use mathlib.Core.Path.{◌≡◌, refl, sym, ap, ◌∙◌}
use mathlib.Core.Bool.{true}
use mathlib.Core.List.{List, ◌++◌, append_assoc}
use borrow.Author.Tests.{leb-true}
use borrow.Rule.Slice.PartMut.{put_mid}
use lib.ListN.{length, take, drop, length-append, take-append-drop}
use lib.Seq.{drop-drop, length-take-le, take_at, drop_at, drop-append-add}
use Rattle.wire.specs.Choice.{first_of}
use Rattle.wire.specs.Lists.{over}
use Rattle.wire.specs.Numbers.{little_endian_of}
use Rattle.wire.specs.Request.{request_least, content_most, request_header, request_bytes}
use Rattle.wire.specs.code.Wrote.{Wrote}
use Rattle.wire.proofs.ListLaws.{length_part}
use Rattle.wire.proofs.BufferLaws.{onward, wrote_on}
use Rattle.keys.specs.Names.{application_name_most, key_name_most}
use Rattle.keys.specs.Key.{Key, data_most}
use Rattle.keys.proofs.NameLaws.{legal_short}
use Rattle.keys.proofs.KeyLaws.{legal_data_lem}
use Rattle.messages.specs.Format.{message_bytes}
use Rattle.messages.specs.Formats.{format_of, format_for}
use Rattle.messages.specs.Operations.{Operation, ping, list_providers, list_opcodes, import_key, destroy_key, export_public_key, verify_signature, opcode_of, provider_of, operation_body}
use Rattle.messages.specs.declared.format.BodyFormat.{BodyFormat}
use Rattle.messages.proofs.FormatsLaws.{provider_body_short, bytes_body_short, key_body_short}
use Rattle.client_requests.specs.Writing.{Sender, auth_type_of, auth_of, body_format, legal_sender, field_tests, request_buffer_least, request_around, request_for, write_tests, write_outcome}
use Rattle.client_requests.specs.declared.Types.{Types}
use Rattle.client_requests.specs.declared.WriteRefusal.{WriteRefusal}
use Rattle.client_requests.proofs.JudgeLaws.{passed, name_passed, import_name_passed, import_data_passed, body_passed}

-- ---- the sender's auth bytes

pub auth_short : (sender : Sender) → legal_sender sender ≡ true → length (auth_of sender) ≤ application_name_most
auth_short None e = omega arith
auth_short (Some name) e = legal_short application_name_most name e

-- ---- how long a legal body is at most

pub body_short : (format : BodyFormat) (operation : Operation) → first_of (field_tests format operation) ≡ None → length (operation_body (format_of format) operation) ≤ content_most
unfolding operation_body message_bytes
body_short format ping e = omega arith
body_short format list_providers e = omega arith
body_short format (list_opcodes provider) e = omega (arith, provider_body_short format provider)
body_short format (import_key key) e =
    let name = legal_short key_name_most key.name (import_name_passed format key e) in
    let bytes = legal_data_lem key.bytes (import_data_passed format key e) in
    omega (arith, key_body_short format key)
body_short format (destroy_key name) e = omega (arith, bytes_body_short format name, legal_short key_name_most name (name_passed format name e))
body_short format (export_public_key name) e = omega (arith, bytes_body_short format name, legal_short key_name_most name (name_passed format name e))
body_short format (verify_signature name hash signature) e = leb-true _ _ (body_passed format name hash signature e)

-- ---- what the code needs where every test is passed

module _ (out : List ℕ) (types : Types) (sender : Sender) (operation : Operation) (e : first_of (write_tests out types sender operation) ≡ None) where
  pub room_passed : request_buffer_least ≤ length out
  room_passed = (passed out types sender operation e).room

  pub sender_passed : legal_sender sender ≡ true
  sender_passed = (passed out types sender operation e).legal

  pub short_passed : length (operation_body (format_of (format_for types.content)) operation) ≤ content_most
  short_passed = body_short (body_format types) operation (passed out types sender operation e).fields

module _ (out : List ℕ) (types : Types) (sender : Sender) where
  pub name_short : (name : List ℕ) → first_of (write_tests out types sender (destroy_key name)) ≡ None → length name ≤ key_name_most
  name_short name e = legal_short key_name_most name (name_passed (body_format types) name (passed out types sender (destroy_key name) e).fields)

  pub key_short : (key : Key) → first_of (write_tests out types sender (import_key key)) ≡ None → (length key.name ≤ key_name_most) × (length key.bytes ≤ data_most)
  key_short key e =
      let fields = (passed out types sender (import_key key) e).fields in
      (legal_short key_name_most key.name (import_name_passed (body_format types) key fields), legal_data_lem key.bytes (import_data_passed (body_format types) key fields))

-- ---- around a body that is there

header_length_lem : (provider session content_type accept_type auth_type content_length auth_length opcode : ℕ)
    → length (request_header provider session content_type accept_type auth_type content_length auth_length opcode) ≡ request_least
unfolding request_header little_endian_of
header_length_lem provider session content_type accept_type auth_type content_length auth_length opcode = refl

-- the front was written over, and what stands behind it is counted in
behind_too : (front l m : List ℕ) (k size : ℕ) → k + size ≤ length l → Wrote front l m k → Wrote (front ++ take size (drop k l)) l m (k + size)
behind_too front l m k size room w =
    let part : List ℕ = take size (drop k l) in
    let long : length (front ++ part) ≡ k + size = omega (arith, length-append front part, length_part l k size room, w.count) in
    record {
      count = sym long;
      bytes = rw (long, append_assoc, ← drop-drop size k l, take-append-drop, w.count) w.bytes;
    }

pub around_on : (session : ℕ) (types : Types) (sender : Sender) (provider opcode size : ℕ) (l : List ℕ) {m n : List ℕ} {k r : ℕ} → request_least + size ≤ length l
    → Wrote (request_header provider session types.content types.accept (auth_type_of sender) size (length (auth_of sender)) opcode) l m k
    → Wrote (auth_of sender) (take (length m - (k + size)) (drop (k + size) m)) n r
    → Wrote (request_bytes (request_around session types sender provider opcode (take size (drop request_least l)))) l (put_mid (k + size) (length m - (k + size)) m n) (k + size + r)
unfolding request_bytes
around_on session types sender provider opcode size l {m} {n} {k} {r} room x y =
    let start : k ≡ request_least = x.count ∙ header_length_lem provider session types.content types.accept (auth_type_of sender) size (length (auth_of sender)) opcode in
    let z = wrote_on (behind_too _ l m k size (omega arith) x) y in
    rw (start, length_part l request_least size room, ← append_assoc) (rw start at z)

request_length_lem : (session : ℕ) (types : Types) (sender : Sender) (provider opcode : ℕ) (body : List ℕ)
    → length (request_bytes (request_around session types sender provider opcode body)) ≡ request_least + (length body + length (auth_of sender))
unfolding request_bytes
request_length_lem session types sender provider opcode body = simp (length-append, header_length_lem)

-- ---- the whole outcome

-- what was written over the front before is written over
over_more : (s p d : List ℕ) → length p ≤ length s → over s (over p d) ≡ over s d
over_more s p d h =
    let j : ℕ = length s - length p in
    let n : length s ≡ length p + j = omega arith in
    ap (λ (l : List ℕ). s ++ l) (rw (n, drop-append-add p (drop (length p) d) j) (drop-drop j (length p) d))

module _ (out : List ℕ) (session : ℕ) (types : Types) (sender : Sender) (operation : Operation) where
  pub refused_outcome : (refusal : WriteRefusal) → first_of (write_tests out types sender operation) ≡ Some refusal
      → record { answer = Err refusal; out = out } ≡ write_outcome out session types sender operation
  unfolding write_outcome
  refused_outcome refusal e = rw (e, write_outcome)

  abbrev Whole : (body : List ℕ) (before after : List ℕ) (r : ℕ) → Type 0
  Whole body before after r = Wrote (request_bytes (request_around session types sender (provider_of operation) (opcode_of operation) body)) before after r

  pub written_outcome : {after : List ℕ} {r : ℕ} → first_of (write_tests out types sender operation) ≡ None
      → Whole (operation_body (format_of (body_format types)) operation) out after r
      → record { answer = Ok r; out = after } ≡ write_outcome out session types sender operation
  unfolding write_outcome request_for
  written_outcome e w = rw (e, write_outcome, w.count, w.bytes)

  -- a body was written behind the header's place before
  pub body_outcome : {body after : List ℕ} {size r : ℕ} → first_of (write_tests out types sender operation) ≡ None
      → Wrote (operation_body (format_of (body_format types)) operation) (take (length out - request_least) (drop request_least out)) body size
      → (let l : List ℕ = put_mid request_least (length out - request_least) out body in Whole (take size (drop request_least l)) l after r)
      → record { answer = Ok r; out = after } ≡ write_outcome out session types sender operation
  body_outcome {body} {after} {size} {r} e b w =
      let room : request_buffer_least ≤ length out = room_passed out types sender operation e in
      let written : List ℕ = operation_body (format_of (body_format types)) operation in
      let front : List ℕ = take request_least out in
      let rest : List ℕ = drop (length (front ++ written)) out in
      let l : List ℕ = put_mid request_least (length out - request_least) out body in
      let long : length front ≡ request_least = length-take-le request_least out (omega arith) in
      let whole : out ≡ over front out = rw long (sym (take-append-drop request_least out)) in
      let there : l ≡ over (front ++ written) out = onward front written out out body request_least (sym long) whole b.bytes in
      let part : take size (drop request_least l) ≡ written
      = ap (λ (x : List ℕ). take size (drop request_least x)) (there ∙ append_assoc front written rest)
      ∙ ap (take size) (drop_at front (written ++ rest) request_least long)
      ∙ take_at written rest size (sym b.count) in
      let w' : Whole written l after r = rw part at w in
      let bytes : List ℕ = request_bytes (request_around session types sender (provider_of operation) (opcode_of operation) written) in
      let covers : length (front ++ written) ≤ length bytes
      = omega (arith, long, length-append front written, request_length_lem session types sender (provider_of operation) (opcode_of operation) written) in
      written_outcome e (record {
        count = w'.count;
        bytes = w'.bytes ∙ ap (over bytes) there ∙ over_more bytes (front ++ written) out covers;
      })

-- ---- A REQUEST THAT IS WRITTEN IS SHORT: 28 bytes, at most 4,096 of body, at most 64 of auth

abbrev pub request_most : ℕ
request_most = request_least + (content_most + application_name_most)

pub request_short : (out : List ℕ) (session : ℕ) (types : Types) (sender : Sender) (operation : Operation) → first_of (write_tests out types sender operation) ≡ None
    → length (request_bytes (request_for session types sender operation)) ≤ request_most
unfolding request_for
request_short out session types sender operation e =
    let p = passed out types sender operation e in
    omega (
      arith,
      request_length_lem session types sender (provider_of operation) (opcode_of operation) (operation_body (format_of (body_format types)) operation),
      short_passed out types sender operation e,
      auth_short sender p.legal,
    )

-- so the shortest buffer has room
pub request_fits : (out : List ℕ) (session : ℕ) (types : Types) (sender : Sender) (operation : Operation) → first_of (write_tests out types sender operation) ≡ None
    → length (request_bytes (request_for session types sender operation)) ≤ length out
request_fits out session types sender operation e = omega (arith, request_short out session types sender operation e, (passed out types sender operation e).room)
