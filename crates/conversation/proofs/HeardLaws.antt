-- Request by request: what the service answers is what the client hears.
use mathlib.Core.Path.{◌≡◌, refl, sym, ap, ap₂, ◌∙◌}
use Prim.Native.Nat.{ℕ}
use mathlib.Core.Bool.{true, true≢false}
use mathlib.Core.List.{List, [], ◌∷◌, ◌++◌, map, flatten, append-nil}
use native.Mathlib.Omega.{arith}
use lib.ListN.{length, take, drop, length-append}
use lib.Seq.{take-append_seam, drop-append_seam}
use Rattle.wire.specs.Lists.{one_of}
use Rattle.wire.specs.Request.{request_length, Request, request_of}
use Rattle.wire.proofs.TestLaws.{and_right}
use Rattle.messages.specs.Opcodes.{core_opcodes, keystore_opcodes}
use Rattle.messages.specs.Formats.{content_types}
use Rattle.messages.specs.Operations.{Operation, ping, list_providers, list_opcodes, import_key, destroy_key, export_public_key, verify_signature, opcode_of, provider_of}
use Rattle.stream.specs.Frame.{legal_start, whole, next}
use Rattle.stream.specs.Rules.{Verdict, judge}
use Rattle.stream.specs.Parts.{and_before, held_parts, parts_of, verdict_on, responses_from}
use Rattle.stream.proofs.FrameLaws.{short, legal_size, legal_start_append, request_length_append}
use Rattle.stream.proofs.ChunkLaws.{whole_found}
use Rattle.stream.proofs.PartsLaws.{parts_unfinished, parts_whole}
use Rattle.registry.specs.WellFormed.{well_formed_registry}
use Rattle.judgement.specs.Counts.{Counts}
use Rattle.judgement.specs.Operations.{Result}
use Rattle.judgement.specs.Judgement.{result_of, verdict_of, judgement}
use Rattle.judgement.proofs.VerdictLaws.{verdict_kept}
use Rattle.client_requests.specs.Writing.{request_for}
use Rattle.client_responses.specs.Reading.{provider_for, Reply}
use Rattle.client_responses.specs.declared.Asked.{Asked}
use Rattle.conversation.specs.Conversation.{reply_of, asked_by, result_for, replies_in_turn, Ask, written, asked_for, replies_from}
use Rattle.conversation.specs.Claims.{Writable, ReadAsWritten, Sent, Hears, AllSent, AllWritable}
use Rattle.conversation.proofs.Asked.{read_as_written}
use Rattle.conversation.proofs.AnswerLaws.{answer_read}

-- ---- joined requests are framed as they are

pub requests_framed : (requests : List (List ℕ)) → AllSent requests → parts_of (flatten requests) ≡ record { answered = requests; held = []; dropped = [] }
unfolding flatten held_parts and_before
requests_framed [] s = parts_unfinished [] (short (omega arith))
requests_framed (request ∷ requests) (s, ss) =
    let rest : List ℕ = flatten requests in
    let (legal, size, fits) = whole_found request (length request) s.framed in
    let h = legal_size request legal in
    let l : legal_start (request ++ rest) ≡ true = legal_start_append request rest (omega arith) ∙ legal in
    let n : request_length (request ++ rest) ≡ length request = request_length_append request rest (omega arith) ∙ size in
    let a = length-append request rest in
    parts_whole (request ++ rest) l (omega arith)
    ∙ ap (λ (k : ℕ). and_before (take k (request ++ rest)) (parts_of (drop k (request ++ rest)))) n
    ∙ ap₂ (λ (t d : List ℕ). and_before t (parts_of d)) (take-append_seam request rest) (drop-append_seam request rest)
    ∙ ap (and_before request) (requests_framed requests ss)

-- ---- what the client hears

abbrev pub AllHeard : List Asked → (responses : List (List ℕ)) → List Reply → Type 0
AllHeard [] [] [] = Unit {0}
AllHeard [] [] (y ∷ ys) = ⊥
AllHeard [] (r ∷ rs) ys = ⊥
AllHeard (asked ∷ more) [] ys = ⊥
AllHeard (asked ∷ more) (r ∷ rs) [] = ⊥
AllHeard (asked ∷ more) (r ∷ rs) (y ∷ ys) = Hears asked r y × AllHeard more rs ys

pub all_heard : (requests : List (List ℕ)) → AllSent requests → (list registry : List ℕ) (counts : Counts) → well_formed_registry registry ≡ true
    → AllHeard (map asked_by requests) (responses_from (judgement list) registry counts requests) (replies_in_turn list registry counts requests)
unfolding responses_from replies_in_turn
all_heard [] s list registry counts good = tt
all_heard (request ∷ requests) (s, ss) list registry counts good =
    let v : Verdict (List ℕ) Counts (List ℕ) = verdict_on (judgement list) registry counts request in (
      answer_read.whole list registry counts good request s,
      all_heard requests ss list v.registry v.counts (verdict_kept list registry counts request good).0,
    )

-- ---- requests that the client wrote are such requests, and are answered as their operations

provider_known : (operation : Operation) → provider_of operation ≡ provider_for (opcode_of operation)
unfolding one_of
provider_known ping = refl
provider_known list_providers = refl
provider_known (list_opcodes provider) = refl
provider_known (import_key key) = refl
provider_known (destroy_key name) = refl
provider_known (export_public_key name) = refl
provider_known (verify_signature name hash signature) = refl

listed_opcode : (operation : Operation) → one_of (core_opcodes ++ keystore_opcodes) (opcode_of operation) ≡ true
unfolding one_of
listed_opcode ping = refl
listed_opcode list_providers = refl
listed_opcode (list_opcodes provider) = refl
listed_opcode (import_key key) = refl
listed_opcode (destroy_key name) = refl
listed_opcode (export_public_key name) = refl
listed_opcode (verify_signature name hash signature) = refl

module _ (ask : Ask) (w : Writable ask.types ask.sender ask.operation) where
  abbrev q : Request
  q = request_for ask.session ask.types ask.sender ask.operation

  read : ReadAsWritten ask.session ask.types ask.sender ask.operation
  read = read_as_written ask.session ask.types ask.sender ask.operation w

  is_read : request_of (written ask) ≡ q
  unfolding written
  is_read = read.fields

  is_whole : next (written ask) ≡ whole (length (written ask))
  unfolding written
  is_whole = ap next (sym (append-nil (written ask))) ∙ read.framed []

  sent : Sent (written ask)
  unfolding request_for written
  sent = record {
    framed = is_whole;
    listed = ap (λ (r : Request). one_of (core_opcodes ++ keystore_opcodes) r.opcode) is_read ∙ listed_opcode ask.operation;
    provider = ap (λ (r : Request). r.provider) is_read ∙ provider_known ask.operation ∙ sym (ap (λ (r : Request). provider_for r.opcode) is_read);
    accepts = ap (λ (r : Request). one_of content_types r.accept_type) is_read ∙ and_right (one_of content_types ask.types.content) (one_of content_types ask.types.accept) w.types_legal;
    oversized_accepts = λ e. absurd (true≢false (sym e ∙ read.within));
  }

  asked_is : asked_by (written ask) ≡ asked_for ask
  unfolding asked_by asked_for request_for
  asked_is = ap (λ (r : Request). (let x : Asked = record { opcode = r.opcode; session = r.session; accept_type = r.accept_type } in x)) is_read

  result_is : (list registry : List ℕ) → result_for list registry (written ask) ≡ result_of list registry q
  unfolding result_for written
  result_is list registry = rw read.within (ap (result_of list registry) is_read)

  verdict_is : (list registry : List ℕ) (counts : Counts) → verdict_on (judgement list) registry counts (written ask) ≡ verdict_of registry counts q (result_of list registry q)
  unfolding verdict_on judge judgement written
  verdict_is list registry counts =
      rw ((whole_found (written ask) (length (written ask)) is_whole).0, read.within)
      (ap (λ (r : Request). verdict_of registry counts r (result_of list registry r)) is_read)

pub all_sent : (asks : List Ask) → AllWritable asks → AllSent (map written asks)
all_sent [] w = tt
all_sent (ask ∷ asks) (w, ws) = (sent ask w, all_sent asks ws)

pub asked_same : (asks : List Ask) → AllWritable asks → map asked_by (map written asks) ≡ map asked_for asks
asked_same [] w = refl
asked_same (ask ∷ asks) (w, ws) = ap₂ (λ (a : Asked) (rest : List Asked). a ∷ rest) (asked_is ask w) (asked_same asks ws)

pub replies_same : (asks : List Ask) → AllWritable asks → (list registry : List ℕ) (counts : Counts)
    → replies_in_turn list registry counts (map written asks) ≡ replies_from list registry counts asks
unfolding replies_in_turn replies_from
replies_same [] w list registry counts = refl
replies_same (ask ∷ asks) (w, ws) list registry counts =
    ap₂ (λ (r : Result) (v : Verdict (List ℕ) Counts (List ℕ)). reply_of r ∷ replies_in_turn list v.registry v.counts (map written asks))
    (result_is ask w list registry) (verdict_is ask w list registry counts)
    ∙ (let v : Verdict (List ℕ) Counts (List ℕ) = verdict_of registry counts (q ask w) (result_of list registry (q ask w)) in
    ap (λ (rest : List Reply). reply_of (result_of list registry (q ask w)) ∷ rest) (replies_same asks ws list v.registry v.counts))
