-- Every response has at most 629 bytes, where the registry is well formed.
use Rattle.std.proofs.Common.{Option, Some, None}
use mathlib.Core.Path.{◌≡◌, refl, ap}
use mathlib.Core.Bool.{true}
use mathlib.Core.List.{List, [], ◌∷◌, ◌++◌}
use Prim.Native.Nat.{ℕ, ◌+◌, ◌≤◌, ◌<◌}
use native.Mathlib.Omega.{arith}
use lib.ListN.{length, take, get_or}
use Rattle.wire.specs.Numbers.{little_endian_of}
use Rattle.wire.specs.Request.{Request, request_of}
use Rattle.wire.specs.Response.{response_header, response_bytes}
use Rattle.wire.proofs.TestLaws.{either}
use Rattle.stream.specs.Frame.{oversized}
use Rattle.stream.specs.Rules.{Verdict, judge, Outcome, Progress, answer, finish, rules_from, start, rules}
use Rattle.stream.proofs.AccountingLaws.{by_requests}
use Rattle.keys.specs.Key.{data_most}
use Rattle.messages.specs.Formats.{format_of, format_for, content_type_of}
use Rattle.messages.specs.declared.format.BodyFormat.{BodyFormat}
use Rattle.messages.specs.Operations.{output_bytes, nothing, exported}
use Rattle.messages.proofs.FormatsLaws.{nothing_bytes, offset_short, exported_short}
use Rattle.registry.specs.Slots.{free}
use Rattle.registry.specs.WellFormed.{well_formed_registry}
use Rattle.registry.specs.declared.Line.{Line}
use Rattle.registry.proofs.SlotLaws.{ShortEntry}
use Rattle.registry.proofs.WellFormedLaws.{slots_short}
use Rattle.lookup.specs.Lookup.{key_of}
use Rattle.judgement.specs.Status.{status_number}
use Rattle.judgement.specs.Operations.{success, refuse, refuse_at}
use Rattle.judgement.specs.Counts.{Counts}
use Rattle.judgement.specs.Judgement.{application_of, askers_slots, result_of, verdict_of, refused_early, longest_response, judgement}
use Rattle.judgement.specs.declared.Status.{Status}
use Rattle.judgement.proofs.SourceLaws.{source_short}
use Rattle.judgement.proofs.Results.{served_output, by_result}
use Rattle.judgement.proofs.JudgementLaws.{asks, judge_good_lem}

abbrev body_most : ℕ
body_most = 3 + data_most

response_length : (provider session type opcode status : ℕ) (body : List ℕ) → length (response_bytes provider session type opcode status body) ≡ 26 + length body
unfolding response_bytes response_header little_endian_of
response_length provider session type opcode status body = omega arith

-- no response is empty
pub response_some : (provider session type opcode status : ℕ) (body : List ℕ) → 0 < length (response_bytes provider session type opcode status body)
response_some provider session type opcode status body = omega (arith, response_length provider session type opcode status body)

-- ---- the output of an operation

slots_of_asker : (r : List ℕ) → well_formed_registry r ≡ true → (q : Request) (i : ℕ) → ShortEntry (get_or (askers_slots r (application_of r q)) i free)
unfolding askers_slots
slots_of_asker r w q i = go (application_of r q) refl
  where
    go : (o : Option Line) → application_of r q ≡ o → ShortEntry (get_or (askers_slots r o) i free)
    go None e = tt
    go (Some line) e = slots_short r w line (asks r q line e).there i

output_short : (f : BodyFormat) (list r : List ℕ) → well_formed_registry r ≡ true → (q : Request) → length (output_bytes (format_of f) (result_of list r q).output) ≤ body_most
unfolding refuse refuse_at success
output_short f list r w q = by_result list r q (λ x. length (output_bytes (format_of f) x.output) ≤ body_most) (record {
  refused = λ status. omega (arith, ap length (nothing_bytes f));
  broken = λ at. omega (arith, offset_short f at);
  served = λ output h. omega (arith, h f);
  imported = λ slot key v n e. omega (arith, ap length (nothing_bytes f));
  destroyed = λ slot name e. omega (arith, ap length (nothing_bytes f));
  exported = λ source name e. rw (served_output source (exported (key_of source).bytes))
      (omega (arith, exported_short f (key_of source).bytes (source_short name (askers_slots r (application_of r q)) list (slots_of_asker r w q) source e)));
  verified = λ source name e. rw (served_output source nothing) (omega (arith, ap length (nothing_bytes f)));
})

-- ---- one response

early_short : (r : List ℕ) (c : Counts) (p s o : ℕ) (status : Status) → length (refused_early r c p s o status).response ≤ longest_response
unfolding refused_early content_type_of
early_short r c p s o status = omega (arith, response_length p s 1 o (status_number status) [])

pub bad_short : (list r : List ℕ) (c : Counts) → length ((judgement list).on_bad_start r c).response ≤ longest_response
unfolding judgement
bad_short list r c = early_short r c 0 0 0 _

pub oversized_short : (list r : List ℕ) (c : Counts) (header : List ℕ) → length ((judgement list).on_oversized r c header).response ≤ longest_response
unfolding judgement
oversized_short list r c header = early_short r c _ _ _ _

pub judge_short : (list r : List ℕ) (c : Counts) (request : List ℕ) → well_formed_registry r ≡ true → length (judge (judgement list) r c request).response ≤ longest_response
unfolding judge judgement verdict_of
judge_short list r c request w =
    let q : Request = request_of request in
    let f : BodyFormat = format_for q.accept_type in
    let l = response_length q.provider q.session (content_type_of f) q.opcode (status_number (result_of list r q).status) (output_bytes (format_of f) (result_of list r q).output) in
    let s = output_short f list r w q in
    either (λ (v : Verdict (List ℕ) Counts (List ℕ)). length v.response ≤ longest_response) (oversized request)
    (λ _. early_short r c _ _ _ _) (λ _. omega arith)

-- ---- all responses that the rules give

abbrev pub AllShort : List (List ℕ) → Type 0
AllShort [] = Unit {0}
AllShort (x ∷ xs) = (length x ≤ longest_response) × AllShort xs

short_join : (xs : List (List ℕ)) (x : List ℕ) → AllShort xs → length x ≤ longest_response → AllShort (xs ++ (x ∷ []))
short_join [] x a h = (h, tt)
short_join (y ∷ xs) x a h = (a.0, short_join xs x a.1 h)

abbrev Step : ℕ → Progress (List ℕ) Counts (List ℕ) → List ℕ → Outcome (List ℕ) Counts (List ℕ) → Type 0
Step taken p s o = well_formed_registry p.registry ≡ true → AllShort p.responses → AllShort o.responses

short_from : (list : List ℕ) (taken : ℕ) (p : Progress (List ℕ) Counts (List ℕ)) (s : List ℕ) → Step taken p s (rules_from (judgement list) taken p s)
unfolding finish answer
short_from list = by_requests (judgement list) Step
    (λ taken p s u w a. a)
    (λ taken p s h w a. short_join p.responses _ a (bad_short list p.registry p.counts))
    (λ taken p s k w a. a)
    (λ taken p s n o h k rest w a.
    rest (judge_good_lem list p.registry p.counts (take n s) w)
    (short_join p.responses _ a (judge_short list p.registry p.counts (take n s) w)))

pub responses_short : (list registry : List ℕ) → well_formed_registry registry ≡ true → (stream : List ℕ) → AllShort (rules (judgement list) registry stream).responses
unfolding rules start
responses_short list registry w stream = short_from list (length stream) (start (judgement list) registry) stream w tt
