-- THE TWO ENDS TOGETHER, as one claim about the contracts of both codes: requests handed to the service's call in any cut, and the
-- responses that it wrote, joined and handed to the client's reader in any cut, give the client, request by request, exactly the
-- results of the rules.
use mathlib.Core.Path.{◌≡◌, refl, sym, ap, ap₂, ◌∙◌, subst}
use Prim.Native.Nat.{ℕ}
use mathlib.Core.Bool.{true}
use mathlib.Core.List.{List, [], ◌∷◌, ◌++◌, map, flatten, append-nil}
use native.Mathlib.Omega.{arith}
use lib.ListN.{length, take}
use lib.Seq.{take-append_seam}
use Rattle.reading.specs.Reader.{Reading, read}
use Rattle.reading.specs.Calls.{Call, taken_stream}
use Rattle.reading.specs.Claims.{answers_in as answers_by, enough}
use Rattle.reading.proofs.RunsLaws.{handed_fine}
use Rattle.registry.specs.WellFormed.{well_formed_registry}
use Rattle.judgement.specs.Counts.{no_counts}
use Rattle.stream.specs.Handed.{responses_in}
use Rattle.service.specs.Call.{Call as ServiceCall, fresh}
use Rattle.service.specs.Contract.{Ran}
use Rattle.service.specs.Claims.{Runs, answers_in}
use Rattle.client_responses.specs.Reading.{Reply, found, response_reader}
use Rattle.client_responses.specs.declared.Asked.{Asked}
use Rattle.client_responses.specs.State.{state_bytes, said_of}
use Rattle.client_responses.specs.Claims.{ReadRun, ran_as}
use Rattle.client_responses.proofs.StateLaws.{Listed}
use Rattle.client_responses.proofs.PiecesLaws.{pieces}
use Rattle.conversation.specs.Conversation.{asked_by, replies_in_turn, written, asked_for, replies_to}
use Rattle.conversation.specs.Claims.{Hears, calls_for, Listens, Hearing, Listening, AllSent, BothEnds}
use Rattle.conversation.proofs.HeardLaws.{AllHeard, all_sent, asked_same, replies_same}
use Rattle.conversation.proofs.ServiceLaws.{service_heard}

-- ---- one response, and whatever follows it, in any cut

hearing : (asked : Asked) → Listed asked → (response rest : List ℕ) (reply : Reply) → Hears asked response reply
    → (chunks : List (List ℕ)) (runs : List ReadRun) → flatten chunks ≡ response ++ rest → Listens asked chunks runs
    → Hearing asked response reply runs
hearing asked listed response rest reply h chunks runs e p =
    let r = pieces asked listed in
    let calls : List (Call (Unit {0})) = calls_for chunks runs in
    let fine = r.cut.accepted calls runs p (handed_fine ran_as (λ _. true) (λ _. tt) (λ _ _. refl) (enough chunks) chunks runs) in
    let d = r.cut.whole (enough chunks) (λ _. tt) chunks runs (omega arith) p fine in
    let uncut : read (response_reader asked) [] (flatten chunks) ≡ record { taken = length response; events = reply ∷ []; kept = response }
    = ap (read (response_reader asked) []) e ∙ h.reads rest in
    let stream : taken_stream calls (answers_by ran_as runs) ≡ response
    = d.whole ∙ ap₂ (λ (x : Reading (List ℕ) Reply) (b : List ℕ). take x.taken b) uncut e ∙ take-append_seam response rest in
    record {
      memory = r.kept calls runs p ∙ ap (state_bytes asked) stream;
      taken = (r.cut.follows calls runs p).count ∙ ap length stream;
      says = r.says calls runs p ∙ ap (λ (b : List ℕ). said_of (found asked b)) stream ∙ ap said_of (ap (found asked) (sym (append-nil response)) ∙ h.finds []);
    }

-- ---- the claim

listening : (requests : List (List ℕ)) → AllSent requests → (responses : List (List ℕ)) (replies : List Reply)
    → AllHeard (map asked_by requests) responses replies → Listening (map asked_by requests) responses replies
unfolding asked_by flatten
listening [] s [] [] h = tt
listening [] s [] (y ∷ ys) h = absurd h
listening [] s (r ∷ rs) ys h = absurd h
listening (request ∷ requests) s [] ys h = absurd h
listening (request ∷ requests) s (r ∷ rs) [] h = absurd h
listening (request ∷ requests) (s, ss) (r ∷ rs) (y ∷ ys) (h, hs) = (
  λ chunks runs e p. hearing (asked_by request) (s.listed, s.accepts) r (flatten rs) y h chunks runs e p,
  listening requests ss rs ys hs,
)

any_heard : (list registry : List ℕ) → well_formed_registry registry ≡ true → (requests : List (List ℕ)) → AllSent requests
    → (calls : List ServiceCall) (runs : List Ran) → Runs list (fresh registry) calls runs → taken_stream calls (answers_in runs) ≡ flatten requests
    → Listening (map asked_by requests) (responses_in (answers_in runs)) (replies_in_turn list registry no_counts requests)
any_heard list registry good requests s calls runs p all =
    listening requests s (responses_in (answers_in runs)) (replies_in_turn list registry no_counts requests) (service_heard list registry good requests s calls runs p all)

pub together : BothEnds
unfolding replies_to
together = record {
  any_sent = any_heard;
  as_written = λ list registry good asks w calls runs p all.
      let heard = any_heard list registry good (map written asks) (all_sent asks w) calls runs p all in
      subst (λ (ys : List Reply). Listening (map asked_for asks) (responses_in (answers_in runs)) ys) (replies_same asks w list registry no_counts)
      (subst (λ (xs : List Asked). Listening xs (responses_in (answers_in runs)) (replies_in_turn list registry no_counts (map written asks))) (asked_same asks w) heard);
}
