-- Requests handed to the service's call in any cut: what it writes to them is, response by response, what the client is to hear.
use mathlib.Core.Path.{◌≡◌, sym, ap, ◌∙◌, subst}
use Prim.Native.Nat.{ℕ}
use mathlib.Core.Bool.{true}
use mathlib.Core.List.{List, map, flatten}
use Rattle.stream.specs.Handed.{responses_in}
use Rattle.stream.specs.Parts.{Parts, parts_of, responses_to}
use Rattle.reading.specs.Calls.{taken_stream}
use Rattle.registry.specs.WellFormed.{well_formed_registry}
use Rattle.judgement.specs.Counts.{no_counts}
use Rattle.judgement.specs.Judgement.{judgement}
use Rattle.stream.specs.Handed.{responses_in}
use Rattle.service.specs.Call.{Call, fresh}
use Rattle.service.specs.Contract.{Ran}
use Rattle.service.specs.Claims.{Runs, answers_in}
use Rattle.service.proofs.CodeDemand3.{code_demand3}
use Rattle.conversation.specs.Conversation.{asked_by, replies_in_turn}
use Rattle.conversation.specs.Claims.{AllSent}
use Rattle.conversation.proofs.HeardLaws.{requests_framed, AllHeard, all_heard}

pub service_heard : (list registry : List ℕ) → well_formed_registry registry ≡ true → (requests : List (List ℕ)) → AllSent requests
    → (calls : List Call) (runs : List Ran) → Runs list (fresh registry) calls runs → taken_stream calls (answers_in runs) ≡ flatten requests
    → AllHeard (map asked_by requests) (responses_in (answers_in runs)) (replies_in_turn list registry no_counts requests)
unfolding responses_to judgement
service_heard list registry good requests s calls runs p all =
    let each = ((code_demand3 list registry).follows calls runs p).each in
    let framed : (parts_of (taken_stream calls (answers_in runs))).answered ≡ requests
    = ap (λ (b : List ℕ). (parts_of b).answered) all ∙ ap (λ (x : Parts). x.answered) (requests_framed requests s) in
    let same : responses_in (answers_in runs) ≡ responses_to (judgement list) registry requests = each ∙ ap (responses_to (judgement list) registry) framed in
    subst (λ (rs : List (List ℕ)). AllHeard (map asked_by requests) rs (replies_in_turn list registry no_counts requests)) (sym same) (all_heard requests s list registry no_counts good)
