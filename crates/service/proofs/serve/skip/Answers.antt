use Prim.Native.Nat.{ℕ, ◌+◌, ◌-◌, ◌≤◌, ◌<◌}
use mathlib.Core.Path.{◌≡◌, refl, sym, ap, subst, ◌∙◌}
use mathlib.Core.List.{List, []}
use native.Mathlib.Omega.{arith}
use lib.ListN.{length, take, drop, length-take, take-append-drop}
use Rattle.wire.specs.Request.{header_length, request_length}
use Rattle.wire.proofs.BufferLaws.{lent}
use Rattle.stream.specs.Rules.{opened, skipping, closed, State}
use Rattle.stream.specs.code.Effects.{answering}
use Rattle.stream.proofs.FrameLaws.{request_length_append}
use Rattle.reading.specs.Call.{Effect}
use Rattle.judgement.specs.Counts.{Counts}
use Rattle.judgement.specs.Judgement.{judgement, refused_early}
use Rattle.journal.specs.Journalling.{journalling}
use Rattle.stream.specs.Handed.{Handed}
use Rattle.answer.specs.code.Answers.{AnsweredBy}
use Rattle.answer.specs.declared.Answered.{Answered}
use Rattle.counters.specs.Counters.{totals_of}
use Rattle.service.specs.code.Served.{header_at, Carried}
use Rattle.service.proofs.ServeLaws.{state_with, carried_wait, carried_answer, skip_waits, skip_answers}
use Rattle.service.specs.Call.{chunk_most}
use Rattle.service.proofs.serve.skip.Goals as goal

-- a whole header stands there
there : (m b : List ℕ) → b ≡ drop 9 m → 28 ≤ length (header_at m) → length (header_at m) ≡ header_length (drop 9 m)
    → (28 ≤ header_length b) × (header_length b ≤ length b)
there m b e long size =
    subst (λ (x : List ℕ). (28 ≤ header_length x) × (header_length x ≤ length x)) (sym e)
    (let t = length-take (header_length (drop 9 m)) (drop 9 m) in (omega arith, omega arith))

pub returns-then-here-to_go : goal.returns-then-here-to_go
returns-then-here-to_go c =
    let a = c.args in
    let m : List ℕ = a.connection.now in
    let less : a.here < a.to_go = omega arith in
    λ list registry journal counters.
    subst (λ (e : Effect (State (List ℕ) Counts) Handed). Carried counters e c.set_skipping.new.memory registry a.out.now a.out.now journal journal c.unanswered.result)
    (sym (skip_waits list registry counters (header_at m) a.used a.here a.to_go less))
    (carried_wait closed registry counters (a.used + a.here) (skipping (header_at m) (a.to_go - a.here)) _ _ _ journal journal _ c.requires.used_good c.unanswered.ensures
    (c.set_skipping.ensures c.requires.kind c.requires.number (header_at m) c.requires.laid) refl refl)

pub answer_skipped-a-requires : goal.answer_skipped-a-requires
answer_skipped-a-requires c =
    let m : List ℕ = c.args.connection.now in
    let h = there m (take (length m - 9) (drop 9 m)) (lent 9 m) c.requires.long c.requires.header_is in
    (h.0, h.1, c.requires.buffer_good)

-- the size of the request is in its header
same_size : (m : List ℕ) → 28 ≤ length (header_at m) → request_length (take (length m - 9) (drop 9 m)) ≡ request_length (header_at m)
same_size m long =
    ap request_length (lent 9 m ∙ sym (take-append-drop (header_length (drop 9 m)) (drop 9 m)))
    ∙ request_length_append (header_at m) (drop (header_length (drop 9 m)) (drop 9 m)) long

-- the answer to what stands there is that to the header
answered_header : (list registry m before after journal : List ℕ) (r : Answered)
    → AnsweredBy (λ k. (journalling list).on_oversized registry k (take (header_length (take (length m - 9) (drop 9 m))) (take (length m - 9) (drop 9 m)))) registry before after journal journal r
    → AnsweredBy (λ k. (journalling list).on_oversized registry k (header_at m)) registry before after journal journal r
answered_header list registry m before after journal r =
    subst (λ (b : List ℕ). AnsweredBy (λ k. (journalling list).on_oversized registry k (take (header_length b) b)) registry before after journal journal r) (lent 9 m)

pub returns : goal.returns
unfolding journalling judgement refused_early
returns c =
    let a = c.args in
    let m : List ℕ = a.connection.now in
    let more : a.to_go ≤ a.here = omega (arith, c) in
    let size : c.request_length-size.result ≡ request_length (header_at m) = c.request_length-size.ensures.0 ∙ same_size m c.requires.long in
    let w = c.answer_skipped-a in
    let used = c.requires.used_good in
    let few : a.used + a.to_go ≤ chunk_most = omega (arith, more, used) in
    λ list registry journal counters.
    subst (λ (e : Effect (State (List ℕ) Counts) Handed). Carried counters e c.reset.new.memory registry a.out.now w.new.out journal journal c.finish.result)
    (ap (λ (n : ℕ). answering (state_with closed registry counters) (a.used + a.to_go) n ((journalling list).on_oversized registry (totals_of counters).counts (header_at m)) (opened [])) size
    ∙ sym (skip_answers list registry counters (header_at m) a.used a.here a.to_go more))
    (carried_answer closed registry counters (λ k. (journalling list).on_oversized registry k (header_at m)) (a.used + a.to_go) c.request_length-size.result (opened [])
    c.reset.new.memory registry a.out.now w.new.out journal journal w.result c.finish.result few c.request_length-size.ensures.1
    (answered_header list registry m a.out.now w.new.out journal w.result (w.ensures list registry journal)) refl refl c.finish.ensures c.reset.ensures)
