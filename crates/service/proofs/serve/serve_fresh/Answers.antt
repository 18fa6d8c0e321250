use Prim.Native.Nat.{ℕ, ◌-◌, ◌≤◌, ◌<◌, ◌^◌}
use mathlib.Core.Path.{◌≡◌, refl, sym, ap, ◌∙◌}
use mathlib.Core.List.{List, []}
use native.Mathlib.Omega.{arith}
use lib.ListN.{length, take}
use lib.Seq.{length-take-le}
use lib.Dec.{lit<}
use Rattle.stream.specs.Frame.{unfinished, whole, next}
use Rattle.stream.specs.Rules.{State, opened, skipping, closed, judge}
use Rattle.stream.specs.code.Effects.{answering}
use Rattle.reading.specs.Call.{call_rule}
use Rattle.stream.specs.Call.{reader}
use Rattle.stream.proofs.FrameLaws.{next_unfinished, short}
use Rattle.stream.proofs.FramedLaws.{frame_unfinished, frame_bad, frame_skipped, frame_whole, header_part, whole_part}
use Rattle.stream.proofs.ChunkLaws.{call_unfinished, call_bad, call_large, call_whole}
use Rattle.connection.specs.Connection.{held_most, laid_out, connection_bytes, connection_of}
use Rattle.connection.proofs.ConnectionLaws.{held_most_lem, size_there}
use Rattle.connection.proofs.CheckLaws.{well_size}
use Rattle.connection.proofs.StateLaws.{memory_is, header_few}
use Rattle.judgement.specs.Counts.{Counts}
use Rattle.journal.specs.Journalling.{journalling}
use Rattle.counters.specs.Counters.{totals_of}
use Rattle.counters.specs.declared.Counters.{Counters}
use Rattle.service.specs.Call.{chunk_most}
use Rattle.service.proofs.ServeLaws.{state_with, bad_steady, judge_steady, serves_wait, serves_answer}
use Rattle.service.proofs.serve.serve_fresh.Goals as goal

nothing : next [] ≡ unfinished
nothing = next_unfinished [] (short (omega arith))

-- a whole request, read where it lies
fresh_whole : (list k registry : List ℕ) (c : Counters) (chunk : List ℕ) (n : ℕ) → connection_of k ≡ opened [] → next chunk ≡ whole n
    → (let s = state_with (connection_of k) registry c in call_rule (reader (journalling list)) s chunk ≡ answering s n n (judge (journalling list) registry (totals_of c).counts (take n chunk)) (opened []))
fresh_whole list k registry c chunk n e w =
    let s : State (List ℕ) Counts = state_with (connection_of k) registry c in
    call_whole (journalling list) s [] chunk e nothing n w
    ∙ ap (λ (x : ℕ). answering s x n (judge (journalling list) registry (totals_of c).counts (take n chunk)) (opened [])) (let z : n - 0 ≡ n = omega arith in z)

-- the header that an open connection holds becomes one to skip
laid_skipping : (before after header : List ℕ) (to_go : ℕ) → before ≡ connection_bytes (opened header)
    → ((kind n : ℕ) (h : List ℕ) → before ≡ laid_out kind n h → after ≡ connection_bytes (skipping h to_go))
    → after ≡ connection_bytes (skipping header to_go)
unfolding connection_bytes
laid_skipping before after header to_go e set = set 0 (length header) header e

pub append-requires : goal.append-requires
append-requires c =
    let begun = frame_unfinished (next c.args.chunk.now) (sym c.read_frame.ensures ∙ c.in-Unfinished.is) in
    let few = held_most_lem c.args.chunk.now begun in
    (well_size c.args.connection.now c.requires.0.connection_good, omega arith)

pub close-requires : goal.close-requires
close-requires c = well_size _ c.requires.0.connection_good

pub slice_bounds-append-end : goal.slice_bounds-append-end
slice_bounds-append-end c =
    let chunk : List ℕ = c.args.chunk.now in
    let f = frame_skipped (next chunk) _ _ (sym c.read_frame.ensures ∙ c.in-Skipped.is) in
    let part = header_part chunk f.header _ f.is in
    let long = f.long in
    sym (length-take-le _ chunk (omega arith))

pub append-requires-in-Skipped : goal.append-requires-in-Skipped
append-requires-in-Skipped c =
    let chunk : List ℕ = c.args.chunk.now in
    let f = frame_skipped (next chunk) _ _ (sym c.read_frame.ensures ∙ c.in-Skipped.is) in
    let part = header_part chunk f.header _ f.is in
    let few = header_few chunk f.header _ f.is in
    let same : length (take c.in-Skipped.header chunk) ≡ length f.header = ap (λ (n : ℕ). length (take n chunk)) (sym f.long) ∙ ap length part.1 in
    (well_size c.args.connection.now c.requires.0.connection_good, omega arith)

pub set_skipping-requires : goal.set_skipping-requires
unfolding connection_bytes
set_skipping-requires c =
    let chunk : List ℕ = c.args.chunk.now in
    let f = frame_skipped (next chunk) _ _ (sym c.read_frame.ensures ∙ c.in-Skipped.is) in
    let part = header_part chunk f.header _ f.is in
    let few = header_few chunk f.header _ f.is in
    let held : List ℕ = take c.in-Skipped.header chunk in
    let same : length held ≡ length f.header = ap (λ (n : ℕ). length (take n chunk)) (sym f.long) ∙ ap length part.1 in
    ap length (c.append-in-Skipped.ensures [] refl (memory_is c.args.connection.now c.requires.0.connection_good (opened []) c.requires.1))
    ∙ size_there 0 (length held) held (let x : length held ≤ held_most = omega arith in x)

pub slice_bounds-answer_whole-end : goal.slice_bounds-answer_whole-end
slice_bounds-answer_whole-end c =
    let chunk : List ℕ = c.args.chunk.now in
    let w = whole_part chunk _ (frame_whole (next chunk) _ (sym c.read_frame.ensures ∙ c.in-Whole.is)) in
    sym (length-take-le _ chunk w.fits)

pub answer_whole-a-requires : goal.answer_whole-a-requires
answer_whole-a-requires c =
    let chunk : List ℕ = c.args.chunk.now in
    let w = whole_part chunk _ (frame_whole (next chunk) _ (sym c.read_frame.ensures ∙ c.in-Whole.is)) in
    (w.legal, w.long, c.requires.0.registry_good, c.requires.0.buffer_good, c.requires.0.list_good, omega (arith, c.requires.0.journal_good))

pub returns-in-Unfinished : goal.returns-in-Unfinished
returns-in-Unfinished c =
    let a = c.args in
    let chunk : List ℕ = a.chunk.now in
    let k : List ℕ = a.connection.now in
    let begun = frame_unfinished (next chunk) (sym c.read_frame.ensures ∙ c.in-Unfinished.is) in
    λ counters.
    serves_wait a.list.now k a.registry.now counters chunk a.out.now a.journal.now (length chunk) (opened chunk) c.append.new.memory a.out.now a.journal.now c.unanswered.result
    (call_unfinished (journalling a.list.now) (state_with (connection_of k) a.registry.now counters) [] chunk c.requires.1 nothing begun)
    c.requires.0.chunk_good
    c.unanswered.ensures
    (c.append.ensures [] refl (memory_is k c.requires.0.connection_good (opened []) c.requires.1))
    refl
    refl

pub returns-in-BadStart : goal.returns-in-BadStart
returns-in-BadStart c =
    let a = c.args in
    let chunk : List ℕ = a.chunk.now in
    let k : List ℕ = a.connection.now in
    let bad = frame_bad (next chunk) (sym c.read_frame.ensures ∙ c.in-BadStart.is) in
    let answer = c.answer_bad_start-a in
    λ counters.
    serves_answer a.list.now k a.registry.now counters chunk a.out.now a.journal.now (λ x. (journalling a.list.now).on_bad_start a.registry.now x) 6 6 closed
    c.close.new.memory a.registry.now answer.new.out a.journal.now answer.result c.finish.result
    (bad_steady a.list.now a.registry.now)
    (call_bad (journalling a.list.now) (state_with (connection_of k) a.registry.now counters) [] chunk c.requires.1 nothing bad)
    (answer.ensures a.list.now a.registry.now a.journal.now)
    (omega arith)
    (lit< tt)
    c.finish.ensures
    c.close.ensures

pub returns-in-Skipped : goal.returns-in-Skipped
returns-in-Skipped c =
    let a = c.args in
    let chunk : List ℕ = a.chunk.now in
    let k : List ℕ = a.connection.now in
    let f = frame_skipped (next chunk) _ _ (sym c.read_frame.ensures ∙ c.in-Skipped.is) in
    let part : take c.in-Skipped.header chunk ≡ f.header = ap (λ (n : ℕ). take n chunk) (sym f.long) ∙ (header_part chunk f.header _ f.is).1 in
    let held = c.append-in-Skipped.ensures [] refl (memory_is k c.requires.0.connection_good (opened []) c.requires.1) in
    λ counters.
    serves_wait a.list.now k a.registry.now counters chunk a.out.now a.journal.now (length chunk) (skipping f.header c.in-Skipped.missing) c.set_skipping.new.memory a.out.now a.journal.now c.unanswered-in-Skipped.result
    (call_large (journalling a.list.now) (state_with (connection_of k) a.registry.now counters) [] chunk c.requires.1 nothing f.header _ f.is)
    c.requires.0.chunk_good
    c.unanswered-in-Skipped.ensures
    (laid_skipping c.append-in-Skipped.new.memory c.set_skipping.new.memory f.header _ (held ∙ ap (λ (x : List ℕ). connection_bytes (opened x)) part) c.set_skipping.ensures)
    refl
    refl

pub returns-in-Whole : goal.returns-in-Whole
returns-in-Whole c =
    let a = c.args in
    let chunk : List ℕ = a.chunk.now in
    let k : List ℕ = a.connection.now in
    let n : ℕ = c.in-Whole.n in
    let w = frame_whole (next chunk) n (sym c.read_frame.ensures ∙ c.in-Whole.is) in
    let answer = c.answer_whole-a in
    let part = (whole_part chunk n w).fits in
    let few = c.requires.0.chunk_good in
    let fits : n ≤ chunk_most = omega arith in
    let small : n < 2 ^ 40 = omega (arith, fits) in
    λ counters.
    serves_answer a.list.now k a.registry.now counters chunk a.out.now a.journal.now (λ x. judge (journalling a.list.now) a.registry.now x (take n chunk)) n n (opened [])
    k answer.new.registry answer.new.out answer.new.journal answer.result c.finish-in-Whole.result
    (judge_steady a.list.now a.registry.now (take n chunk))
    (fresh_whole a.list.now k a.registry.now counters chunk n c.requires.1 w)
    answer.ensures
    fits
    small
    c.finish-in-Whole.ensures
    (memory_is k c.requires.0.connection_good (opened []) c.requires.1)
