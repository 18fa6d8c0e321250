use Prim.Native.Nat.{ℕ, ◌+◌, ◌-◌, ◌≤◌}
use mathlib.Core.Path.{◌≡◌, refl, sym, ap, ap₂, subst, ◌∙◌}
use mathlib.Core.Bool.{true}
use mathlib.Core.List.{List, [], ◌++◌}
use native.Mathlib.Omega.{arith}
use lib.ListN.{length, take, drop}
use lib.Dec.{lit<}
use Rattle.wire.specs.Request.{request_length}
use Rattle.stream.specs.Frame.{legal_start, skipped, whole, next}
use Rattle.stream.specs.Rules.{State, opened, skipping, closed, judge}
use Rattle.stream.specs.code.Effects.{waiting}
use Rattle.stream.proofs.FramedLaws.{frame_unfinished, frame_bad, frame_skipped, frame_whole}
use Rattle.stream.proofs.ChunkLaws.{whole_found}
use Rattle.stream.proofs.GatheredLaws.{length_gathered, after_unfinished, after_bad, after_whole, after_skips, after_skipped}
use Rattle.connection.specs.Connection.{held_most, connection_size, laid_out, connection_bytes, connection_of}
use Rattle.connection.specs.code.State.{state_of}
use Rattle.connection.specs.code.Gather.{held_in, Holding, Gathers}
use Rattle.connection.specs.declared.check.State.TheVariants.{Open}
use Rattle.connection.specs.declared.gather.Gathered.{Gathered}
use Rattle.connection.proofs.ConnectionLaws.{WholeHeader}
use Rattle.connection.proofs.CheckLaws.{well_size}
use Rattle.connection.proofs.GatherLaws.{held_back}
use Rattle.connection.proofs.StateLaws.{state_open, open_holds, open_held, header_whole, header_there, held_fits}
use Rattle.judgement.specs.Counts.{Counts}
use Rattle.journal.specs.Journalling.{journalling}
use Rattle.answer.specs.code.Answers.{AnsweredBy}
use Rattle.answer.specs.declared.Answered.{Answered}
use Rattle.counters.specs.declared.Counters.{Counters}
use Rattle.service.specs.Call.{chunk_most}
use Rattle.service.specs.Contract.{lent_memory}
use Rattle.service.specs.code.Served.{Ready, SkipReady, Carried, finished, header_at, skip_effect, effect_of}
use Rattle.service.specs.declared.Handled.{Handled}
use Rattle.service.proofs.ServeLaws.{state_with, bad_steady, judge_steady, skip_ready, serves_wait, serves_answer, serves_skip}
use borrow.Author.Rules.{rules}
use Rattle.service.proofs.serve.serve_held.Goals as goal

-- n bytes are held in the memory `k`, and with those of the chunk that `g` used they are now in `m`
module _ (list k registry chunk before journal : List ℕ) (n : ℕ) (ready : Ready k registry list chunk before journal) (o : state_of (connection_of k) ≡ Open n) where
  holds : Holding k n
  holds = open_holds k ready.connection_good n (state_open (connection_of k) n o)

  held_is : connection_of k ≡ opened (held_in n k)
  held_is = open_held k ready.connection_good n (state_open (connection_of k) n o)

  module _ (m : List ℕ) (g : Gathered) (G : Gathers (held_in n k) chunk m g) where
    s : Counters → State (List ℕ) Counts
    s c = state_with (connection_of k) registry c

    used_few : g.used ≤ chunk_most
    used_few = let u = G.used in let few = ready.chunk_good in omega arith

    -- the request ends with the bytes that were gathered
    module _ (size : ℕ) (w : next (held_in n k ++ take g.used chunk) ≡ whole size) where
      whole_long : length (held_in n k ++ take g.used chunk) ≡ size
      whole_long = length_gathered (held_in n k) chunk g.used G.used ∙ G.whole size w

      whole_there : take (9 + size - 9) (drop 9 m) ≡ held_in n k ++ take g.used chunk
      whole_there =
          ap₂ (λ (x : ℕ) (y : List ℕ). held_in x y) (let l = whole_long in (let x : 9 + size - 9 ≡ length (held_in n k ++ take g.used chunk) = omega arith in x)) G.memory_is
          ∙ held_back (held_in n k ++ take g.used chunk)

      whole_fits : length m ≡ connection_size → size ≤ held_most
      whole_fits room = let f = held_fits m (held_in n k ++ take g.used chunk) room G.memory_is in let l = whole_long in omega arith

      whole_request : (legal_start (take (9 + size - 9) (drop 9 m)) ≡ true) × (length (take (9 + size - 9) (drop 9 m)) ≡ request_length (take (9 + size - 9) (drop 9 m)))
      whole_request =
          let (legal, long, fits) = whole_found (held_in n k ++ take g.used chunk) size w in
          subst (λ (x : List ℕ). (legal_start x ≡ true) × (length x ≡ request_length x)) (sym whole_there) (legal, whole_long ∙ sym long)

      answers_whole : (c : Counters) (left kept after journal' : List ℕ) (a : Answered) (r : Handled)
          → length m ≡ connection_size
          → AnsweredBy (λ x. judge (journalling list) registry x (take (9 + size - 9) (drop 9 m))) kept before after journal journal' a
          → r ≡ finished g.used size a
          → left ≡ connection_bytes (opened [])
          → Carried c (effect_of list (lent_memory k registry c) chunk) left kept before after journal journal' r
      unfolding s
      answers_whole c left kept after journal' a r room by w' l =
          let few = whole_fits room in
          serves_answer list k registry c chunk before journal (λ x. judge (journalling list) registry x (held_in n k ++ take g.used chunk)) g.used size (opened []) left kept after journal' a r
          (judge_steady list registry (held_in n k ++ take g.used chunk))
          (after_whole (journalling list) (s c) (held_in n k) chunk held_is holds.begun g.used G.used size w (G.whole size w))
          (subst (λ (q : List ℕ). AnsweredBy (λ x. judge (journalling list) registry x q) kept before after journal journal' a) whole_there by)
          used_few (omega (arith, few)) w' l

    -- the bytes that were gathered are the header of a request to skip
    module _ (h : List ℕ) (missing : ℕ) (w : next (held_in n k ++ take g.used chunk) ≡ skipped h missing) where
      header_held : m ≡ laid_out 0 (length h) h
      unfolding connection_bytes
      header_held = G.memory_is ∙ ap (λ (x : List ℕ). connection_bytes (opened x)) (G.header h missing w)

      header_good : WholeHeader h
      header_good = header_whole h missing (ap next (sym (G.header h missing w)) ∙ w)

      skips : SkipReady m before g.used (length chunk - g.used) missing
      skips =
          skip_ready m h before 0 (length h) g.used (length chunk - g.used) missing header_held header_good ready.buffer_good
          (let u = G.used in let few = ready.chunk_good in (let x : g.used + (length chunk - g.used) ≤ chunk_most = omega arith in x))

      answers_skip : (c : Counters) (left after : List ℕ) (r : Handled)
          → Carried c (skip_effect list registry c (header_at m) g.used (length chunk - g.used) missing) left registry before after journal journal r
          → Carried c (effect_of list (lent_memory k registry c) chunk) left registry before after journal journal r
      unfolding s
      answers_skip c left after r done =
          serves_skip list k registry c chunk before journal h g.used (length chunk - g.used) missing left after journal r
          (λ less. after_skips (journalling list) (s c) (held_in n k) chunk held_is holds.begun g.used G.used h missing w less
          ∙ ap (λ (x : ℕ). waiting (s c) x (skipping h (missing - (length chunk - g.used)))) (let u = G.used in (let x : length chunk ≡ g.used + (length chunk - g.used) = omega arith in x)))
          (after_skipped (journalling list) (s c) (held_in n k) chunk held_is holds.begun g.used G.used h missing w)
          (subst (λ (x : List ℕ). Carried c (skip_effect list registry c x g.used (length chunk - g.used) missing) left registry before after journal journal r) (header_there m h 0 (length h) header_held header_good) done)

pub gather-g-requires : goal.gather-g-requires
gather-g-requires c =
    let a = c.args in
    let k : List ℕ = a.connection.now in
    let chunk : List ℕ = a.chunk.now in
    holds a.list.now k a.registry.now chunk a.out.now a.journal.now a.held c.requires.0 c.requires.1

pub close-requires : goal.close-requires
close-requires c = c.gather-g.auto.memory ∙ well_size _ c.requires.0.connection_good

pub skip-requires : goal.skip-requires
skip-requires c =
    let a = c.args in
    let k : List ℕ = a.connection.now in
    let chunk : List ℕ = a.chunk.now in
    let g = c.gather-g in
    let f = frame_skipped _ _ _ (sym g.ensures.frame ∙ c.in-Skipped.is) in
    skips a.list.now k a.registry.now chunk a.out.now a.journal.now a.held c.requires.0 c.requires.1 g.new.memory g.result g.ensures f.header _ f.is

pub overflow_add-end : goal.overflow_add-end
overflow_add-end c =
    let a = c.args in
    let k : List ℕ = a.connection.now in
    let chunk : List ℕ = a.chunk.now in
    let g = c.gather-g in
    let size : ℕ = c.in-Whole.n in
    let w = frame_whole _ size (sym g.ensures.frame ∙ c.in-Whole.is) in
    let few = whole_fits a.list.now k a.registry.now chunk a.out.now a.journal.now a.held c.requires.0 c.requires.1 g.new.memory g.result g.ensures size w (g.auto.memory ∙ well_size k c.requires.0.connection_good) in
    search rules

pub slice_bounds-answer_whole-end : goal.slice_bounds-answer_whole-end
slice_bounds-answer_whole-end c =
    let a = c.args in
    let k : List ℕ = a.connection.now in
    let chunk : List ℕ = a.chunk.now in
    let g = c.gather-g in
    let size : ℕ = c.in-Whole.n in
    let w = frame_whole _ size (sym g.ensures.frame ∙ c.in-Whole.is) in
    let room = g.auto.memory ∙ well_size k c.requires.0.connection_good in
    let few = whole_fits a.list.now k a.registry.now chunk a.out.now a.journal.now a.held c.requires.0 c.requires.1 g.new.memory g.result g.ensures size w room in
    search rules

pub answer_whole-a-requires : goal.answer_whole-a-requires
answer_whole-a-requires c =
    let a = c.args in
    let k : List ℕ = a.connection.now in
    let chunk : List ℕ = a.chunk.now in
    let g = c.gather-g in
    let size : ℕ = c.in-Whole.n in
    let w = frame_whole _ size (sym g.ensures.frame ∙ c.in-Whole.is) in
    let q = whole_request a.list.now k a.registry.now chunk a.out.now a.journal.now a.held c.requires.0 c.requires.1 g.new.memory g.result g.ensures size w in
    (q.0, q.1, c.requires.0.registry_good, c.requires.0.buffer_good, c.requires.0.list_good, omega (arith, c.requires.0.journal_good))

pub reset-requires : goal.reset-requires
reset-requires c = c.gather-g.auto.memory ∙ well_size _ c.requires.0.connection_good

pub returns-in-Unfinished : goal.returns-in-Unfinished
returns-in-Unfinished c =
    let a = c.args in
    let k : List ℕ = a.connection.now in
    let chunk : List ℕ = a.chunk.now in
    let g = c.gather-g in
    let begun = frame_unfinished _ (sym g.ensures.frame ∙ c.in-Unfinished.is) in
    λ counters.
    serves_wait a.list.now k a.registry.now counters chunk a.out.now a.journal.now g.result.used (opened (held_in a.held k ++ take g.result.used chunk)) g.new.memory a.out.now a.journal.now c.unanswered.result
    (after_unfinished (journalling a.list.now) (state_with (connection_of k) a.registry.now counters) (held_in a.held k) chunk (held_is a.list.now k a.registry.now chunk a.out.now a.journal.now a.held c.requires.0 c.requires.1) (holds a.list.now k a.registry.now chunk a.out.now a.journal.now a.held c.requires.0 c.requires.1).begun g.result.used g.ensures.used begun (g.ensures.all begun))
    (used_few a.list.now k a.registry.now chunk a.out.now a.journal.now a.held c.requires.0 c.requires.1 g.new.memory g.result g.ensures) c.unanswered.ensures g.ensures.memory_is refl refl

pub returns-in-BadStart : goal.returns-in-BadStart
returns-in-BadStart c =
    let a = c.args in
    let k : List ℕ = a.connection.now in
    let chunk : List ℕ = a.chunk.now in
    let g = c.gather-g in
    let bad = frame_bad _ (sym g.ensures.frame ∙ c.in-BadStart.is) in
    let answer = c.answer_bad_start-a in
    λ counters.
    serves_answer a.list.now k a.registry.now counters chunk a.out.now a.journal.now (λ x. (journalling a.list.now).on_bad_start a.registry.now x) g.result.used 6 closed
    c.close.new.memory a.registry.now answer.new.out a.journal.now answer.result c.finish.result
    (bad_steady a.list.now a.registry.now)
    (after_bad (journalling a.list.now) (state_with (connection_of k) a.registry.now counters) (held_in a.held k) chunk (held_is a.list.now k a.registry.now chunk a.out.now a.journal.now a.held c.requires.0 c.requires.1) (holds a.list.now k a.registry.now chunk a.out.now a.journal.now a.held c.requires.0 c.requires.1).begun g.result.used g.ensures.used bad (g.ensures.bad bad))
    (answer.ensures a.list.now a.registry.now a.journal.now) (used_few a.list.now k a.registry.now chunk a.out.now a.journal.now a.held c.requires.0 c.requires.1 g.new.memory g.result g.ensures) (lit< tt) c.finish.ensures c.close.ensures

pub returns-in-Skipped : goal.returns-in-Skipped
returns-in-Skipped c =
    let a = c.args in
    let k : List ℕ = a.connection.now in
    let chunk : List ℕ = a.chunk.now in
    let g = c.gather-g in
    let f = frame_skipped _ _ _ (sym g.ensures.frame ∙ c.in-Skipped.is) in
    let skip = c.skip in
    λ counters.
    answers_skip a.list.now k a.registry.now chunk a.out.now a.journal.now a.held c.requires.0 c.requires.1 g.new.memory g.result g.ensures f.header _ f.is counters
    skip.new.connection skip.new.out skip.result (skip.ensures a.list.now a.registry.now a.journal.now counters)

pub returns-in-Whole : goal.returns-in-Whole
returns-in-Whole c =
    let a = c.args in
    let k : List ℕ = a.connection.now in
    let chunk : List ℕ = a.chunk.now in
    let g = c.gather-g in
    let size : ℕ = c.in-Whole.n in
    let w = frame_whole _ size (sym g.ensures.frame ∙ c.in-Whole.is) in
    let answer = c.answer_whole-a in
    λ counters.
    answers_whole a.list.now k a.registry.now chunk a.out.now a.journal.now a.held c.requires.0 c.requires.1 g.new.memory g.result g.ensures size w counters
    c.reset.new.memory answer.new.registry answer.new.out answer.new.journal answer.result c.finish-in-Whole.result
    (g.auto.memory ∙ well_size k c.requires.0.connection_good) answer.ensures c.finish-in-Whole.ensures c.reset.ensures
