-- The state's tests, and the step and the verdict by the ways that the code takes.
use Rattle.std.proofs.Common.{Option, Result, Ok, Err}
use mathlib.Core.Path.{◌≡◌, refl, sym, ap, ◌∙◌}
use Prim.Native.Nat.{ℕ, ◌+◌, ◌-◌, ◌≤◌, ◌<◌}
use mathlib.Core.Bool.{Bool, true, false}
use mathlib.Core.List.{List}
use native.Mathlib.Omega.{arith}
use borrow.Author.Tests.{lt-ltb, le-ltb, le-leb, leb-true}
use lib.ListN.{length, drop, length-take, length-drop}
use lib.Dec.{leb}
use Rattle.wire.proofs.TestLaws.{and_left, and_right}
use Rattle.judgement.specs.Judgement.{longest_response}
use Rattle.counters.specs.declared.Counters.{Counters}
use Rattle.service.specs.Call.{CallOutcome}
use Rattle.service.specs.Refusals.{refusal_number}
use Rattle.service.specs.Contract.{lent_memory, call_with, code_number, refusal_in, ran_with, CallContract}
use Rattle.service.specs.declared.Outcome.{Outcome}
use Rattle.service.specs.declared.Refusal.{Refusal}
use Rattle.service.specs.declared.Refusal.TheVariants.{ResponseBufferTooSmall, ChunkTooLong, ConnectionIllFormed, RegistryIllFormed, CounterTooHigh, ListIllFormed, JournalBufferTooSmall}
use Rattle.audit.specs.Audit.{alike}
use Rattle.audit.specs.Step.{Memory, Chunks, audit_memory, chunks_with, StepOutcome, number_most, well_formed_progress, is_pending, left_of, is_found, compare_on, after_call, call_on, refuse_on, step_outcome, verdict_at}
use Rattle.audit.specs.code.Compared.{compared_at, compared_with, still_at, compared_step, code_called, called_step}
use Rattle.audit.specs.Contract.{refusal_of, ran_step}
use Rattle.audit.specs.declared.Progress.{Progress}
use Rattle.audit.specs.declared.Stepped.{Stepped}
use Rattle.audit.specs.declared.Verdict.{Verdict}
use Rattle.audit.specs.declared.Verdict.TheVariants.{Accepted, Wrong}
use Rattle.audit.specs.declared.compare.Compared.{Compared}
use Rattle.audit.proofs.AlikeLaws.{alike_left}

-- ---- a well-formed state

pub record Good (p : Progress) (pending : List ℕ) : Type 0 where
  pub placed : p.place ≤ p.size
  pub held : p.size ≤ length pending
  pub short : p.size ≤ longest_response
  pub numbered : p.number ≤ number_most

pub good : (p : Progress) (pending : List ℕ) → well_formed_progress p pending ≡ true → Good p pending
unfolding well_formed_progress
good p pending e =
    let a = and_right (leb p.place p.size) _ e in
    let b = and_right (leb p.size (length pending)) _ a in
    record {
      placed = leb-true _ _ (and_left (leb p.place p.size) _ e);
      held = leb-true _ _ (and_left (leb p.size (length pending)) _ a);
      short = leb-true _ _ (and_left (leb p.size longest_response) _ b);
      numbered = leb-true _ _ (and_right (leb p.size longest_response) _ b);
    }

pub well_formed_lem : (p : Progress) (pending : List ℕ) → Good p pending → well_formed_progress p pending ≡ true
unfolding well_formed_progress
well_formed_lem p pending g = rw (le-leb _ _ g.placed, le-leb _ _ g.held, le-leb _ _ g.short, le-leb _ _ g.numbered)

module _ (p : Progress) (pending : List ℕ) (g : Good p pending) where
  pub length_left : length (left_of p pending) ≡ p.size - p.place
  length_left =
      let t = length-take (p.size - p.place) (drop p.place pending) in
      let d = length-drop p.place pending in
      omega (arith, g.held)

  -- the place behind the bytes that are alike is in the response
  pub within : (captured : List ℕ) (n : ℕ) → n ≡ alike (left_of p pending) captured → p.place + n ≤ length pending
  within captured n e = omega (arith, length_left, alike_left (left_of p pending) captured, g.placed, g.held)

-- ---- bytes compared

pub compared_is : (p : Progress) (pending captured : List ℕ) (is_last : Bool) (n : ℕ) (isWrong : Bool) → n ≡ alike (left_of p pending) captured
    → isWrong ≡ is_found n (length (left_of p pending)) (length captured) is_last → compared_at p n isWrong ≡ compared_with p pending captured is_last
unfolding compared_with
compared_is p pending captured is_last n isWrong e f =
    ap (λ (t : Bool). compared_at p n t) f
    ∙ ap (λ (k : ℕ). compared_at p k (is_found k (length (left_of p pending)) (length captured) is_last)) e

-- ---- the verdict

module _ (p : Progress) (pending rest : List ℕ) (n : ℕ) (right : p.is_wrong ≡ false) (e : n ≡ alike (left_of p pending) rest) where
  pub verdict_inside : n < length (left_of p pending) → Wrong p.number (p.place + n) ≡ verdict_at p pending rest
  unfolding verdict_at
  verdict_inside h = rw (right, ← e, lt-ltb _ _ h)

  pub verdict_behind : length (left_of p pending) ≤ n → n < length rest → Wrong (p.number + 1) 0 ≡ verdict_at p pending rest
  unfolding verdict_at
  verdict_behind h k = rw (right, ← e, le-ltb _ _ h, lt-ltb _ _ k)

  pub verdict_accepted : length (left_of p pending) ≤ n → length rest ≤ n → Accepted ≡ verdict_at p pending rest
  unfolding verdict_at
  verdict_accepted h k = rw (right, ← e, le-ltb _ _ h, le-ltb _ _ k)

-- ---- the step

module _ (list : List ℕ) (m : Memory) (chunks : Chunks) where
  pub step_refused : well_formed_progress m.progress m.pending ≡ false → step_outcome list m chunks ≡ refuse_on m chunks
  unfolding step_outcome
  step_refused e = rw (e, step_outcome)

  module _ (e : well_formed_progress m.progress m.pending ≡ true) where
    pub step_compares : is_pending m.progress ≡ true → step_outcome list m chunks ≡ compare_on m chunks
    unfolding step_outcome
    step_compares f = rw (e, f, step_outcome)

    pub step_calls : is_pending m.progress ≡ false → step_outcome list m chunks ≡ call_on list m chunks
    unfolding step_outcome
    step_calls f = rw (e, f, step_outcome)

-- ---- the step of the code

-- a call's code says the same refusal as a step's
code_told : (code : Result (Unit {0}) Refusal) → refusal_of (code_called code) ≡ refusal_in (code_number code)
unfolding refusal_of code_number refusal_in refusal_number
code_told (Ok tt) = refl
code_told (Err ResponseBufferTooSmall) = refl
code_told (Err ChunkTooLong) = refl
code_told (Err ConnectionIllFormed) = refl
code_told (Err RegistryIllFormed) = refl
code_told (Err CounterTooHigh) = refl
code_told (Err ListIllFormed) = refl
code_told (Err JournalBufferTooSmall) = refl

module _ (list requests responses connection registry pending journal : List ℕ) (is_last : Bool) (progress : Progress) (counters : Counters) where
  abbrev lent : Memory
  lent = audit_memory (lent_memory connection registry counters) progress pending

  abbrev chunks : Chunks
  chunks = chunks_with requests responses is_last journal

  pub refused_step : well_formed_progress progress pending ≡ false → (s : Stepped) → s ≡ still_at progress counters
      → ran_step s connection registry pending journal ≡ step_outcome list lent chunks
  unfolding refuse_on refusal_of
  refused_step bad s e = ap (λ (x : Stepped). ran_step x connection registry pending journal) e ∙ sym (step_refused list lent chunks bad)

  module _ (fine : well_formed_progress progress pending ≡ true) where
    pub compared_step_lem : is_pending progress ≡ true → (c : Compared) (s : Stepped) → c ≡ compared_with progress pending responses is_last → s ≡ compared_step c counters
        → ran_step s connection registry pending journal ≡ step_outcome list lent chunks
    unfolding compare_on compared_with refusal_of code_number refusal_in
    compared_step_lem now c s e f =
        ap (λ (x : Stepped). ran_step x connection registry pending journal) (f ∙ ap (λ (x : Compared). compared_step x counters) e)
        ∙ sym (step_compares list lent chunks fine now)

    pub called_step_lem : is_pending progress ≡ false → (o : Outcome) (connection' registry' pending' journal' : List ℕ) (s : Stepped)
        → CallContract list (lent_memory connection registry counters) (call_with requests pending journal) (ran_with (code_number o.answer.code) o.answer.taken o.answer.written o.answer.recorded (lent_memory connection' registry' o.counters) pending' journal')
        → s ≡ called_step progress o → ran_step s connection' registry' pending' journal' ≡ step_outcome list lent chunks
    unfolding call_on
    called_step_lem none o connection' registry' pending' journal' s e f =
        let of : CallOutcome → StepOutcome = λ x. record {
          refusal = x.answer.refusal;
          requests = x.answer.taken;
          responses = 0;
          memory = audit_memory x.memory (after_call progress x.answer.given.response.count) x.answer.given.response.buffer;
          journal = x.answer.given.journal.buffer;
        } in
        let with_refusal : Option ℕ → StepOutcome = λ r. record {
          refusal = r;
          requests = o.answer.taken;
          responses = 0;
          memory = audit_memory (lent_memory connection' registry' o.counters) (after_call progress o.answer.written) pending';
          journal = journal';
        } in
        ap (λ (x : Stepped). ran_step x connection' registry' pending' journal') f ∙ ap with_refusal (code_told o.answer.code) ∙ ap of e
        ∙ sym (step_calls list lent chunks fine none)
