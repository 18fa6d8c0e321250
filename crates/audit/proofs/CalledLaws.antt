-- What the auditor asks of the call: what one call more adds to a list of calls, and how much it writes and takes.
use Rattle.std.proofs.Common.{Option, Some, None}
use mathlib.Core.Path.{◌≡◌, refl, sym, ap, ◌∙◌}
use Prim.Native.Nat.{ℕ, suc, ◌+◌, ◌≤◌, ◌<◌}
use mathlib.Core.List.{List, [], ◌∷◌, ◌++◌, append_assoc, append-nil}
use native.Mathlib.Omega.{arith}
use lib.ListN.{length, take}
use Rattle.reading.specs.Reader.{Reader}
use Rattle.reading.specs.Calls.{Call as CallWith, Answer as AnswerWith, Layout, CallsOutcome as CallsOutcomeWith, call_on, joined_out, taken_stream}
use Rattle.reading.specs.code.Calls.{calls_on}
use Rattle.reading.specs.Buffer.{written}
use Rattle.reading.proofs.CallLaws.{call_facts}
use Rattle.reading.proofs.DeliveryLaws.{call_takes}
use Rattle.stream.specs.Call.{reader}
use Rattle.stream.specs.Handed.{give}
use Rattle.judgement.specs.Judgement.{longest_response}
use Rattle.journal.specs.Journalling.{journalling}
use Rattle.counters.specs.Counters.{counter_most, largest_counter}
use Rattle.service.specs.Call.{Memory, state_in, layout, Call, CallOutcome, CallsOutcome, chunk_most, refusal_of, call_outcome}
use Rattle.service.specs.code.Calls.{calls_outcome}
use Rattle.service.specs.Contract.{Ran, ran_with, refusal_in, outcome_in}
use Rattle.service.proofs.CallLaws.{recorded_effect, passed, refused_outcome, taken_outcome, each_call}

-- ---- one call more

module _ {Mem Kept Event Len Giv Code : Type 0} (R : Reader Kept Event) (L : Layout Mem Kept Event Len Giv) (refusal : Mem → CallWith Len → Option Code) where
  abbrev snoc : Mem → List (CallWith Len) → CallWith Len → CallsOutcomeWith Mem Code Giv
  snoc m calls c =
      let o = calls_on R L refusal m calls in
      let x = call_on R L refusal o.memory c in
      record { answers = o.answers ++ (x.answer ∷ []); memory = x.memory }

  on_snoc : (m : Mem) (calls : List (CallWith Len)) (c : CallWith Len) → calls_on R L refusal m (calls ++ (c ∷ [])) ≡ snoc m calls c
  unfolding calls_on
  on_snoc m [] c = refl
  on_snoc m (d ∷ calls) c =
      let first = call_on R L refusal m d in
      ap (λ (x : CallsOutcomeWith Mem Code Giv). record { answers = first.answer ∷ x.answers; memory = x.memory }) (on_snoc first.memory calls c)

  one_each : (m : Mem) (calls : List (CallWith Len)) → length (calls_on R L refusal m calls).answers ≡ length calls
  unfolding calls_on
  one_each m [] = refl
  one_each m (d ∷ calls) = ap suc (one_each (call_on R L refusal m d).memory calls)

taken_snoc : {Len Code Giv : Type 0} (calls : List (CallWith Len)) (answers : List (AnswerWith Code Giv)) (c : CallWith Len) (a : AnswerWith Code Giv)
    → length answers ≡ length calls → taken_stream (calls ++ (c ∷ [])) (answers ++ (a ∷ [])) ≡ taken_stream calls answers ++ take a.taken c.chunk
unfolding taken_stream
taken_snoc [] [] c a h = append-nil (take a.taken c.chunk)
taken_snoc [] (b ∷ answers) c a h = absurd (omega (arith, h))
taken_snoc (d ∷ calls) [] c a h = absurd (omega (arith, h))
taken_snoc (d ∷ calls) (b ∷ answers) c a h =
    ap (λ (x : List ℕ). take b.taken d.chunk ++ x) (taken_snoc calls answers c a (omega (arith, h)))
    ∙ sym (append_assoc (take b.taken d.chunk) (taken_stream calls answers) (take a.taken c.chunk))

pub out_snoc : {Code Giv Out : Type 0} (out : Giv → List Out) (answers : List (AnswerWith Code Giv)) (a : AnswerWith Code Giv)
    → joined_out out (answers ++ (a ∷ [])) ≡ joined_out out answers ++ out a.given
unfolding joined_out
out_snoc out [] a = append-nil (out a.given)
out_snoc out (b ∷ answers) a =
    ap (λ (x : List _). out b.given ++ x) (out_snoc out answers a) ∙ sym (append_assoc (out b.given) (joined_out out answers) (out a.given))

module _ (list : List ℕ) (m : Memory) (calls : List Call) (c : Call) where
  abbrev before : CallsOutcome
  before = calls_outcome list m calls

  pub one_more : calls_outcome list m (calls ++ (c ∷ [])) ≡ (let x = call_outcome list before.memory c in record { answers = before.answers ++ (x.answer ∷ []); memory = x.memory })
  unfolding calls_outcome call_outcome
  one_more = on_snoc (reader (journalling list)) layout (refusal_of list) m calls c

  pub takes_more : (let x = call_outcome list before.memory c in
      taken_stream (calls ++ (c ∷ [])) (before.answers ++ (x.answer ∷ [])) ≡ taken_stream calls before.answers ++ take x.answer.taken c.chunk)
  unfolding calls_outcome
  takes_more = taken_snoc calls before.answers c (call_outcome list before.memory c).answer (one_each (reader (journalling list)) layout (refusal_of list) m calls)

-- ---- what a call writes

pub record Writes (m : Memory) (call : Call) (o : CallOutcome) : Type 0 where
  pub short : o.answer.given.response.count ≤ longest_response
  pub kept : length o.answer.given.response.buffer ≡ length call.lent.response
  -- where it writes there is room, it takes a byte, and the counter of bytes is low
  pub room : 0 < o.answer.given.response.count → longest_response ≤ length call.lent.response
  pub takes : 0 < o.answer.given.response.count → 1 ≤ o.answer.taken
  pub low : 0 < o.answer.given.response.count → m.counters.taken + o.answer.taken ≤ counter_most + chunk_most
  pub fits : o.answer.taken ≤ length call.chunk

abbrev ran_of : CallOutcome → Ran
ran_of o = ran_with 0 o.answer.taken o.answer.given.response.count o.answer.given.journal.count o.memory o.answer.given.response.buffer o.answer.given.journal.buffer

is_ran : (o : CallOutcome) → o.answer.refusal ≡ None → outcome_in (ran_of o) ≡ o
unfolding refusal_in
is_ran o e = ap (λ (x : Option ℕ). record { answer = record { refusal = x; taken = o.answer.taken; given = o.answer.given }; memory = o.memory }) (sym e)

module _ (list : List ℕ) (m : Memory) (call : Call) where
  when_refused : (code : ℕ) → refusal_of list m call ≡ Some code → Writes m call (call_outcome list m call)
  unfolding layout give written
  when_refused code e =
      rw (refused_outcome list m call code e)
      (record { short = omega arith; kept = refl; room = λ h. absurd (omega (arith, h)); takes = λ h. absurd (omega (arith, h)); low = λ h. absurd (omega (arith, h)); fits = omega arith })

  taken_some : (chunk : List ℕ) → (chunk ≡ [] → ⊥) → 1 ≤ (recorded_effect list m chunk).taken
  taken_some [] h = absurd (h refl)
  taken_some (b ∷ chunk) h = call_takes (reader (journalling list)) (state_in m) b chunk refl

  when_taken : refusal_of list m call ≡ None → Writes m call (call_outcome list m call)
  when_taken e =
      let o : CallOutcome = call_outcome list m call in
      let t = taken_outcome list m call e in
      let d = each_call list m call (ran_of o) (is_ran o (ap (λ (x : CallOutcome). x.answer.refusal) t)) in
      let p = passed list m call e in
      let n : o.answer.taken ≡ (recorded_effect list m call.chunk).taken = ap (λ (x : CallOutcome). x.answer.taken) t in
      let fits : o.answer.taken ≤ length call.chunk = omega (arith, n, (call_facts (reader (journalling list)) (state_in m) call.chunk).fits) in
      let taken : m.counters.taken ≤ counter_most = unfold largest_counter in omega (arith, p.counters_good) in
      record {
        short = d.short;
        kept = d.kept_response;
        room = λ h. omega (arith, p.ready.buffer_good);
        takes = λ h. omega (arith, n, taken_some call.chunk (λ z. omega (arith, h, (d.empty_still z).written)));
        low = λ h. omega (arith, taken, fits, p.ready.chunk_good);
        fits = fits;
      }

  pub writes : Writes m call (call_outcome list m call)
  writes = go (refusal_of list m call) refl
    where
      go : (o : Option ℕ) → refusal_of list m call ≡ o → Writes m call (call_outcome list m call)
      go (Some code) e = when_refused code e
      go None e = when_taken e
