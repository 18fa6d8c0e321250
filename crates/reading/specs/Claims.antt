-- What is claimed of calls on a reader in lent memory, for every reader and every code that is called so: types, no proof.
use Rattle.std.specs.Prelude.{◌≡◌, ℕ, zero, suc, ◌+◌, ◌≤◌, Bool, true, false, not, length, take, drop, Option, Some, None, is_some}
use mathlib.Core.List.{List, [], ◌∷◌, map, flatten}
use Rattle.wire.specs.Lists.{all}
use Rattle.reading.specs.Reader.{Reader, Reading}
use Rattle.reading.specs.Calls.{Call, Answer, Layout, CallOutcome, CallsOutcome, call_on, leaving, joined_out, taken_stream, answers_by}

-- ---- calls of code; `Ran` is what one returned and left, and `outcome` reads it

module _ {Memory Given Code Ran : Type 0} (outcome : Ran → CallOutcome Memory Code Given) where
  abbrev pub answers_in : List Ran → List (Answer Code Given)
  answers_in [] = []
  answers_in (r ∷ runs) = (outcome r).answer ∷ answers_in runs

  abbrev pub left_after : Memory → List Ran → Memory
  left_after m [] = m
  left_after m (r ∷ runs) = left_after (outcome r).memory runs

  abbrev pub ran_outcome : Memory → List Ran → CallsOutcome Memory Code Given
  ran_outcome m runs = record { answers = answers_in runs; memory = left_after m runs }

module _ {Memory Lent Given Code Ran : Type 0} (outcome : Ran → CallOutcome Memory Code Given) where
  -- ANY LIST OF CALLS: each meets its contract on the memory that the one before left
  abbrev pub Runs : (Contract : Memory → Call Lent → Ran → Type 0) → Memory → List (Call Lent) → List Ran → Type 0
  Runs Contract m [] [] = Unit {0}
  Runs Contract m [] (r ∷ runs) = ⊥
  Runs Contract m (call ∷ calls) [] = ⊥
  Runs Contract m (call ∷ calls) (r ∷ runs) = Contract m call r × Runs Contract (outcome r).memory calls runs

  -- the calls of a caller that hands over what is left of a chunk again, as the code says how many bytes it took: at most
  -- `most`, and one for each run; `lent k` is what else is lent when k more may follow
  abbrev pub handed_over : (most : ℕ) (lent : ℕ → Lent) (chunks : List (List ℕ)) → List Ran → List (Call Lent)
  handed_over zero lent chunks runs = []
  handed_over (suc most) lent [] runs = []
  handed_over (suc most) lent (chunk ∷ chunks) [] = record { chunk = chunk; lent = lent most } ∷ []
  handed_over (suc most) lent (chunk ∷ chunks) (r ∷ runs) =
      record { chunk = chunk; lent = lent most } ∷ handed_over most lent (leaving (drop (outcome r).answer.taken chunk) chunks) runs

-- ---- what such calls answer, take, give and leave, against an uncut reading

-- no call is refused
abbrev pub none_refused : {Code Given : Type 0} → List (Answer Code Given) → Bool
none_refused answers = all (λ a. not (is_some a.refusal)) answers

-- how many calls are enough: one for each byte and one for each chunk
abbrev pub enough : List (List ℕ) → ℕ
enough chunks = length (flatten chunks) + length chunks

-- how many bytes the calls say that they took
abbrev pub taken_in : {Code Given : Type 0} → List (Answer Code Given) → ℕ
taken_in [] = 0
taken_in (a ∷ answers) = a.taken + taken_in answers

-- what all events say, joined
abbrev pub said_by : {Event Out : Type 0} → (says : Event → List Out) → List Event → List Out
said_by says events = flatten (map says events)

-- `out` finds in what is given for an event what the event says, and nothing in what is given for none
pub record Finds {Memory Kept Event Lent Given Out : Type 0} (R : Reader Kept Event) (L : Layout Memory Kept Event Lent Given) (out : Given → List Out) (says : Event → List Out) : Type 0 where
  pub nothing : (lent : Lent) → out (L.give None lent) ≡ []
  pub event : (s : Kept) (b : ℕ) (e : Event) → (R.byte s b).event ≡ Some e → (lent : Lent) → out (L.give (Some e) lent) ≡ says e

module _ {Memory Kept Event Lent Given Code : Type 0} (R : Reader Kept Event) (uncut : (stream : List ℕ) → Reading Kept Event)
    (L : Layout Memory Kept Event Lent Given) where
  -- WHAT A LIST OF CALLS on a fresh state gives, refused ones among them
  pub record FollowsReader (refusal : Memory → Call Lent → Option Code) (calls : List (Call Lent)) (o : CallsOutcome Memory Code Given) : Type 1 where
    -- each call answers as the uncut reading says
    pub answers : o.answers ≡ answers_by uncut L refusal [] calls
    -- the joined stream of taken bytes has as many as the calls say, and is one that it takes whole,
    pub count : taken_in o.answers ≡ length (taken_stream calls o.answers)
    pub taken : (uncut (taken_stream calls o.answers)).taken ≡ length (taken_stream calls o.answers)
    -- with the events for which the calls gave what they did,
    pub events : {Out : Type 0} (out : Given → List Out) (says : Event → List Out) → Finds R L out says
        → joined_out out o.answers ≡ said_by says (uncut (taken_stream calls o.answers)).events
    -- and keeps what is kept afterwards, as it lies in memory
    pub memory : o.memory ≡ L.store (uncut (taken_stream calls o.answers)).kept
    pub kept : L.load o.memory ≡ (uncut (taken_stream calls o.answers)).kept

  -- WHAT A CALLER HAS in the end that handed over what was left again
  pub record Delivered (chunks : List (List ℕ)) (calls : List (Call Lent)) (o : CallsOutcome Memory Code Given) : Type 1 where
    -- the stream is taken up to the reader's end,
    pub whole : taken_stream calls o.answers ≡ take (uncut (flatten chunks)).taken (flatten chunks)
    -- and events and memory are those of the uncut reading of it, however it was cut
    pub events : {Out : Type 0} (out : Given → List Out) (says : Event → List Out) → Finds R L out says
        → joined_out out o.answers ≡ said_by says (uncut (flatten chunks)).events
    pub memory : o.memory ≡ L.store (uncut (flatten chunks)).kept

-- ---- THE CUT THEOREM

module _ {Memory Kept Event Lent Given Code : Type 0} (R : Reader Kept Event) (begin : Kept) (L : Layout Memory Kept Event Lent Given) (refusal : Memory → Call Lent → Option Code) where
  -- what a reader owes: a fresh state is reachable, and what a byte leaves of a reachable state; a reachable state is loaded as
  -- it was stored, and no fine call on it is refused
  pub record Sound (fine : Call Lent → Bool) (Reachable : Kept → Type 0) : Type 0 where
    pub begins : Reachable begin
    pub goes_on : (s : Kept) (b : ℕ) → Reachable s → R.ended s ≡ false → Reachable (R.byte s b).kept
    pub loads : (s : Kept) → Reachable s → L.load (L.store s) ≡ s
    pub accepts : (s : Kept) (call : Call Lent) → Reachable s → fine call ≡ true → refusal (L.store s) call ≡ None

module _ {Memory Kept Event Lent Given Code Ran : Type 0} (R : Reader Kept Event) (L : Layout Memory Kept Event Lent Given) (refusal : Memory → Call Lent → Option Code)
    (outcome : Ran → CallOutcome Memory Code Given) (Contract : Memory → Call Lent → Ran → Type 0) where
  -- what its code owes: where a reachable state lies, its contract says that the outcome is `call_on`'s
  abbrev pub Meets : (Reachable : Kept → Type 0) → Type 0
  Meets Reachable = (s : Kept) (call : Call Lent) (r : Ran) → Reachable s → Contract (L.store s) call r → outcome r ≡ call_on R L refusal (L.store s) call

  -- what follows for all calls of the code from the memory `fresh` on, against an uncut reading
  pub record Cut (fine : Call Lent → Bool) (fresh : Memory) (uncut : (stream : List ℕ) → Reading Kept Event) : Type 1 where
    -- any calls, refused ones among them, give what it gives for the joined stream of taken bytes;
    pub follows : (calls : List (Call Lent)) (runs : List Ran) → Runs outcome Contract fresh calls runs
        → FollowsReader R uncut L refusal calls (ran_outcome outcome fresh runs)
    -- fine ones are not refused;
    pub accepted : (calls : List (Call Lent)) (runs : List Ran) → Runs outcome Contract fresh calls runs → all fine calls ≡ true → none_refused (answers_in outcome runs) ≡ true
    -- and HOW THE BYTES ARE CUT DOES NOT MATTER: handed over in any chunks, with no call refused, they are taken up to the
    -- reader's end, and what is found and left is what the uncut reading gives for them joined
    pub whole : (most : ℕ) (lent : ℕ → Lent) (chunks : List (List ℕ)) (runs : List Ran) → enough chunks ≤ most
        → (let calls : List (Call Lent) = handed_over outcome most lent chunks runs in
        Runs outcome Contract fresh calls runs → none_refused (answers_in outcome runs) ≡ true → Delivered R uncut L chunks calls (ran_outcome outcome fresh runs))
