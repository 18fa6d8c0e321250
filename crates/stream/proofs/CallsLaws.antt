-- DEMAND 3 for every judgement, every way of keeping its state in memory, of giving what it hands out and of refusing calls: a
-- list of calls gives what the rules give for the joined stream of taken bytes, uncut. It is the cut theorem at the rules' reader.
use Rattle.std.proofs.Common.{Option, None}
use mathlib.Core.Path.{◌≡◌, sym, ap, ◌∙◌, subst}
use Prim.Native.Nat.{ℕ, ◌+◌}
use mathlib.Core.Bool.{true}
use mathlib.Core.List.{List, [], ◌++◌, flatten}
use lib.ListN.{length, take}
use Rattle.reading.specs.Reader.{Reading, read}
use Rattle.reading.specs.Call.{call_rule}
use Rattle.reading.specs.Calls.{Call, took, Layout, CallsOutcome, call_on, joined_out, taken_stream, answers_by}
use Rattle.reading.specs.code.Calls.{calls_on}
use Rattle.reading.specs.Claims.{said_by, Finds, FollowsReader}
use Rattle.reading.proofs.CallsLaws.{Lawful as LoadsBack, follows_reader, call_took}
use Rattle.stream.specs.Rules.{Judgement, held_bytes, State, Outcome, rules}
use Rattle.stream.specs.Call.{well_formed, reader, fresh, by_rules}
use Rattle.stream.specs.Parts.{joined, parts_of, responses_to}
use Rattle.stream.proofs.RulesLaws.{rules_fresh}
use Rattle.stream.proofs.CallLaws.{rules_read}
use Rattle.stream.proofs.AccountingLaws.{rules_accounted}
use Rattle.stream.proofs.PartsLaws.{parts_joined, rules_from_stream}
use Rattle.stream.proofs.KeptLaws.{rules_connection}

-- a state with a well-formed connection that is stored is loaded as itself
unfoldable pub Lawful : {Memory Reg Count Out Lent Given : Type 0} → Layout Memory (State Reg Count) Out Lent Given → Type 0
Lawful L = (s : State _ _) → well_formed s.connection ≡ true → L.load (L.store s) ≡ s

module _ {Memory Reg Count Out Lent Given Code : Type 0} (J : Judgement Reg Count Out) (L : Layout Memory (State Reg Count) Out Lent Given) (lawful : Lawful L)
    (refusal : Memory → Call Lent → Option Code) (registry : Reg) where
  pub loads_back : LoadsBack (read (reader J) (fresh J registry)) L
  unfolding Lawful LoadsBack by_rules
  loads_back =
      subst (λ (uncut : List ℕ → Reading (State Reg Count) Out). LoadsBack uncut L) (sym (rules_read J registry))
      (λ seen. lawful (rules J registry seen).state (rules_connection J registry seen))

  -- what the rules have before the first byte lies in memory as what is fresh
  pub fresh_memory : L.store (rules J registry []).state ≡ L.store (fresh J registry)
  fresh_memory = ap (λ (o : Outcome Reg Count Out). L.store o.state) (rules_fresh J registry)

  -- one call that is not refused, after any stream
  pub rules_took : (seen : List ℕ) (call : Call Lent) → refusal (L.store (rules J registry seen).state) call ≡ None
      → (let effect = call_rule (reader J) (rules J registry seen).state call.chunk in
      call_on (reader J) L refusal (L.store (rules J registry seen).state) call
      ≡ record { answer = took L effect.taken effect.event call; memory = L.store (rules J registry (seen ++ take effect.taken call.chunk)).state })
  unfolding by_rules
  rules_took seen call =
      subst (λ (uncut : List ℕ → Reading (State Reg Count) Out). refusal (L.store (uncut seen).kept) call ≡ None
      → (let effect = call_rule (reader J) (uncut seen).kept call.chunk in
      call_on (reader J) L refusal (L.store (uncut seen).kept) call
      ≡ record { answer = took L effect.taken effect.event call; memory = L.store (uncut (seen ++ take effect.taken call.chunk)).kept }))
      (rules_read J registry) (call_took (reader J) (fresh J registry) L loads_back refusal seen call)

  -- For every list of calls on a fresh connection and zero totals:
  pub record FollowsRules (calls : List (Call Lent)) (o : CallsOutcome Memory Code Given) : Type 1 where
    -- each call answers as the rules of the uncut stream say
    pub answers : o.answers ≡ answers_by (by_rules J registry) L refusal [] calls
    -- what the calls gave, joined, is what the rules hand out on the joined stream of taken bytes
    pub outs : {X : Type 0} (out : Given → List X) (says : Out → List X) → Finds (reader J) L out says
        → joined_out out o.answers ≡ said_by says (rules J registry (taken_stream calls o.answers)).responses
    -- and so are connection, registry and totals, as they lie in memory
    pub memory : o.memory ≡ L.store (rules J registry (taken_stream calls o.answers)).state
    -- bytes taken are the stream's length, and those of answered requests, of the unfinished one and those dropped
    pub taken : (L.load o.memory).totals.taken ≡ length (taken_stream calls o.answers)
    pub accounted : (L.load o.memory).totals.taken
        ≡ (L.load o.memory).totals.answered + held_bytes (L.load o.memory).connection + (L.load o.memory).totals.dropped
    -- each counted from the stream itself: it is its parts joined, which framing alone tells, and these are their lengths
    pub parts : taken_stream calls o.answers ≡ joined (parts_of (taken_stream calls o.answers))
    pub answered : (L.load o.memory).totals.answered ≡ length (flatten (parts_of (taken_stream calls o.answers)).answered)
    pub held : held_bytes (L.load o.memory).connection ≡ length (parts_of (taken_stream calls o.answers)).held
    pub dropped : (L.load o.memory).totals.dropped ≡ length (parts_of (taken_stream calls o.answers)).dropped
    -- the rules have one response for each answered request, in their order
    pub each : (rules J registry (taken_stream calls o.answers)).responses ≡ responses_to J registry (parts_of (taken_stream calls o.answers)).answered

  pub follows_rules : (calls : List (Call Lent)) → FollowsRules calls (calls_on (reader J) L refusal (L.store (fresh J registry)) calls)
  unfolding by_rules
  follows_rules calls =
      let o : CallsOutcome Memory Code Given = calls_on (reader J) L refusal (L.store (fresh J registry)) calls in
      let f : FollowsReader (reader J) (by_rules J registry) L refusal calls o
      = subst (λ (uncut : List ℕ → Reading (State Reg Count) Out). FollowsReader (reader J) uncut L refusal calls o) (rules_read J registry)
      (follows_reader (reader J) (fresh J registry) L loads_back refusal calls) in
      let stream : List ℕ = taken_stream calls o.answers in
      let a = rules_accounted J registry stream in
      let s = rules_from_stream J registry stream in
      let state : L.load o.memory ≡ (rules J registry stream).state = f.kept in
      record {
        answers = f.answers;
        outs = λ out says g. f.events out says g;
        memory = f.memory;
        taken = ap (λ (s : State Reg Count). s.totals.taken) state ∙ a.all;
        accounted =
            ap (λ (s : State Reg Count). s.totals.taken) state ∙ a.parts
            ∙ ap (λ (s : State Reg Count). s.totals.answered + held_bytes s.connection + s.totals.dropped) (sym state);
        parts = parts_joined stream;
        answered = ap (λ (s : State Reg Count). s.totals.answered) state ∙ s.answered;
        held = ap (λ (s : State Reg Count). held_bytes s.connection) state ∙ s.held;
        dropped = ap (λ (s : State Reg Count). s.totals.dropped) state ∙ s.dropped;
        each = s.responses;
      }
