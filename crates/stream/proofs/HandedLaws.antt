-- DEMAND 3 WITH A JOURNAL, for every judgement and every record of a request: calls write the responses and leave the memory that
-- they would without the records, and the records that they write are those of the rules, joined.
use Rattle.std.proofs.Common.{Option, Some, None}
use mathlib.Core.Path.{◌≡◌, refl, sym, ap, ◌∙◌}
use Prim.Native.Nat.{ℕ, suc, ◌-◌, ◌≤◌}
use mathlib.Core.Bool.{Bool, true, false}
use mathlib.Core.List.{List, [], ◌∷◌, ◌++◌, map, flatten}
use lib.ListN.{length}
use lib.Dec.{leb}
use Rattle.wire.specs.Request.{request_length}
use Rattle.reading.specs.Reader.{Step, Reading, with_event, read}
use Rattle.reading.specs.Call.{Effect, call_rule}
use Rattle.reading.specs.Calls.{Call, Layout, CallsOutcome, taken_stream, answers_by}
use Rattle.reading.specs.code.Calls.{calls_on, hand_over}
use Rattle.reading.specs.Buffer.{bytes_of, as_one}
use Rattle.reading.proofs.CallLaws.{one_more}
use Rattle.reading.specs.Claims.{Finds, enough}
use Rattle.reading.proofs.CallsLaws.{said_each}
use Rattle.reading.proofs.BufferLaws.{bytes_of_lem, as_one_lem, as_none}
use Rattle.stream.specs.Frame.{oversized, Next, unfinished, bad_start, skipped, whole, next}
use Rattle.stream.specs.Rules.{Verdict, Judgement, Connection, opened, skipping, closed, State, Outcome, judge, rules}
use Rattle.stream.specs.Call.{keep, respond, drop_byte, open_rule, skip_rule, byte_rule, reader, fresh, by_rules}
use Rattle.stream.specs.Parts.{parts_of, responses_to}
use Rattle.stream.specs.Handed.{Handed, recording, Lent, Given, give, joined_responses, responses_in, joined_records}
use Rattle.stream.proofs.CallLaws.{rules_read, call_responds, call_goes_on}
use Rattle.stream.proofs.ResponseLaws.{Every, Anything, NotEmpty, every_event}
use Rattle.stream.proofs.PartsLaws.{rules_from_stream}
use Rattle.stream.proofs.CallsLaws.{Lawful, FollowsRules, follows_rules}
use Rattle.stream.specs.Claims.{within, TakenWhole}
use Rattle.stream.proofs.DeliveryLaws.{delivered}

-- ---- THE RULES WITH RECORDS are the rules, but for the records

module _ {Reg Count : Type 0} (record_of : Reg → (request : List ℕ) → Verdict Reg Count (List ℕ) → List ℕ) (J : Judgement Reg Count (List ℕ)) where
  abbrev K : Judgement Reg Count Handed
  K = recording record_of J

  abbrev bare : Verdict Reg Count Handed → Verdict Reg Count (List ℕ)
  bare v = record { response = v.response.response; registry = v.registry; counts = v.counts }

  abbrev pub bare_outcome : Outcome Reg Count Handed → Outcome Reg Count (List ℕ)
  bare_outcome o = record { responses = map (λ h. h.response) o.responses; state = o.state }

  judge_bare : (r : Reg) (c : Count) (request : List ℕ) → bare (judge K r c request) ≡ judge J r c request
  unfolding judge
  judge_bare r c request = go (oversized request) refl
    where
      go : (t : Bool) → oversized request ≡ t → bare (judge K r c request) ≡ judge J r c request
      go true e = rw (e, judge)
      go false e = rw (e, judge)

  abbrev pub bare_event : Option Handed → Option (List ℕ)
  bare_event None = None
  bare_event (Some h) = Some h.response

  abbrev bare_step : Step (State Reg Count) Handed → Step (State Reg Count) (List ℕ)
  bare_step t = record { kept = t.kept; event = bare_event t.event }

  abbrev pub bare_effect : Effect (State Reg Count) Handed → Effect (State Reg Count) (List ℕ)
  bare_effect e = record { taken = e.taken; event = bare_event e.event; kept = e.kept }

  module _ (s : State Reg Count) where
    respond_bare : (n : ℕ) (v : Verdict Reg Count Handed) (c : Connection) → bare_step (respond K s n v c) ≡ respond J s n (bare v) c
    unfolding respond
    respond_bare n v c = refl

    keep_bare : (c : Connection) → bare_step (keep K s c) ≡ keep J s c
    unfolding keep
    keep_bare c = refl

    open_bare : (bytes : List ℕ) → bare_step (open_rule K s bytes) ≡ open_rule J s bytes
    unfolding open_rule
    open_bare bytes = go (next bytes) refl
      where
        go : (n : Next) → next bytes ≡ n → bare_step (open_rule K s bytes) ≡ open_rule J s bytes
        go unfinished e = rw (e, open_rule) (keep_bare (opened bytes))
        go bad_start e = rw (e, open_rule) (respond_bare 6 _ closed)
        go (skipped header missing) e = rw (e, open_rule) (keep_bare (skipping header missing))
        go (whole n) e = rw (e, open_rule) (respond_bare n _ (opened []) ∙ ap (λ (v : Verdict Reg Count (List ℕ)). respond J s n v (opened [])) (judge_bare s.registry s.totals.counts bytes))

    skip_bare : (header : List ℕ) (to_go : ℕ) → bare_step (skip_rule K s header to_go) ≡ skip_rule J s header to_go
    unfolding skip_rule
    skip_bare header to_go = go (leb to_go 1) refl
      where
        go : (t : Bool) → leb to_go 1 ≡ t → bare_step (skip_rule K s header to_go) ≡ skip_rule J s header to_go
        go true e = rw (e, skip_rule) (respond_bare (request_length header) _ (opened []))
        go false e = rw (e, skip_rule) (keep_bare (skipping header (to_go - 1)))

    byte_bare : (b : ℕ) → bare_step (byte_rule K s b) ≡ byte_rule J s b
    unfolding byte_rule drop_byte
    byte_bare b = go s.connection refl
      where
        go : (c : Connection) → s.connection ≡ c → bare_step (byte_rule K s b) ≡ byte_rule J s b
        go (opened held) e = rw (e, byte_rule) (open_bare (held ++ (b ∷ [])))
        go (skipping header to_go) e = rw (e, byte_rule) (skip_bare header to_go)
        go closed e = rw (e, byte_rule)

  pub event_bare : (s : State Reg Count) (b : ℕ) (h : Handed) → (byte_rule K s b).event ≡ Some h → (byte_rule J s b).event ≡ Some h.response
  event_bare s b h e = ap (λ (t : Step (State Reg Count) (List ℕ)). t.event) (sym (byte_bare s b)) ∙ ap bare_event e

  -- a call: what is proved of one without records stays, and the record is beside it
  pub call_bare : (s : State Reg Count) (chunk : List ℕ) → bare_effect (call_rule (reader K) s chunk) ≡ call_rule (reader J) s chunk
  unfolding call_rule
  call_bare s [] = refl
  call_bare s (b ∷ chunk) = go (call_bare (byte_rule K s b).kept chunk) (byte_rule K s b).event refl
    where
      same : bare_step (byte_rule K s b) ≡ byte_rule J s b
      same = byte_bare s b

      go : bare_effect (call_rule (reader K) (byte_rule K s b).kept chunk) ≡ call_rule (reader J) (byte_rule K s b).kept chunk
          → (o : Option Handed) → (byte_rule K s b).event ≡ o → bare_effect (call_rule (reader K) s (b ∷ chunk)) ≡ call_rule (reader J) s (b ∷ chunk)
      go ih (Some h) e =
          ap bare_effect (call_responds K s b chunk h e)
          ∙ ap (λ (t : Step (State Reg Count) (List ℕ)). record { taken = 1; event = Some h.response; kept = t.kept }) same
          ∙ sym (call_responds J s b chunk h.response (ap (λ (t : Step (State Reg Count) (List ℕ)). t.event) (sym same) ∙ ap bare_event e))
      go ih None e =
          ap bare_effect (call_goes_on K s b chunk e)
          ∙ ap one_more ih
          ∙ ap (λ (t : Step (State Reg Count) (List ℕ)). one_more (call_rule (reader J) t.kept chunk)) same
          ∙ sym (call_goes_on J s b chunk (ap (λ (t : Step (State Reg Count) (List ℕ)). t.event) (sym same) ∙ ap bare_event e))

  -- a stream
  abbrev bare_reading : Reading (State Reg Count) Handed → Reading (State Reg Count) (List ℕ)
  bare_reading r = record { taken = r.taken; events = map (λ h. h.response) r.events; kept = r.kept }

  with_bare : (o : Option Handed) (hs : List Handed) → map (λ h. h.response) (with_event o hs) ≡ with_event (bare_event o) (map (λ h. h.response) hs)
  unfolding with_event
  with_bare None hs = refl
  with_bare (Some h) hs = refl

  read_bare : (s : State Reg Count) (bytes : List ℕ) → bare_reading (read (reader K) s bytes) ≡ read (reader J) s bytes
  unfolding read
  read_bare s [] = refl
  read_bare s (b ∷ bytes) =
      let t : Step (State Reg Count) Handed = byte_rule K s b in
      let r : Reading (State Reg Count) Handed = read (reader K) t.kept bytes in
      let first : Step (State Reg Count) (List ℕ) → Reading (State Reg Count) (List ℕ) → Reading (State Reg Count) (List ℕ)
      = λ x y. record { taken = suc y.taken; events = with_event x.event y.events; kept = y.kept } in
      (λ i. record { taken = suc r.taken; events = with_bare t.event r.events i; kept = r.kept })
      ∙ ap (first (bare_step t)) (read_bare t.kept bytes)
      ∙ ap (λ (x : Step (State Reg Count) (List ℕ)). first x (read (reader J) x.kept bytes)) (byte_bare s b)

  pub rules_bare : (registry : Reg) (stream : List ℕ) → bare_outcome (rules K registry stream) ≡ rules J registry stream
  unfolding by_rules fresh
  rules_bare registry stream =
      let same : bare_reading (by_rules K registry stream) ≡ by_rules J registry stream
      = ap (λ (uncut : List ℕ → Reading (State Reg Count) Handed). bare_reading (uncut stream)) (sym (rules_read K registry))
      ∙ read_bare (fresh J registry) stream
      ∙ ap (λ (uncut : List ℕ → Reading (State Reg Count) (List ℕ)). uncut stream) (rules_read J registry) in
      ap (λ (r : Reading (State Reg Count) (List ℕ)). (let o : Outcome Reg Count (List ℕ) = record { responses = r.events; state = r.kept } in o)) same

-- ---- THE CLAIM

module _ {Memory Reg Count Code : Type 0} (record_of : Reg → (request : List ℕ) → Verdict Reg Count (List ℕ) → List ℕ) (J : Judgement Reg Count (List ℕ))
    (load : Memory → State Reg Count) (store : State Reg Count → Memory) (refusal : Memory → Call Lent → Option Code) (registry : Reg) where
  abbrev pub layout : Layout Memory (State Reg Count) Handed Lent Given
  layout = record { load = load; store = store; give = give }

  abbrev pub run : List (Call Lent) → CallsOutcome Memory Code Given
  run calls = calls_on (reader (recording record_of J)) layout refusal (store (fresh J registry)) calls

  pub record FollowsWithJournal (calls : List (Call Lent)) (o : CallsOutcome Memory Code Given) : Type 0 where
    -- each call answers as the rules of the uncut stream say
    pub answers : o.answers ≡ answers_by (by_rules (recording record_of J) registry) layout refusal [] calls
    -- responses and memory are those of the rules without records
    pub responses : joined_responses o.answers ≡ flatten (rules J registry (taken_stream calls o.answers)).responses
    pub memory : o.memory ≡ store (rules J registry (taken_stream calls o.answers)).state
    -- and the joined records are those of the rules with them: one for each answered request that has one, in their order
    pub records : joined_records o.answers ≡ flatten (map (λ h. h.recorded) (responses_to (recording record_of J) registry (parts_of (taken_stream calls o.answers)).answered))

  finds_response : Finds (reader (recording record_of J)) layout (λ (g : Given). bytes_of g.response) (λ (h : Handed). h.response)
  unfolding give
  finds_response = record { nothing = λ lent. bytes_of_lem [] lent.response; event = λ s b h e lent. bytes_of_lem h.response lent.response }

  finds_record : Finds (reader (recording record_of J)) layout (λ (g : Given). bytes_of g.journal) (λ (h : Handed). h.recorded)
  unfolding give
  finds_record = record { nothing = λ lent. bytes_of_lem [] lent.journal; event = λ s b h e lent. bytes_of_lem h.recorded lent.journal }

  module _ (lawful : Lawful layout) (calls : List (Call Lent)) where
    follows : FollowsRules (recording record_of J) layout lawful refusal registry calls (run calls)
    unfolding fresh
    follows = follows_rules (recording record_of J) layout lawful refusal registry calls

    abbrev stream : List ℕ
    stream = taken_stream calls (run calls).answers

    pub follows_with_journal : FollowsWithJournal calls (run calls)
    follows_with_journal = record {
      answers = follows.answers;
      responses = follows.outs _ _ finds_response ∙ ap (λ (o : Outcome Reg Count (List ℕ)). flatten o.responses) (rules_bare record_of J registry stream);
      memory = follows.memory ∙ ap (λ (o : Outcome Reg Count (List ℕ)). store o.state) (rules_bare record_of J registry stream);
      records = follows.outs _ _ finds_record ∙ ap (λ (hs : List Handed). flatten (map (λ h. h.recorded) hs)) follows.each;
    }

    -- where no response is empty, they one by one are those to the answered requests
    pub each_with_journal : Every J Anything NotEmpty
        → responses_in (run calls).answers ≡ responses_to J registry (parts_of stream).answered
    unfolding give
    each_with_journal every =
        follows.outs (λ (g : Given). as_one g.response) (λ (h : Handed). h.response ∷ [])
        (record {
          nothing = λ lent. as_none lent.response;
          event = λ s b h e lent. as_one_lem h.response lent.response (every_event J Anything NotEmpty every s tt b h.response (event_bare record_of J s b h e));
        })
        ∙ said_each (λ (h : Handed). h.response) (rules (recording record_of J) registry stream).responses
        ∙ ap (λ (o : Outcome Reg Count (List ℕ)). o.responses) (rules_bare record_of J registry stream)
        ∙ (rules_from_stream J registry stream).responses

  -- LIVENESS, with room in both buffers each time: what is asked of `refusal` is asked at the rules without records
  pub delivered_with_journal : Lawful layout → (streamMost chunk_most : ℕ) (lent : ℕ → Lent)
      → ((seen chunk : List ℕ) (k : ℕ) → length seen ≤ streamMost → length chunk ≤ chunk_most
      → refusal (store (rules J registry seen).state) (record { chunk = chunk; lent = lent k }) ≡ None)
      → (most : ℕ) (chunks : List (List ℕ)) → enough chunks ≤ most → within chunk_most chunks ≡ true → length (flatten chunks) ≤ streamMost
      → (let calls : List (Call Lent) = hand_over (reader (recording record_of J)) layout refusal most lent (store (fresh J registry)) chunks in TakenWhole chunks calls (run calls))
  unfolding fresh
  delivered_with_journal lawful streamMost chunk_most lent accepts most chunks h w t =
      delivered (recording record_of J) layout lawful refusal registry streamMost chunk_most lent
      (λ seen chunk k l f. ap (λ (o : Outcome Reg Count (List ℕ)). refusal (store o.state) (record { chunk = chunk; lent = lent k })) (rules_bare record_of J registry seen)
      ∙ accepts seen chunk k l f)
      most chunks h w t
