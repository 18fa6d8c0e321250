-- Whatever the connections were: a history does to registry and counters what its answered requests do, judged one after the
-- other, and answers as they are answered.
use Rattle.std.proofs.Common.{Option, Some, None}
use mathlib.Core.Path.{◌≡◌, refl, sym, ap, ◌∙◌, subst}
use Prim.Native.Nat.{ℕ, ◌<◌}
use mathlib.Core.Bool.{Bool, true, false, true≢false}
use mathlib.Core.List.{List, [], ◌∷◌, ◌++◌, append-nil}
use native.Mathlib.Omega.{arith}
use borrow.Author.Tests.{eq-eqb, ne_eqb, eqb-true}
use lib.ListN.{length, take}
use lib.Dec.{eqb}
use Rattle.wire.specs.Choice.{when◌then◌else◌}
use Rattle.reading.specs.Call.{Effect}
use Rattle.reading.specs.Calls.{took}
use Rattle.reading.specs.Buffer.{written, bytes_of}
use Rattle.reading.proofs.BufferLaws.{bytes_of_lem}
use Rattle.stream.specs.Frame.{legal_start}
use Rattle.stream.specs.Rules.{Verdict, Connection, opened, closed, State}
use Rattle.stream.specs.Handed.{Handed, give}
use Rattle.stream.proofs.HandedLaws.{bare_event}
use Rattle.stream.specs.Parts.{verdict_on}
use Rattle.stream.proofs.PartsLaws.{counts_from, registry_from}
use Rattle.stream.proofs.ChunkLaws.{call_closed}
use Rattle.connection.specs.Connection.{connection_bytes, connection_of}
use Rattle.connection.proofs.ConnectionLaws.{load_store}
use Rattle.registry.specs.WellFormed.{well_formed_registry}
use Rattle.judgement.specs.Counts.{Counts}
use Rattle.judgement.specs.Judgement.{judgement}
use Rattle.judgement.proofs.VerdictLaws.{verdict_some}
use Rattle.counters.specs.Counters.{totals_of, counters_of}
use Rattle.counters.specs.declared.Counters.{Counters}
use Rattle.journal.specs.Journalling.{recorded_for, journalling}
use Rattle.service.specs.Call.{Memory, state_in, memory_of, layout, Call, CallOutcome, refusal_of, call_outcome}
use Rattle.service.proofs.CallLaws.{passed, refused_outcome, taken_outcome, recorded_effect, effect_bare}
use Rattle.isolation.specs.History.{Host, with, lent, left, fresh_with, CallOn, history_of, Exchange, exchanges_from, exchanges, requests}
use Rattle.isolation.specs.Isolated.{AllOne, NoneOn, AllLast, Unread}
use Rattle.isolation.proofs.CallLaws.{OneRequest, Stands, Closes, stands_fresh, stands_well, Came, brings}
use Rattle.isolation.proofs.Replay.{unplaced, replay}

abbrev pub counts_in : Counters → Counts
counts_in c = (totals_of c).counts

-- ---- one call

-- nothing written: the bytes wait, and nothing else changed; else they are one request, and the verdict on it was given
abbrev HappenedIf : (list : List ℕ) → Bool → Memory → (bytes response : List ℕ) → Memory → Type 0
HappenedIf list true m bytes response after =
    Stands (connection_of after.connection) bytes × (after.registry ≡ m.registry) × (counts_in after.counters ≡ counts_in m.counters)
HappenedIf list false m bytes response after =
    Stands (connection_of after.connection) [] × (verdict_on (judgement list) m.registry (counts_in m.counters) bytes
    ≡ record { response = response; registry = after.registry; counts = counts_in after.counters }) × OneRequest bytes × Closes bytes (connection_of after.connection)

abbrev Happened : (list : List ℕ) → Memory → (w : List ℕ) → Call → CallOutcome → Type 0
Happened list m w call o =
    HappenedIf list (eqb o.answer.given.response.count 0) m (w ++ take o.answer.taken call.chunk) (bytes_of o.answer.given.response) o.memory

abbrev Responds : Verdict (List ℕ) Counts (List ℕ) → Type 0
Responds v = 0 < length v.response

module _ (list : List ℕ) where
  closed_back : connection_of (connection_bytes closed) ≡ closed
  closed_back = load_store closed (stands_well (judgement list) [] closed [] tt)

  module _ (m : Memory) (w : List ℕ) (call : Call) where
    stored : (c : Connection) (bytes : List ℕ) → Stands c bytes → Stands (connection_of (connection_bytes c)) bytes
    stored c bytes s = subst (λ (x : Connection). Stands x bytes) (sym (load_store c (stands_well (judgement list) [] c bytes s))) s

    landed : (n : ℕ) (o : Option Handed) (s : State (List ℕ) Counts) → Came (judgement list) (state_in m) (w ++ take n call.chunk) (bare_event (recorded_for list) (judgement list) o) s
        → Happened list m w call (record { answer = took layout n o call; memory = memory_of s })
    unfolding layout give written memory_of state_in totals_of counters_of
    landed n None s (stands, same, counts) = (stored s.connection _ stands, same, counts)
    landed n (Some h) s (stands, verdict, one, closes) =
        let r : List ℕ = h.response in
        let some-response : 0 < length r = subst Responds verdict (verdict_some list m.registry (counts_in m.counters) (w ++ take n call.chunk)) in
        rw (ne_eqb (length r) 0 (λ z. (let x : ⊥ = omega arith in x)), bytes_of_lem r call.lent.response) (stored s.connection [] stands, verdict, one, λ bad. ap (λ (c : Connection). connection_of (connection_bytes c)) (closes bad) ∙ closed_back)

    happened : Stands (connection_of m.connection) w → Happened list m w call (call_outcome list m call)
    unfolding layout give written state_in
    happened stands = go (refusal_of list m call) refl
      where
        go : (o : Option ℕ) → refusal_of list m call ≡ o → Happened list m w call (call_outcome list m call)
        go (Some code) e = rw (refused_outcome list m call code e) (subst (Stands (connection_of m.connection)) (sym (append-nil w)) stands, refl, refl)
        go None e =
            let f : Effect (State (List ℕ) Counts) Handed = recorded_effect list m call.chunk in
            rw (taken_outcome list m call e) (landed f.taken f.event f.kept
            (subst (λ (x : Effect (State (List ℕ) Counts) (List ℕ)). Came (judgement list) (state_in m) (w ++ take x.taken call.chunk) x.event x.kept)
            (sym (effect_bare list m call.chunk)) (brings (judgement list) (state_in m) w call.chunk stands)))

  -- ---- a closed connection

  pub closed_unread : (m : Memory) (call : Call) → connection_of m.connection ≡ closed
      → Unread m (call_outcome list m call).answer.given.response.count (call_outcome list m call).memory
  unfolding layout give written state_in memory_of totals_of counters_of
  closed_unread m call e = go (refusal_of list m call) refl
    where
      go : (o : Option ℕ) → refusal_of list m call ≡ o → Unread m (call_outcome list m call).answer.given.response.count (call_outcome list m call).memory
      go (Some code) q =
          rw (refused_outcome list m call code q)
          (record { nothing_written = refl; still_closed = e; same_registry = refl; same_counts = refl; same_answered = refl })
      go None q =
          rw (taken_outcome list m call q, call_closed (journalling list) (state_in m) call.chunk e)
          (record { nothing_written = refl; still_closed = closed_back; same_registry = refl; same_counts = refl; same_answered = refl })

  -- a call on connection j leaves connection k closed
  leaves_closed : (h : Host) (j k : ℕ) (after : Memory) → (k ≡ j → connection_of after.connection ≡ closed) → (eqb k j ≡ false → connection_of (h.connections k) ≡ closed)
      → connection_of ((left h j after).connections k) ≡ closed
  unfolding with
  leaves_closed h j k after on apart = go (eqb k j) refl
    where
      go : (t : Bool) → eqb k j ≡ t → connection_of (when t then after.connection else h.connections k) ≡ closed
      go true e = on (eqb-true k j e)
      go false e = apart e

  -- it has no more exchanges
  silent : (calls : List CallOn) (h : Host) (w : ℕ → List ℕ) (k : ℕ) → connection_of (h.connections k) ≡ closed
      → NoneOn k (exchanges_from w calls (history_of list h calls).answers)
  unfolding history_of exchanges_from
  silent [] h w k e = tt
  silent (t ∷ calls) h w k e = go (eqb o.answer.given.response.count 0) refl (silent calls h')
    where
      j : ℕ
      j = t.connection

      o : CallOutcome
      o = call_outcome list (lent h j) t.call

      h' : Host
      h' = left h j o.memory

      bytes : List ℕ
      bytes = w j ++ take o.answer.taken t.call.chunk

      here : k ≡ j → Unread (lent h j) o.answer.given.response.count o.memory
      here same = closed_unread (lent h j) t.call (ap (λ (i : ℕ). connection_of (h.connections i)) (sym same) ∙ e)

      closed_still : connection_of (h'.connections k) ≡ closed
      closed_still = leaves_closed h j k o.memory (λ same. (here same).still_closed) (λ _. e)

      more : (ℕ → List ℕ) → List Exchange
      more w' = exchanges_from w' calls (history_of list h' calls).answers

      go : (b : Bool) → eqb o.answer.given.response.count 0 ≡ b → ((w' : ℕ → List ℕ) (k : ℕ) → connection_of (h'.connections k) ≡ closed → NoneOn k (more w'))
          → NoneOn k (when b then more (with w j bytes) else (record { connection = j; request = bytes; response = bytes_of o.answer.given.response } ∷ more (with w j [])))
      go true n ih = ih (with w j bytes) k closed_still
      go false n ih = (
        ne_eqb j k (λ same. true≢false (sym (eq-eqb o.answer.given.response.count 0 (here (sym same)).nothing_written) ∙ n)),
        ih (with w j []) k closed_still,
      )

  -- ---- a history

  abbrev AllStand : Host → (ℕ → List ℕ) → Type 0
  AllStand h w = (k : ℕ) → Stands (connection_of (h.connections k)) (w k)

  still : (h : Host) (w : ℕ → List ℕ) (k : ℕ) (after : Memory) (bytes : List ℕ) → AllStand h w → Stands (connection_of after.connection) bytes
      → AllStand (left h k after) (with w k bytes)
  unfolding with
  still h w k after bytes all here j = go (eqb j k)
    where
      go : (t : Bool) → Stands (connection_of (when t then after.connection else h.connections j)) (when t then bytes else w j)
      go true = here
      go false = all j

  -- the exchanges, registry and counts of a history are those of its requests
  pub record Serial (r : List ℕ) (c : Counts) (after : Host) (xs : List Exchange) : Type 0 where
    pub answered : replay (judgement list) r c (requests xs) ≡ unplaced xs
    pub registry : registry_from (judgement list) r c (requests xs) ≡ after.registry
    pub counts : counts_from (judgement list) r c (requests xs) ≡ counts_in after.counters
    pub one_each : AllOne xs
    pub closing_last : AllLast xs

  -- one exchange more, in front of the others
  serial_more : (k : ℕ) (r : List ℕ) (c : Counts) (bytes response r' : List ℕ) (c' : Counts) (after : Host) (xs : List Exchange)
      → verdict_on (judgement list) r c bytes ≡ record { response = response; registry = r'; counts = c' } → OneRequest bytes
      → (legal_start bytes ≡ false → NoneOn k xs)
      → Serial r' c' after xs → Serial r c after (record { connection = k; request = bytes; response = response } ∷ xs)
  unfolding replay registry_from counts_from
  serial_more k r c bytes response r' c' after xs verdict one last s =
      let J = judgement list in
      let first : List ℕ → List Exchange → List Exchange = λ said ys. (let x : Exchange = record { connection = 0; request = bytes; response = said } in x) ∷ ys in
      record {
        answered = ap (λ (v : Verdict (List ℕ) Counts (List ℕ)). first v.response (replay J v.registry v.counts (requests xs))) verdict ∙ ap (first response) s.answered;
        registry = ap (λ (v : Verdict (List ℕ) Counts (List ℕ)). registry_from J v.registry v.counts (requests xs)) verdict ∙ s.registry;
        counts = ap (λ (v : Verdict (List ℕ) Counts (List ℕ)). counts_from J v.registry v.counts (requests xs)) verdict ∙ s.counts;
        one_each = (one, s.one_each);
        closing_last = (last, s.closing_last);
      }

  abbrev SerialFrom : Host → (ℕ → List ℕ) → List CallOn → Type 0
  SerialFrom h w calls =
      Serial h.registry (counts_in h.counters) (history_of list h calls).host (exchanges_from w calls (history_of list h calls).answers)

  serial_from : (calls : List CallOn) (h : Host) (w : ℕ → List ℕ) → AllStand h w → SerialFrom h w calls
  unfolding history_of exchanges_from replay registry_from counts_from
  serial_from [] h w all = record { answered = refl; registry = refl; counts = refl; one_each = tt; closing_last = tt }
  serial_from (t ∷ calls) h w all =
      go (eqb o.answer.given.response.count 0) (happened (lent h k) (w k) t.call (all k)) (serial_from calls (left h k o.memory))
    where
      k : ℕ
      k = t.connection

      o : CallOutcome
      o = call_outcome list (lent h k) t.call

      h' : Host
      h' = left h k o.memory

      bytes : List ℕ
      bytes = w k ++ take o.answer.taken t.call.chunk

      response : List ℕ
      response = bytes_of o.answer.given.response

      more : (ℕ → List ℕ) → List Exchange
      more w' = exchanges_from w' calls (history_of list h' calls).answers

      go : (b : Bool) → HappenedIf list b (lent h k) bytes response o.memory
          → ((w' : ℕ → List ℕ) → AllStand h' w' → Serial h'.registry (counts_in h'.counters) (history_of list h' calls).host (more w'))
          → Serial h.registry (counts_in h.counters) (history_of list h' calls).host
          (when b then more (with w k bytes) else (record { connection = k; request = bytes; response = response } ∷ more (with w k [])))
      go true (stands, same, counts) ih =
          subst (λ (r : List ℕ). Serial r (counts_in h.counters) (history_of list h' calls).host (more (with w k bytes))) same
          (subst (λ (c : Counts). Serial o.memory.registry c (history_of list h' calls).host (more (with w k bytes))) counts
          (ih (with w k bytes) (still h w k o.memory bytes all stands)))
      go false (stands, verdict, one, closes) ih =
          serial_more k h.registry (counts_in h.counters) bytes response o.memory.registry (counts_in o.memory.counters) _ _ verdict one
          (λ bad. silent calls h' (with w k []) k (leaves_closed h k k o.memory (λ _. closes bad) (λ apart. absurd (true≢false (sym (eq-eqb k k refl) ∙ apart)))))
          (ih (with w k []) (still h w k o.memory [] all stands))

  -- from fresh connections
  pub serial : (registry : List ℕ) (counters : Counters) (calls : List CallOn)
      → (let o = history_of list (fresh_with registry counters) calls in Serial registry (counts_in counters) o.host (exchanges calls o.answers))
  unfolding exchanges
  serial registry counters calls =
      serial_from calls (fresh_with registry counters) (λ k. [])
      (λ k. subst (λ (x : Connection). Stands x []) (sym (load_store (opened []) (stands_well (judgement list) [] (opened []) [] stands_fresh))) stands_fresh)

  -- ---- on an ill-formed registry every call is refused

  idle_from : (calls : List CallOn) (h : Host) (w : ℕ → List ℕ) → well_formed_registry h.registry ≡ false
      → exchanges_from w calls (history_of list h calls).answers ≡ []
  unfolding history_of exchanges_from layout give written
  idle_from [] h w bad = refl
  idle_from (t ∷ calls) h w bad = go (refusal_of list (lent h t.connection) t.call) refl (idle_from calls)
    where
      go : (o : Option ℕ) → refusal_of list (lent h t.connection) t.call ≡ o
          → ((h : Host) (w : ℕ → List ℕ) → well_formed_registry h.registry ≡ false → exchanges_from w calls (history_of list h calls).answers ≡ [])
          → exchanges_from w (t ∷ calls) (history_of list h (t ∷ calls)).answers ≡ []
      go None e ih = absurd (true≢false (sym (passed list (lent h t.connection) t.call e).ready.registry_good ∙ bad))
      go (Some code) e ih = rw (refused_outcome list (lent h t.connection) t.call code e) (ih _ _ bad)

  pub idle : (registry : List ℕ) (counters : Counters) (calls : List CallOn) → well_formed_registry registry ≡ false
      → exchanges calls (history_of list (fresh_with registry counters) calls).answers ≡ []
  unfolding exchanges
  idle registry counters calls bad = idle_from calls (fresh_with registry counters) (λ k. []) bad
