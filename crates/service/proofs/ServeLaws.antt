-- What a taken call has done, from what its parts have done.
use Prim.Native.Nat.{ℕ, ◌+◌, ◌-◌, ◌≤◌, ◌<◌, ◌^◌}
use mathlib.Core.Path.{◌≡◌, refl, sym, ap, ◌∙◌, subst}
use mathlib.Core.Bool.{Bool, true, false}
use mathlib.Core.List.{List, []}
use native.Mathlib.Nat.{add-zero}
use native.Mathlib.Omega.{arith}
use lib.ListN.{length}
use lib.Dec.{ltb, lit<}
use borrow.Author.Tests.{lt-ltb, le-ltb, ltb-true, ltb-false}
use Rattle.wire.specs.Lists.{over}
use Rattle.wire.specs.Request.{request_length}
use Rattle.stream.specs.Frame.{oversized}
use Rattle.stream.specs.Rules.{Verdict, Connection, opened, skipping, closed, State, judge}
use Rattle.stream.specs.code.Effects.{waiting, answering, dropping}
use Rattle.reading.specs.Call.{Effect, call_rule}
use Rattle.stream.specs.Call.{reader}
use Rattle.stream.specs.Handed.{Handed}
use Rattle.stream.proofs.ChunkLaws.{call_closed}
use Rattle.connection.specs.Connection.{laid_out, connection_bytes, connection_of}
use Rattle.connection.proofs.ConnectionLaws.{WholeHeader}
use Rattle.connection.proofs.StateLaws.{header_there, header_long, header_size_lem}
use Rattle.judgement.specs.Counts.{Counts, no_counts}
use Rattle.judgement.specs.Judgement.{judgement, refused_early, verdict_of}
use Rattle.journal.specs.Journalling.{recorded_for, journalling}
use Rattle.judgement.specs.code.Decided.{AskerBelow}
use Rattle.answer.specs.code.Answers.{AnsweredBy}
use Rattle.answer.specs.declared.Answered.{Answered}
use Rattle.counters.specs.Counters.{totals_of, counters_of}
use Rattle.counters.specs.code.Counted.{count_event, counted}
use Rattle.counters.proofs.CountedLaws.{event_counts, event_below}
use Rattle.counters.specs.declared.Counters.{Counters}
use Rattle.service.specs.Call.{buffer_least, chunk_most, state_in}
use Rattle.service.specs.Contract.{lent_memory}
use Rattle.service.specs.code.Served.{Modest, unanswered, finished, Carried, SkipReady, effect_of, skip_effect}
use Rattle.service.specs.declared.Handled.{Handled}

abbrev pub state_with : Connection → (registry : List ℕ) → Counters → State (List ℕ) Counts
state_with k registry c = record { connection = k; registry = registry; totals = totals_of c }

-- ---- what a call comes to is little

modest_waited : (n : ℕ) → n ≤ chunk_most → Modest (unanswered n 0).added
modest_waited n few = record { taken = few; answered = lit< tt; dropped = omega arith; event = tt }

modest_dropped : (n : ℕ) → n ≤ chunk_most → Modest (unanswered n n).added
modest_dropped n few = record { taken = few; answered = lit< tt; dropped = few; event = tt }

modest_finished : (n size : ℕ) (a : Answered) → n ≤ chunk_most → size < 2 ^ 40 → AskerBelow a.asker → Modest (finished n size a).added
modest_finished n size a few small asker = record { taken = few; answered = small; dropped = omega arith; event = event_below a.asker a.status asker }

module _ (k : Connection) (registry : List ℕ) (c : Counters) where
  pub carried_wait : (n : ℕ) (conn : Connection) (connection before after journal journal' : List ℕ) (r : Handled)
      → n ≤ chunk_most → r ≡ unanswered n 0
      → connection ≡ connection_bytes conn → after ≡ before → journal' ≡ journal
      → Carried c (waiting (state_with k registry c) n conn) connection registry before after journal journal' r
  unfolding totals_of counters_of counted count_event
  carried_wait n conn connection before after journal journal' r few e m b j = record {
    taken_is = ap (λ (x : Handled). x.added.taken) e;
    written_is = (ap (λ (x : Handled). x.written) e, b, ap (λ (x : Handled). x.recorded) e, j);
    connection_is = m;
    registry_is = refl;
    counters_is =
        ap (λ (x : Handled). counted c x.added) e
        ∙ (λ i. counters_of (record { taken = c.taken + n; answered = add-zero c.answered i; dropped = add-zero c.dropped i; counts = (totals_of c).counts }));
    modest = subst (λ (x : Handled). Modest x.added) (sym e) (modest_waited n few);
  }

  carried_drop : (n : ℕ) (connection before after journal journal' : List ℕ) (r : Handled)
      → n ≤ chunk_most → r ≡ unanswered n n
      → connection ≡ connection_bytes closed → after ≡ before → journal' ≡ journal
      → Carried c (dropping (state_with k registry c) n) connection registry before after journal journal' r
  unfolding totals_of counters_of counted count_event
  carried_drop n connection before after journal journal' r few e m b j = record {
    taken_is = ap (λ (x : Handled). x.added.taken) e;
    written_is = (ap (λ (x : Handled). x.written) e, b, ap (λ (x : Handled). x.recorded) e, j);
    connection_is = m;
    registry_is = refl;
    counters_is =
        ap (λ (x : Handled). counted c x.added) e
        ∙ (λ i. counters_of (record { taken = c.taken + n; answered = add-zero c.answered i; dropped = c.dropped + n; counts = (totals_of c).counts }));
    modest = subst (λ (x : Handled). Modest x.added) (sym e) (modest_dropped n few);
  }

  -- the response and the registry of a verdict hang on no counts
  pub carried_answer : (v : Counts → Verdict (List ℕ) Counts Handed) (n size : ℕ) (conn : Connection) (connection kept before after journal journal' : List ℕ) (a : Answered) (r : Handled)
      → n ≤ chunk_most → size < 2 ^ 40
      → AnsweredBy v kept before after journal journal' a
      → (v no_counts).response ≡ (v (totals_of c).counts).response
      → (v no_counts).registry ≡ (v (totals_of c).counts).registry
      → r ≡ finished n size a
      → connection ≡ connection_bytes conn
      → Carried c (answering (state_with k registry c) n size (v (totals_of c).counts) conn) connection kept before after journal journal' r
  unfolding totals_of counters_of counted count_event
  carried_answer v n size conn connection kept before after journal journal' a r few small by same-response same_registry e m = record {
    taken_is = ap (λ (x : Handled). x.added.taken) e;
    written_is = (
      record {
        count = ap (λ (x : Handled). x.written) e ∙ by.response.count ∙ ap (λ (h : Handed). length h.response) same-response;
        bytes = by.response.bytes ∙ ap (λ (h : Handed). over h.response before) same-response;
      },
      record {
        count = ap (λ (x : Handled). x.recorded) e ∙ by.recorded.count ∙ ap (λ (h : Handed). length h.recorded) same-response;
        bytes = by.recorded.bytes ∙ ap (λ (h : Handed). over h.recorded journal) same-response;
      },
    );
    connection_is = m;
    registry_is = by.kept ∙ same_registry;
    counters_is =
        ap (λ (x : Handled). counted c x.added) e
        ∙ (λ i. counters_of (record { taken = c.taken + n; answered = c.answered + size; dropped = add-zero c.dropped i; counts = (event_counts (totals_of c).counts a.asker a.status ∙ by.counts (totals_of c).counts) i }));
    modest = subst (λ (x : Handled). Modest x.added) (sym e) (modest_finished n size a few small by.asker);
  }

-- ---- an oversized request

module _ (list registry : List ℕ) (c : Counters) (header : List ℕ) (used here to_go : ℕ) where
  pub skip_waits : here < to_go
      → skip_effect list registry c header used here to_go ≡ waiting (state_with closed registry c) (used + here) (skipping header (to_go - here))
  unfolding skip_effect
  skip_waits h = rw (lt-ltb here to_go h)

  pub skip_answers : to_go ≤ here
      → skip_effect list registry c header used here to_go
      ≡ answering (state_with closed registry c) (used + to_go) (request_length header) ((journalling list).on_oversized registry (totals_of c).counts header) (opened [])
  unfolding skip_effect
  skip_answers h = rw (le-ltb here to_go h)

pub skip_ready : (connection header buffer : List ℕ) (kind number used here to_go : ℕ)
    → connection ≡ laid_out kind number header → WholeHeader header
    → buffer_least ≤ length buffer → used + here ≤ chunk_most
    → SkipReady connection buffer used here to_go
skip_ready connection header buffer kind number used here to_go laid h room fits =
    let there = header_there connection header kind number laid h in
    let long = header_long connection header kind number laid h in
    record {
      buffer_good = room;
      used_good = fits;
      size_good = header_size_lem connection header kind number laid h;
      long = subst (λ (x : List ℕ). 28 ≤ length x) (sym there) h.long;
      header_is = ap length there ∙ sym long;
      kind = kind;
      number = number;
      laid = laid ∙ ap (laid_out kind number) (sym there);
    }

-- ---- a verdict's response and registry hang on no counts

pub record Steady (v : Counts → Verdict (List ℕ) Counts Handed) : Type 0 where
  pub response : (c d : Counts) → (v c).response ≡ (v d).response
  pub registry : (c d : Counts) → (v c).registry ≡ (v d).registry

pub bad_steady : (list registry : List ℕ) → Steady (λ k. (journalling list).on_bad_start registry k)
unfolding journalling judgement refused_early
bad_steady list registry = record { response = λ c d. refl; registry = λ c d. refl }

pub judge_steady : (list registry request : List ℕ) → Steady (λ k. judge (journalling list) registry k request)
unfolding judge journalling recorded_for judgement refused_early verdict_of
judge_steady list registry request = go (oversized request) refl
  where
    go : (b : Bool) → oversized request ≡ b → Steady (λ k. judge (journalling list) registry k request)
    go true e = rw (e, judge) (record { response = λ c d. refl; registry = λ c d. refl })
    go false e = rw (e, judge) (record { response = λ c d. refl; registry = λ c d. refl })

-- ---- a taken call, from what the rule of a call gives

module _ (list connection registry : List ℕ) (c : Counters) (chunk before journal : List ℕ) where
  abbrev s : State (List ℕ) Counts
  s = state_with (connection_of connection) registry c

  pub serves_wait : (n : ℕ) (conn : Connection) (left after journal' : List ℕ) (r : Handled)
      → call_rule (reader (journalling list)) s chunk ≡ waiting s n conn
      → n ≤ chunk_most → r ≡ unanswered n 0
      → left ≡ connection_bytes conn → after ≡ before → journal' ≡ journal
      → Carried c (effect_of list (lent_memory connection registry c) chunk) left registry before after journal journal' r
  unfolding state_in
  serves_wait n conn left after journal' r e few w m b j =
      subst (λ (x : Effect (State (List ℕ) Counts) Handed). Carried c x left registry before after journal journal' r) (sym e)
      (carried_wait (connection_of connection) registry c n conn left before after journal journal' r few w m b j)

  pub serves_answer : (v : Counts → Verdict (List ℕ) Counts Handed) (n size : ℕ) (conn : Connection) (left kept after journal' : List ℕ) (a : Answered) (r : Handled)
      → Steady v
      → call_rule (reader (journalling list)) s chunk ≡ answering s n size (v (totals_of c).counts) conn
      → AnsweredBy v kept before after journal journal' a
      → n ≤ chunk_most → size < 2 ^ 40 → r ≡ finished n size a
      → left ≡ connection_bytes conn
      → Carried c (effect_of list (lent_memory connection registry c) chunk) left kept before after journal journal' r
  unfolding state_in
  serves_answer v n size conn left kept after journal' a r steady e by few small w m =
      subst (λ (x : Effect (State (List ℕ) Counts) Handed). Carried c x left kept before after journal journal' r) (sym e)
      (carried_answer (connection_of connection) registry c v n size conn left kept before after journal journal' a r few small by (steady.response _ _) (steady.registry _ _) w m)

  pub serves_drop : (left after journal' : List ℕ) (r : Handled)
      → connection_of connection ≡ closed
      → length chunk ≤ chunk_most → r ≡ unanswered (length chunk) (length chunk)
      → left ≡ connection_bytes closed → after ≡ before → journal' ≡ journal
      → Carried c (effect_of list (lent_memory connection registry c) chunk) left registry before after journal journal' r
  unfolding state_in
  serves_drop left after journal' r e few w m b j =
      subst (λ (x : Effect (State (List ℕ) Counts) Handed). Carried c x left registry before after journal journal' r) (sym (call_closed (journalling list) s chunk e))
      (carried_drop (connection_of connection) registry c (length chunk) left before after journal journal' r few w m b j)

  -- a request to skip, of which `here` bytes are at hand: waiting or answering, as the rule of a call says
  pub serves_skip : (header : List ℕ) (used here to_go : ℕ) (left after journal' : List ℕ) (r : Handled)
      → (here < to_go → call_rule (reader (journalling list)) s chunk ≡ waiting s (used + here) (skipping header (to_go - here)))
      → (to_go ≤ here → call_rule (reader (journalling list)) s chunk ≡ answering s (used + to_go) (request_length header) ((journalling list).on_oversized registry (totals_of c).counts header) (opened []))
      → Carried c (skip_effect list registry c header used here to_go) left registry before after journal journal' r
      → Carried c (effect_of list (lent_memory connection registry c) chunk) left registry before after journal journal' r
  unfolding state_in
  serves_skip header used here to_go left after journal' r waits answers done = go (ltb here to_go) refl
    where
      on : skip_effect list registry c header used here to_go ≡ call_rule (reader (journalling list)) s chunk → Carried c (call_rule (reader (journalling list)) s chunk) left registry before after journal journal' r
      on e = subst (λ (x : Effect (State (List ℕ) Counts) Handed). Carried c x left registry before after journal journal' r) e done

      go : (b : Bool) → ltb here to_go ≡ b → Carried c (call_rule (reader (journalling list)) s chunk) left registry before after journal journal' r
      go true t = let less = ltb-true here to_go t in on (skip_waits list registry c header used here to_go less ∙ sym (waits less))
      go false t = let more = ltb-false here to_go t in on (skip_answers list registry c header used here to_go more ∙ sym (answers more))
