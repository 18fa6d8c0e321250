use Prim.Native.Nat.{ℕ, ◌+◌, ◌-◌, ◌≤◌}
use mathlib.Core.Path.{◌≡◌, refl, sym, ap, subst, ◌∙◌}
use mathlib.Core.Bool.{true}
use mathlib.Core.List.{List, []}
use native.Mathlib.Omega.{arith}
use lib.ListN.{length, drop_of_length-le}
use Rattle.wire.specs.Request.{request_length}
use Rattle.stream.specs.Rules.{Connection, State, opened, skipping, closed}
use Rattle.stream.specs.code.Effects.{waiting, answering}
use Rattle.stream.specs.Call.{well_formed}
use Rattle.stream.proofs.ChunkLaws.{call_skips, call_skipped, well_skipping}
use Rattle.connection.specs.Connection.{laid_out, connection_bytes, connection_of}
use Rattle.connection.specs.code.State.{state_of}
use Rattle.connection.specs.declared.check.State.TheVariants.{Open, Skipping}
use Rattle.connection.proofs.ConnectionLaws.{skipping_whole, memory_good}
use Rattle.connection.proofs.StateLaws.{state_open, state_skipping, state_closed, memory_is, header_there}
use Rattle.judgement.specs.Counts.{Counts}
use Rattle.journal.specs.Journalling.{journalling}
use Rattle.counters.specs.Counters.{totals_of}
use Rattle.counters.specs.declared.Counters.{Counters}
use Rattle.service.specs.Call.{chunk_most}
use Rattle.service.specs.Contract.{lent_memory}
use Rattle.service.specs.code.Served.{Ready, SkipReady, Carried, header_at, skip_effect, effect_of}
use Rattle.service.specs.declared.Handled.{Handled}
use Rattle.service.proofs.ServeLaws.{state_with, skip_ready, serves_skip, serves_drop}
use Rattle.service.proofs.serve.serve.Goals as goal

fresh : (k : Connection) (n : ℕ) → state_of k ≡ Open n → n ≡ 0 → k ≡ opened []
fresh k n o e = let x = state_open k n o in let long = x.long in x.is ∙ ap opened (drop_of_length-le x.held (let none : length x.held ≤ 0 = omega arith in none))

-- a request is being skipped
module _ (list k registry chunk before journal : List ℕ) (to_go : ℕ) (ready : Ready k registry list chunk before journal) (o : state_of (connection_of k) ≡ Skipping to_go) where
  header : List ℕ
  header = (state_skipping (connection_of k) to_go o).header

  is : connection_of k ≡ skipping header to_go
  unfolding header
  is = (state_skipping (connection_of k) to_go o).is

  good : well_formed (skipping header to_go) ≡ true
  good = ap well_formed (sym is) ∙ memory_good k ready.connection_good

  header_held : k ≡ laid_out 1 to_go header
  unfolding connection_bytes
  header_held = memory_is k ready.connection_good (skipping header to_go) is

  skips : SkipReady k before 0 (length chunk) to_go
  skips =
      skip_ready k header before 1 to_go 0 (length chunk) to_go header_held (skipping_whole header to_go good) ready.buffer_good
      (let few = ready.chunk_good in (let x : 0 + length chunk ≤ chunk_most = omega arith in x))

  answers_skip : (c : Counters) (left after : List ℕ) (r : Handled)
      → Carried c (skip_effect list registry c (header_at k) 0 (length chunk) to_go) left registry before after journal journal r
      → Carried c (effect_of list (lent_memory k registry c) chunk) left registry before after journal journal r
  answers_skip c left after r done =
      let s : State (List ℕ) Counts = state_with (connection_of k) registry c in
      serves_skip list k registry c chunk before journal header 0 (length chunk) to_go left after journal r
      (λ less. call_skips (journalling list) s header to_go chunk is less
      ∙ ap (λ (x : ℕ). waiting s x (skipping header (to_go - length chunk))) (let x : length chunk ≡ 0 + length chunk = omega arith in x))
      (λ more. call_skipped (journalling list) s header to_go chunk is (well_skipping header to_go good).least more
      ∙ ap (λ (x : ℕ). answering s x (request_length header) ((journalling list).on_oversized registry (totals_of c).counts header) (opened [])) (let x : to_go ≡ 0 + to_go = omega arith in x))
      (subst (λ (x : List ℕ). Carried c (skip_effect list registry c x 0 (length chunk) to_go) left registry before after journal journal r) (header_there k header 1 to_go header_held (skipping_whole header to_go good)) done)

pub serve_fresh-requires : goal.serve_fresh-requires
serve_fresh-requires c =
    let o = sym c.read_state.ensures ∙ c.in-Open.is in
    (c.requires, fresh (connection_of c.args.connection.now) _ o c.if-held-eq0.true)

pub serve_held-requires : goal.serve_held-requires
serve_held-requires c = (c.requires, sym c.read_state.ensures ∙ c.in-Open.is)

pub skip-requires : goal.skip-requires
skip-requires c =
    let a = c.args in
    skips a.list.now a.connection.now a.registry.now a.chunk.now a.out.now a.journal.now c.in-Skipping.to_go c.requires (sym c.read_state.ensures ∙ c.in-Skipping.is)

pub returns-in-Skipping : goal.returns-in-Skipping
returns-in-Skipping c =
    let a = c.args in
    let skip = c.skip in
    λ counters.
    answers_skip a.list.now a.connection.now a.registry.now a.chunk.now a.out.now a.journal.now c.in-Skipping.to_go c.requires (sym c.read_state.ensures ∙ c.in-Skipping.is) counters
    skip.new.connection skip.new.out skip.result (skip.ensures a.list.now a.registry.now a.journal.now counters)

pub returns-in-Closed : goal.returns-in-Closed
returns-in-Closed c =
    let a = c.args in
    let shut = state_closed (connection_of a.connection.now) (sym c.read_state.ensures ∙ c.in-Closed.is) in
    λ counters.
    serves_drop a.list.now a.connection.now a.registry.now counters a.chunk.now a.out.now a.journal.now a.connection.now a.out.now a.journal.now c.unanswered.result shut c.requires.chunk_good c.unanswered.ensures
    (memory_is a.connection.now c.requires.connection_good closed shut) refl refl
