-- THE JOURNAL READ IN PIECES by the code: its calls are the definition's, so that the cut theorem speaks of them, and what they
-- come to is what the uncut reader comes to.
use Rattle.std.proofs.Common.{Option, Some, None}
use mathlib.Core.Path.{◌≡◌, refl, sym, ap, ap₂, subst, ◌∙◌}
use Prim.Native.Nat.{ℕ, suc, ◌+◌}
use mathlib.Core.Bool.{Bool, true, false, not}
use mathlib.Core.List.{List, [], ◌∷◌, flatten}
use native.Mathlib.Omega.{arith}
use native.Mathlib.Nat.{zero-add}
use borrow.Author.Tests.{ne_eqb, eqb-true}
use lib.ListN.{length}
use lib.Dec.{eqb}
use Rattle.wire.specs.Choice.{when◌then◌else◌}
use Rattle.wire.proofs.TestLaws.{either, or_left, not_across, some≢none, none_at}
use Rattle.registry.specs.WellFormed.{well_formed_registry}
use Rattle.reading.specs.Reader.{Step, Reading, read}
use Rattle.reading.specs.Call.{Effect, call_rule}
use Rattle.reading.specs.Calls.{Call, took, call_on}
use Rattle.reading.specs.Claims.{left_after, Meets, Cut}
use Rattle.reading.proofs.ReaderLaws.{decide, read_byte, read_past, read_append, always}
use Rattle.reading.proofs.CallLaws.{First, past, brings, on, first, call_past, call_event, call_on_lem}
use Rattle.reading.proofs.DeliveryLaws.{call_takes}
use Rattle.reading.proofs.CutLaws.{cut_theorem}
use Rattle.journal.specs.declared.Fault.{Fault}
use Rattle.journal.specs.declared.Fault.TheVariants.{WrongCrc, WrongLayout, NotAllowed}
use Rattle.journal.specs.declared.read.Said.{Said}
use Rattle.journal.specs.declared.read.Said.TheVariants.{RegistryIllFormed, StateIllFormed}
use Rattle.journal.specs.Replay.{fault_number, Judged, good, bad}
use Rattle.journal.specs.Reader.{Kept, read_journal}
use Rattle.journal.specs.Compact.{Compact, between, with_byte, is_begun_whole, judge_begun, compact_record, compact_step, has_ended, compact_journal}
use Rattle.journal.specs.Memory.{state_bytes, compact_in, well_formed_state, fresh_state, read_refusal, fault_of, said_of, ReadOutcome, outcome_of, read_outcome, Memory, journal_layout, refusal}
use Rattle.journal.specs.Claims.{Contract, refusal_in, fault_in, ran_as, Reads, begun_on, ReadBack, read_by, said_for, read_back_in, read_back, ReadsAs, is_file, InPieces, KeepsMemory}
use Rattle.journal.specs.code.Done.{fault_code}
use Rattle.journal.proofs.CompactLaws.{compact_of, compact_reads}
use Rattle.journal.proofs.MemoryLaws.{Reachable, goes_on, state_back, state_good, accepted, sound, reachable_in}

-- ---- a call stops at the reader's end alone, so that it is uncut reading

ends : (s : Compact) (fault : Fault) → (compact_step s).event ≡ Some fault
    → (let t : Compact = (compact_step s).kept in has_ended t.fault t.kept t.count ≡ true)
unfolding compact_step
ends s fault = either (λ (x : Step Compact Fault). x.event ≡ Some fault → has_ended x.kept.fault x.kept.kept x.kept.count ≡ true)
    (is_begun_whole s.count s.front) (λ _. by_judged (judge_begun s.registry s.register s.front)) (λ _ q. absurd (some≢none fault (sym q)))
  where
    by_judged : (j : Judged) → (compact_record s j).event ≡ Some fault
        → (let t : Compact = (compact_record s j).kept in has_ended t.fault t.kept t.count ≡ true)
    by_judged (good after) q = absurd (some≢none fault (sym (unfold compact_record in q)))
    by_judged (bad WrongCrc) q = unfold compact_record has_ended fault_number in refl
    by_judged (bad WrongLayout) q = unfold compact_record has_ended fault_number in refl
    by_judged (bad NotAllowed) q = unfold compact_record has_ended fault_number in refl

SameEffect : (s : Compact) (chunk : List ℕ) → Type 0
SameEffect s chunk =
    ((call_rule compact_journal s chunk).taken ≡ (read compact_journal s chunk).taken) × ((call_rule compact_journal s chunk).kept ≡ (read compact_journal s chunk).kept)

call_reads : (chunk : List ℕ) (s : Compact) → SameEffect s chunk
unfolding call_rule read SameEffect
call_reads [] s = (refl, refl)
call_reads (b ∷ chunk) s = decide (compact_journal.ended s) past (on (call_reads chunk (compact_journal.byte s b).kept))
  where
    past : compact_journal.ended s ≡ true → SameEffect s (b ∷ chunk)
    past e =
        let c = call_past compact_journal s (b ∷ chunk) e in
        let r = read_past compact_journal s (b ∷ chunk) e in (
          ap (λ (x : Effect Compact Fault). x.taken) c ∙ sym (ap (λ (x : Reading Compact Fault). x.taken) r),
          ap (λ (x : Effect Compact Fault). x.kept) c ∙ sym (ap (λ (x : Reading Compact Fault). x.kept) r),
        )

    on : SameEffect (compact_journal.byte s b).kept chunk → compact_journal.ended s ≡ false → SameEffect s (b ∷ chunk)
    on ih e = go (compact_journal.byte s b).event refl
      where
        r : (read compact_journal s (b ∷ chunk)).taken ≡ suc (read compact_journal (compact_journal.byte s b).kept chunk).taken
        r = ap (λ (x : Reading Compact Fault). x.taken) (read_byte compact_journal s b chunk e)

        k : (read compact_journal s (b ∷ chunk)).kept ≡ (read compact_journal (compact_journal.byte s b).kept chunk).kept
        k = ap (λ (x : Reading Compact Fault). x.kept) (read_byte compact_journal s b chunk e)

        go : (o : Option Fault) → (compact_journal.byte s b).event ≡ o → SameEffect s (b ∷ chunk)
        go None q =
            let c = call_on_lem compact_journal s b chunk e q in
            (ap (λ (x : Effect Compact Fault). x.taken) c ∙ ap suc ih.0 ∙ sym r, ap (λ (x : Effect Compact Fault). x.kept) c ∙ ih.1 ∙ sym k)
        go (Some fault) q =
            let c = call_event compact_journal s b chunk e fault q in
            let p = read_past compact_journal (compact_journal.byte s b).kept chunk (ends (with_byte s b) fault q) in (
              ap (λ (x : Effect Compact Fault). x.taken) c ∙ sym (r ∙ ap (λ (x : Reading Compact Fault). suc x.taken) p),
              ap (λ (x : Effect Compact Fault). x.kept) c ∙ sym (k ∙ ap (λ (x : Reading Compact Fault). x.kept) p),
            )

-- ---- the fault that a call brings is that of the state after it

step_fault : (s : Compact) → s.fault ≡ 0 → (compact_step s).kept.fault ≡ fault_code (compact_step s).event
unfolding compact_step fault_code
step_fault s e =
    either (λ (x : Step Compact Fault). x.kept.fault ≡ fault_code x.event) (is_begun_whole s.count s.front)
    (λ _. by_judged (judge_begun s.registry s.register s.front)) (λ _. e)
  where
    by_judged : (j : Judged) → (compact_record s j).kept.fault ≡ fault_code (compact_record s j).event
    by_judged (good after) = unfold compact_record in refl
    by_judged (bad fault) = unfold compact_record in refl

byte_fault : (s : Compact) (b : ℕ) → s.fault ≡ 0 → (compact_journal.byte s b).kept.fault ≡ fault_code (compact_journal.byte s b).event
unfolding with_byte
byte_fault s b e = step_fault (with_byte s b) e

brought : (chunk : List ℕ) (s : Compact) → s.fault ≡ 0 → (call_rule compact_journal s chunk).kept.fault ≡ fault_code (call_rule compact_journal s chunk).event
unfolding call_rule fault_code
brought [] s e = e
brought (b ∷ chunk) s e = go (λ h. brought chunk (compact_journal.byte s b).kept h) (first compact_journal s b)
  where
    next : Compact
    next = (compact_journal.byte s b).kept

    go : (next.fault ≡ 0 → (call_rule compact_journal next chunk).kept.fault ≡ fault_code (call_rule compact_journal next chunk).event)
        → First compact_journal s b → (call_rule compact_journal s (b ∷ chunk)).kept.fault ≡ fault_code (call_rule compact_journal s (b ∷ chunk)).event
    go ih (past p) = rw (call_past compact_journal s (b ∷ chunk) p) e
    go ih (brings p v h) = rw (call_event compact_journal s b chunk p v h) (byte_fault s b e ∙ ap fault_code h)
    go ih (on p h) = rw (call_on_lem compact_journal s b chunk p h) (ih (byte_fault s b e ∙ ap fault_code h))

no_fault : (fault kept count : ℕ) → has_ended fault kept count ≡ false → fault ≡ 0
unfolding has_ended
no_fault fault kept count e = eqb-true fault 0 (not_across _ _ (or_left _ _ e))

-- ---- what is said

said_fault : (o : Option Fault) (count : ℕ) → fault_in (said_of (fault_code o) count) ≡ o
unfolding said_of fault_code
said_fault None count = either (λ (s : Said). fault_in s ≡ None) (eqb count 0) (λ _. refl) (λ _. refl)
said_fault (Some WrongCrc) count = unfold fault_number fault_of in refl
said_fault (Some WrongLayout) count = unfold fault_number fault_of in refl
said_fault (Some NotAllowed) count = unfold fault_number fault_of in refl

not_refused : (fault count : ℕ) → refusal_in (said_of fault count) ≡ None
unfolding said_of
not_refused fault count =
    either (λ (s : Said). refusal_in s ≡ None) (not (eqb fault 0)) (λ _. refl) (λ _. either (λ (s : Said). refusal_in s ≡ None) (eqb count 0) (λ _. refl) (λ _. refl))

said_for_lem : (o : Option Fault) (held : List ℕ) → said_of (fault_code o) (length held) ≡ said_for o held
unfolding said_of fault_code
said_for_lem (Some WrongCrc) held = unfold fault_number fault_of in refl
said_for_lem (Some WrongLayout) held = unfold fault_number fault_of in refl
said_for_lem (Some NotAllowed) held = unfold fault_number fault_of in refl
said_for_lem None [] = refl
said_for_lem None (b ∷ held) = rw (ne_eqb (length (b ∷ held)) 0 (λ z. omega (arith, z)))

-- ---- THE CODE'S CALL IS `reading`'s

-- one call, on memory that holds s
one : (s : Compact) (chunk : List ℕ) → Reachable s
    → read_outcome s.registry (state_bytes s) chunk ≡ outcome_of (read compact_journal s chunk).taken (read compact_journal s chunk).kept
unfolding read_outcome
one s chunk r = rw (accepted s r, read_outcome, state_back s)

on_call : (s : Compact) (call : Call (Unit {0})) → Reachable s
    → (let e = call_rule compact_journal s call.chunk in
    call_on compact_journal journal_layout refusal (journal_layout.store s) call ≡ record { answer = took journal_layout e.taken e.event call; memory = journal_layout.store e.kept })
unfolding call_on
on_call s call r = rw (accepted s r, call_on, state_back s)

-- a call that takes a byte brings the fault that it says
gives : (s : Compact) (chunk : List ℕ)
    → (let e = call_rule compact_journal s chunk in (when eqb e.taken 0 then None else fault_in (said_of e.kept.fault e.kept.count)) ≡ e.event)
unfolding call_rule
gives s [] = refl
gives s (b ∷ chunk) =
    decide (compact_journal.ended s)
    (λ p. rw (call_past compact_journal s (b ∷ chunk) p))
    (λ p.
    let e : Effect Compact Fault = call_rule compact_journal s (b ∷ chunk) in
    let t = call_takes compact_journal s b chunk p in
    let f = brought (b ∷ chunk) s (no_fault s.fault s.kept s.count p) in
    rw (ne_eqb e.taken 0 (λ z. omega (arith, t, z)))
    (ap (λ (n : ℕ). fault_in (said_of n e.kept.count)) f ∙ said_fault e.event e.kept.count))

meets : Meets compact_journal journal_layout refusal ran_as Contract Reachable
unfolding outcome_of SameEffect
meets s call r h e =
    let c : Effect Compact Fault = call_rule compact_journal s call.chunk in
    let same = call_reads call.chunk s in
    ap ran_as (e ∙ one s call.chunk h ∙ ap₂ outcome_of (sym same.0) (sym same.1))
    ∙ (λ i. record {
      answer = record { refusal = not_refused c.kept.fault c.kept.count i; taken = c.taken; given = gives s call.chunk i };
      memory = record { registry = c.kept.registry; state = state_bytes c.kept };
    })
    ∙ sym (on_call s call h)

-- ---- all calls

-- the state s, after n bytes
abbrev seen_as : (n : ℕ) → Compact → ReadBack
seen_as n s = record { said = said_of s.fault s.count; taken = n; kept = s.kept; registry = s.registry }

reached : (s : Compact) (chunk : List ℕ) → Reachable s → Reachable (read compact_journal s chunk).kept
reached s chunk r = always compact_journal Reachable (λ t b h e. goes_on t b h e) s r chunk

-- what they come to, and what they leave
record All (chunks : List (List ℕ)) (runs : List ReadOutcome) (s : Compact) (n : ℕ) : Type 0 where
  back : read_by (seen_as n s) runs ≡ seen_as (n + (read compact_journal s (flatten chunks)).taken) (read compact_journal s (flatten chunks)).kept
  left : left_after ran_as (journal_layout.store s) runs ≡ journal_layout.store (read compact_journal s (flatten chunks)).kept

all_read : (chunks : List (List ℕ)) (runs : List ReadOutcome) (s : Compact) (n : ℕ) → Reachable s → Reads (journal_layout.store s) chunks runs → All chunks runs s n
unfolding flatten outcome_of read
all_read [] [] s n h p = record { back = ap (λ (m : ℕ). seen_as m s) (let z : n ≡ n + 0 = omega arith in z); left = refl }
all_read [] (r ∷ runs) s n h p = absurd p
all_read (chunk ∷ chunks) [] s n h p = absurd p
all_read (chunk ∷ chunks) (r ∷ runs) s n h (e, p) =
    let t : ℕ = (read compact_journal s chunk).taken in
    let k : Compact = (read compact_journal s chunk).kept in
    let o : r ≡ outcome_of t k = e ∙ one s chunk h in
    let m : (ran_as r).memory ≡ journal_layout.store k = ap (λ (x : ReadOutcome). (ran_as x).memory) o in
    let ih = all_read chunks runs k (n + t) (reached s chunk h) (subst (λ (x : Memory). Reads x chunks runs) m p) in
    let a = read_append compact_journal s chunk (flatten chunks) in
    record {
      back = ap (λ (x : ReadOutcome). read_by (record { said = x.said; taken = n + x.taken; kept = x.kept; registry = x.registry }) runs) o
          ∙ ih.back
          ∙ ap (λ (m : ℕ). seen_as m (read compact_journal k (flatten chunks)).kept) (let z : n + t + (read compact_journal k (flatten chunks)).taken ≡ n + (t + (read compact_journal k (flatten chunks)).taken) = omega arith in z)
          ∙ ap (λ (x : Reading Compact Fault). seen_as (n + x.taken) x.kept) (sym a);
      left = ap (λ (x : Memory). left_after ran_as x runs) m
          ∙ ih.left
          ∙ ap (λ (x : Reading Compact Fault). journal_layout.store x.kept) (sym a);
    }

module _ (registry : List ℕ) (w : well_formed_registry registry ≡ true) where
  abbrev begin : Compact
  begin = between registry 0 0

  fresh : begun_on registry ≡ journal_layout.store begin
  unfolding fresh_state state_bytes
  fresh = refl

  start : Reachable begin
  start = (sound registry w).begins

  pieces : (chunks : List (List ℕ)) (runs : List ReadOutcome) → Reads (begun_on registry) chunks runs → All chunks runs begin 0
  pieces chunks runs p = all_read chunks runs begin 0 start (subst (λ (m : Memory). Reads m chunks runs) fresh p)

  pub file_back : (file : List ℕ) → is_file file → ReadsAs registry file (read_back registry file)
  unfolding said_of
  file_back file (b, l) chunks runs e p =
      (pieces chunks runs p).back
      ∙ ap (λ (f : List ℕ). seen_as (0 + (read compact_journal begin f).taken) (read compact_journal begin f).kept) e
      ∙ ap (λ (a : Reading Compact Fault). seen_as (0 + a.taken) a.kept) (compact_reads registry file b l)
      ∙ as_uncut (read_journal registry file)
    where
      as_uncut : (a : Reading Kept Fault) → seen_as (0 + a.taken) (compact_of a.kept) ≡ read_back_in a
      as_uncut a = λ i. record {
        said = said_for_lem a.kept.fault a.kept.held i;
        taken = zero-add a.taken i;
        kept = a.kept.kept;
        registry = a.kept.registry;
      }

  well : (chunks : List (List ℕ)) (runs : List ReadOutcome) → Reads (begun_on registry) chunks runs
      → (let left : Memory = left_after ran_as (begun_on registry) runs in (well_formed_registry left.registry ≡ true) × (well_formed_state left.state ≡ true))
  well chunks runs p =
      let k : Compact = (read compact_journal begin (flatten chunks)).kept in
      let r : Reachable k = reached begin (flatten chunks) start in
      let left = ap (λ (m : Memory). left_after ran_as m runs) fresh ∙ (pieces chunks runs p).left in
      (ap (λ (m : Memory). well_formed_registry m.registry) left ∙ r.good, ap (λ (m : Memory). well_formed_state m.state) left ∙ state_good k r)

  journal_cut : Cut compact_journal journal_layout refusal ran_as Contract (λ _. true) (begun_on registry) (read compact_journal begin)
  journal_cut =
      subst (λ (m : Memory). Cut compact_journal journal_layout refusal ran_as Contract (λ _. true) m (read compact_journal begin)) (sym fresh)
      (cut_theorem (sound registry w) ran_as Contract meets (read compact_journal begin) refl)

-- ---- THE CLAIMS

pub in_pieces : InPieces
in_pieces registry w = record { cut = journal_cut registry w; file = file_back registry w; well_formed_lem = well registry w }

-- one call, on any memory: it is refused, or leaves a state that a call can meet
module _ (registry state chunk : List ℕ) where
  abbrev refused_as : Said → ReadOutcome
  refused_as said = record { said = said; taken = 0; kept = 0; state = state; registry = registry }

  refused_call : (said : Said) → read_refusal registry state ≡ Some said → read_outcome registry state chunk ≡ refused_as said
  unfolding read_outcome
  refused_call said e = rw (e, read_outcome)

  well_there : read_refusal registry state ≡ None → Reachable (compact_in registry state)
  unfolding read_refusal
  well_there e =
      let tests : List (Bool × Said) = (not (well_formed_registry registry), RegistryIllFormed) ∷ (not (well_formed_state state), StateIllFormed) ∷ [] in
      reachable_in registry state (not_across _ _ (none_at tests 0 StateIllFormed e)) (not_across _ _ (none_at tests 1 StateIllFormed e))

  by_refusal : (P : ReadOutcome → Type 0) → ((said : Said) → P (refused_as said)) → ((s : Compact) (n : ℕ) → Reachable s → P (outcome_of n s)) → P (read_outcome registry state chunk)
  unfolding read_outcome
  by_refusal P f g = go (read_refusal registry state) refl
    where
      go : (o : Option Said) → read_refusal registry state ≡ o → P (read_outcome registry state chunk)
      go (Some said) e = rw (e, read_outcome) (f said)
      go None e =
          let a : Reading Compact Fault = read compact_journal (compact_in registry state) chunk in
          rw (e, read_outcome) (g a.kept a.taken (reached (compact_in registry state) chunk (well_there e)))

pub keeps_memory : KeepsMemory
unfolding outcome_of
keeps_memory = record {
  registry = λ registry state chunk w. by_refusal registry state chunk (λ (o : ReadOutcome). well_formed_registry o.registry ≡ true) (λ _. w) (λ s n r. r.good);
  state = λ registry state chunk w. by_refusal registry state chunk (λ (o : ReadOutcome). well_formed_state o.state ≡ true) (λ _. w) (λ s n r. state_good s r);
  refused = refused_call;
}
