-- A call as the code says it, from the code of C1 to C7 and from what serving it has done.
use Rattle.std.proofs.Common.{Option, Some, None, option_map, Result, Ok, Err}
use Prim.Native.Nat.{ℕ}
use mathlib.Core.Path.{◌≡◌, refl, sym, ap, ◌∙◌}
use mathlib.Core.List.{List}
use Rattle.wire.specs.Choice.{first_of}
use Rattle.reading.specs.Calls.{took}
use Rattle.reading.specs.Call.{Effect}
use Rattle.reading.specs.Buffer.{written}
use Rattle.stream.specs.Rules.{State}
use Rattle.stream.specs.Handed.{Handed, give}
use Rattle.judgement.specs.Counts.{Counts}
use Rattle.counters.specs.code.Counted.{counted}
use Rattle.counters.specs.declared.Counters.{Counters}
use Rattle.service.specs.Refusals.{refusal_number}
use Rattle.service.specs.Call.{Memory, memory_of, layout, Call, Answer, refusal_tests, refusal_of, call_outcome}
use Rattle.service.specs.Contract.{lent_memory, call_with, code_number, refusal_in, CallContract}
use Rattle.service.specs.code.Called.{code_for, answer_of, ran_by}
use Rattle.service.specs.code.Served.{WroteAny, Carried, effect_of}
use Rattle.service.specs.declared.Refusal.{Refusal}
use Rattle.service.specs.declared.Refusal.TheVariants.{ResponseBufferTooSmall, ChunkTooLong, ConnectionIllFormed, RegistryIllFormed, CounterTooHigh, ListIllFormed, JournalBufferTooSmall}
use Rattle.service.specs.declared.Handled.{Handled}
use Rattle.service.proofs.CallLaws.{refused_outcome, taken_outcome}

taken_none : (o : Option Refusal) → code_for o ≡ Ok tt → o ≡ None
unfolding code_for
taken_none None e = refl
taken_none (Some refusal) e = cc

refused_some : (o : Option Refusal) (refusal : Refusal) → code_for o ≡ Err refusal → o ≡ Some refusal
unfolding code_for
refused_some None refusal e = cc
refused_some (Some other) refusal e = cc

-- a refusal's number says that refusal
said : (refusal : Refusal) → refusal_in (refusal_number refusal) ≡ Some (refusal_number refusal)
unfolding refusal_in refusal_number
said ResponseBufferTooSmall = refl
said ChunkTooLong = refl
said ConnectionIllFormed = refl
said RegistryIllFormed = refl
said CounterTooHigh = refl
said ListIllFormed = refl
said JournalBufferTooSmall = refl

module _ (list connection registry : List ℕ) (counters : Counters) (chunk buffer journal : List ℕ) where
  abbrev m : Memory
  m = lent_memory connection registry counters

  abbrev call : Call
  call = call_with chunk buffer journal

  pub taken_passes : (code : Result (Unit {0}) Refusal) → code ≡ code_for (first_of (refusal_tests list m call)) → code ≡ Ok tt → refusal_of list m call ≡ None
  unfolding refusal_of
  taken_passes code e t = ap (option_map refusal_number) (taken_none (first_of (refusal_tests list m call)) (sym e ∙ t))

  -- a refused call leaves all as it was
  pub refused_call : (code : Result (Unit {0}) Refusal) (refusal : Refusal) → code ≡ code_for (first_of (refusal_tests list m call)) → code ≡ Err refusal
      → CallContract list m call (ran_by (answer_of (Err refusal)) m buffer journal)
  unfolding code_number refusal_of layout give written
  refused_call code refusal e t =
      ap (λ (x : Option ℕ). record { answer = record { refusal = x; taken = 0; given = record { response = record { count = 0; buffer = buffer }; journal = record { count = 0; buffer = journal } } }; memory = m }) (said refusal)
      ∙ sym (refused_outcome list m call (refusal_number refusal) (ap (option_map refusal_number) (refused_some (first_of (refusal_tests list m call)) refusal (sym e ∙ t))))

  took_all : (n w r : ℕ) (o : Option Handed) (after journal' : List ℕ) → WroteAny o buffer after journal journal' w r
      → record { refusal = None; taken = n; given = record { response = record { count = w; buffer = after }; journal = record { count = r; buffer = journal' } } } ≡ took {Code = ℕ} layout n o call
  unfolding layout give written
  took_all n w r None after journal' (none_written, stays, none-recorded, keeps) =
      λ i. record { refusal = None; taken = n; given = record { response = record { count = none_written i; buffer = stays i }; journal = record { count = none-recorded i; buffer = keeps i } } }
  took_all n w r (Some h) after journal' (wrote, noted) =
      λ i. record { refusal = None; taken = n; given = record { response = record { count = wrote.count i; buffer = wrote.bytes i }; journal = record { count = noted.count i; buffer = noted.bytes i } } }

  -- a call that is served says and leaves what was carried out
  pub taken_call : (left kept after journal' : List ℕ) (h : Handled) → refusal_of list m call ≡ None
      → Carried counters (effect_of list m chunk) left kept buffer after journal journal' h
      → CallContract list m call (ran_by (answer_of (Ok h)) (lent_memory left kept (counted counters h.added)) after journal')
  unfolding refusal_in code_number memory_of
  taken_call left kept after journal' h passed done =
      let e : Effect (State (List ℕ) Counts) Handed = effect_of list m chunk in
      (λ i. record {
        answer =
            record {
              refusal = None;
              taken = done.taken_is i;
              given = record { response = record { count = h.written; buffer = after }; journal = record { count = h.recorded; buffer = journal' } };
            };
        memory = record { connection = done.connection_is i; registry = done.registry_is i; counters = done.counters_is i };
      })
      ∙ ap (λ (x : Answer). record { answer = x; memory = memory_of e.kept }) (took_all e.taken h.written h.recorded e.event after journal' done.written_is)
      ∙ sym (taken_outcome list m call passed)
