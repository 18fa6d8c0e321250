-- A call of the reader, case by case.
use Rattle.std.proofs.Common.{Some, None}
use mathlib.Core.Path.{◌≡◌, refl, ap, ap₂, ◌∙◌}
use mathlib.Core.Bool.{true, false}
use mathlib.Core.List.{List, [], ◌++◌, append-nil}
use Prim.Native.Nat.{ℕ, ◌+◌, ◌-◌, ◌≤◌}
use native.Mathlib.Omega.{arith}
use borrow.Author.Tests.{eq-eqb, ne_eqb}
use borrow.Rule.Slice.PartMut.{put_mid}
use lib.ListN.{length, take, drop, drop_of_length-le}
use lib.Seq.{length-take-le, drop_at}
use Rattle.wire.specs.Choice.{first_of}
use Rattle.wire.proofs.BufferLaws.{put_mid_lem, lent}
use Rattle.registry.specs.WellFormed.{well_formed_registry}
use Rattle.reading.specs.Reader.{Reading, read}
use Rattle.journal.specs.declared.Fault.{Fault}
use Rattle.journal.specs.declared.Fault.TheVariants.{WrongCrc, WrongLayout, NotAllowed}
use Rattle.journal.specs.declared.Progress.{Progress}
use Rattle.journal.specs.declared.read.Said.{Said}
use Rattle.journal.specs.declared.read.Said.TheVariants.{RegistryIllFormed, StateIllFormed, Waiting, AtBorder, Refused}
use Rattle.journal.specs.Compact.{front_most, Compact, compact_journal}
use Rattle.journal.specs.Memory.{front_at, state_size, state_bytes, compact_in, well_formed_state, read_refusal, fault_of, said_of, ReadOutcome, outcome_of, read_outcome}
use Rattle.journal.specs.Replay.{fault_number}
use Rattle.journal.specs.code.Done.{fault_code, compact_with, progress_in}

-- ---- what is said

pub say_refused : (fault : Fault) (count : ℕ) → Refused fault ≡ said_of (fault_code (Some fault)) count
unfolding said_of fault_of fault_code fault_number
say_refused WrongCrc count = refl
say_refused WrongLayout count = refl
say_refused NotAllowed count = refl

module _ (fault count : ℕ) where
  pub say_border : fault ≡ 0 → count ≡ 0 → AtBorder ≡ said_of fault count
  unfolding said_of
  say_border a b = rw (eq-eqb fault 0 a, eq-eqb count 0 b)

  pub say_waiting : fault ≡ 0 → (count ≡ 0 → ⊥) → Waiting ≡ said_of fault count
  unfolding said_of
  say_waiting a b = rw (eq-eqb fault 0 a, ne_eqb count 0 b)

  module _ (a : fault ≡ 0 → ⊥) where
    pub say_crc : fault ≡ 1 → Refused WrongCrc ≡ said_of fault count
    unfolding said_of fault_of
    say_crc b = rw (ne_eqb fault 0 a, eq-eqb fault 1 b)

    module _ (b : fault ≡ 1 → ⊥) where
      pub say_layout : fault ≡ 2 → Refused WrongLayout ≡ said_of fault count
      unfolding said_of fault_of
      say_layout c = rw (ne_eqb fault 0 a, ne_eqb fault 1 b, eq-eqb fault 2 c)

      pub say_other : (fault ≡ 2 → ⊥) → Refused NotAllowed ≡ said_of fault count
      unfolding said_of fault_of
      say_other c = rw (ne_eqb fault 0 a, ne_eqb fault 1 b, ne_eqb fault 2 c)

-- ---- what a call comes to

module _ (registry state chunk : List ℕ) where
  abbrev refused_as : Said → ReadOutcome
  refused_as said = record { said = said; taken = 0; kept = 0; state = state; registry = registry }

  by_refusal : (said : Said) → read_refusal registry state ≡ Some said → refused_as said ≡ read_outcome registry state chunk
  unfolding read_outcome
  by_refusal said e = rw (e, read_outcome)

  pub outcome_registry : well_formed_registry registry ≡ false → refused_as RegistryIllFormed ≡ read_outcome registry state chunk
  outcome_registry e = by_refusal RegistryIllFormed (unfold read_refusal first_of in rw e)

  module _ (good : well_formed_registry registry ≡ true) where
    pub outcome_state : well_formed_state state ≡ false → refused_as StateIllFormed ≡ read_outcome registry state chunk
    outcome_state e = by_refusal StateIllFormed (unfold read_refusal first_of in rw (good, e))

    module _ (well : well_formed_state state ≡ true) where
      abbrev R : Reading Compact Fault
      R = read compact_journal (compact_in registry state) chunk

      outcome_is : outcome_of R.taken R.kept ≡ read_outcome registry state chunk
      unfolding read_outcome
      outcome_is = rw (taken_on, read_outcome)
        where
          taken_on : read_refusal registry state ≡ None
          taken_on = unfold read_refusal first_of in rw (good, well)

      -- as the code has it: it starts from the state, reads on, and stores what it reached
      module _ (start : Progress) (loaded : start ≡ progress_in state) where
        abbrev lent_front : List ℕ
        lent_front = take (length state - front_at) (drop front_at state)

        start_is : compact_with registry start lent_front ≡ compact_in registry state
        unfolding compact_in progress_in
        start_is = ap₂ (compact_with registry) loaded (lent front_at state)

        pub outcome_read : (p : Progress) (taken : ℕ) (registry' front' stored : List ℕ) (said : Said) → length state ≡ state_size → length front' ≡ front_most
            → compact_with registry' p front' ≡ (read compact_journal (compact_with registry start lent_front) chunk).kept
            → taken ≡ (read compact_journal (compact_with registry start lent_front) chunk).taken
            → stored ≡ state_bytes (compact_with [] p (drop front_at (put_mid front_at (length state - front_at) state front')))
            → said ≡ said_of p.fault p.count
            → record { said = said; taken = taken; kept = p.kept; state = stored; registry = registry' } ≡ read_outcome registry state chunk
        unfolding outcome_of
        outcome_read p taken registry' front' stored said size long k t m s =
            let same = ap (λ (x : Compact). read compact_journal x chunk) start_is in
            let kept : compact_with registry' p front' ≡ R.kept = k ∙ ap (λ (a : Reading Compact Fault). a.kept) same in
            let front : drop front_at (put_mid front_at (length state - front_at) state front') ≡ front' = front_back in
            let bytes : stored ≡ state_bytes (compact_with registry' p front')
            = m ∙ ap (λ (l : List ℕ). state_bytes (compact_with [] p l)) front ∙ any_registry in
            let told : record { said = said; taken = taken; kept = p.kept; state = stored; registry = registry' } ≡ outcome_of R.taken (compact_with registry' p front')
            = (λ i. record { said = s i; taken = (t ∙ ap (λ (a : Reading Compact Fault). a.taken) same) i; kept = p.kept; state = bytes i; registry = registry' }) in
            told ∙ ap (outcome_of R.taken) kept ∙ outcome_is
          where
            any_registry : state_bytes (compact_with [] p front') ≡ state_bytes (compact_with registry' p front')
            any_registry = unfold state_bytes in refl

            front_back : drop front_at (put_mid front_at (length state - front_at) state front') ≡ front'
            front_back =
                let n : length front' ≡ length state - front_at = omega arith in
                let None : drop (front_at + length front') state ≡ [] = drop_of_length-le state (let x : length state ≤ front_at + length front' = omega arith in x) in
                ap (drop front_at) (put_mid_lem state front' front_at (length state - front_at) n ∙ ap (λ (l : List ℕ). take front_at state ++ front' ++ l) None ∙ append-nil (take front_at state ++ front'))
                ∙ drop_at (take front_at state) front' front_at (length-take-le front_at state (omega arith))
