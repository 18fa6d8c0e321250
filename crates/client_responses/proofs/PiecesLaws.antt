-- A RESPONSE READ IN PIECES by the code: its calls are the definition's, so that the cut theorem speaks of them.
use Rattle.std.proofs.Common.{Option, Some, None, is_some}
use mathlib.Core.Path.{◌≡◌, refl, sym, ap, ap₂, subst, ◌∙◌}
use Prim.Native.Nat.{ℕ}
use mathlib.Core.Bool.{true, false, true≢false}
use mathlib.Core.List.{List, [], ◌∷◌, ◌++◌, append-nil, append_assoc}
use native.Mathlib.Omega.{arith}
use borrow.Author.Tests.{ne_eqb}
use lib.ListN.{take}
use lib.Seq.{take-length}
use lib.Dec.{eqb}
use Rattle.wire.specs.Choice.{when◌then◌else◌}
use Rattle.reading.specs.Reader.{Reader, read}
use Rattle.reading.specs.Call.{Effect, call_rule}
use Rattle.reading.specs.Calls.{Call, took, call_on, taken_stream}
use Rattle.reading.specs.Claims.{answers_in, left_after, Meets, Cut}
use Rattle.reading.proofs.ReaderLaws.{decide, read_past, read_byte}
use Rattle.reading.proofs.CallLaws.{First, past, brings, on, first, call_past, call_event, call_on_lem}
use Rattle.reading.proofs.DeliveryLaws.{call_takes}
use Rattle.reading.proofs.CutLaws.{cut_theorem}
use Rattle.client_responses.specs.Reading.{Asked, Reply, found, response_reader}
use Rattle.client_responses.specs.State.{state_bytes, bytes_in, layout, Said, waiting, said_of, ReadOutcome, refusal, read_outcome}
use Rattle.client_responses.specs.Claims.{ReadRun, Contract, refusal_in, reply_in, as_call, ran_as, Reads, last_said, ReadsInPieces, InPieces, KeepsStates}
use Rattle.client_responses.proofs.StateLaws.{Listed, asked_back, held_back, well_there}
use Rattle.client_responses.proofs.ReadLaws.{outcome, outcome_refused}
use Rattle.client_responses.proofs.CutLaws.{Fits, none_of, sound, call_fits, call_leaves, begun, begin_leaves}

reply_back : (o : Option Reply) → reply_in (said_of o) ≡ o
reply_back None = refl
reply_back (Some reply) = refl

not_refused : (o : Option Reply) → refusal_in (said_of o) ≡ None
not_refused None = refl
not_refused (Some reply) = refl

module _ (asked : Asked) where
  abbrev R : Reader (List ℕ) Reply
  R = response_reader asked

  -- ---- what a call brings is what is found in the bytes after it

  going : (s : List ℕ) → found asked s ≡ None → R.ended s ≡ false
  unfolding response_reader
  going s e = ap is_some e

  not_ended : (s : List ℕ) → R.ended s ≡ false → found asked s ≡ None
  unfolding response_reader
  not_ended s e = none_of (found asked s) e

  brought : (chunk s : List ℕ) → found asked s ≡ None → found asked (call_rule R s chunk).kept ≡ (call_rule R s chunk).event
  unfolding call_rule response_reader
  brought [] s e = e
  brought (b ∷ chunk) s e = go (λ h. brought chunk (R.byte s b).kept h) (first R s b)
    where
      go : (found asked (R.byte s b).kept ≡ None → found asked (call_rule R (R.byte s b).kept chunk).kept ≡ (call_rule R (R.byte s b).kept chunk).event)
          → First R s b → found asked (call_rule R s (b ∷ chunk)).kept ≡ (call_rule R s (b ∷ chunk)).event
      go ih (past p) = absurd (true≢false (sym p ∙ going s e))
      go ih (brings p v h) = rw (call_event R s b chunk p v h) h
      go ih (on p h) = rw (call_on_lem R s b chunk p h) (ih h)

  -- if it takes a byte; else it brings nothing
  gives : (s chunk : List ℕ) → (when eqb (call_rule R s chunk).taken 0 then None else found asked (call_rule R s chunk).kept) ≡ (call_rule R s chunk).event
  unfolding call_rule
  gives s [] = refl
  gives s (b ∷ chunk) =
      decide (R.ended s)
      (λ p. rw (call_past R s (b ∷ chunk) p))
      (λ p.
      let t = call_takes R s b chunk p in
      rw (ne_eqb (call_rule R s (b ∷ chunk)).taken 0 (λ z. omega (arith, t, z))) (brought (b ∷ chunk) s (not_ended s p)))

  -- what the uncut reader keeps are the bytes that it takes
  keeps : (bytes s : List ℕ) → (read R s bytes).kept ≡ s ++ take (read R s bytes).taken bytes
  unfolding read response_reader
  keeps [] s = sym (append-nil s)
  keeps (b ∷ bytes) s = decide (R.ended s) (λ p. rw (read_past R s (b ∷ bytes) p) (sym (append-nil s))) (on_byte (keeps bytes (s ++ (b ∷ []))))
    where
      on_byte : (read R (s ++ (b ∷ [])) bytes).kept ≡ (s ++ (b ∷ [])) ++ take (read R (s ++ (b ∷ [])) bytes).taken bytes
          → R.ended s ≡ false → (read R s (b ∷ bytes)).kept ≡ s ++ take (read R s (b ∷ bytes)).taken (b ∷ bytes)
      on_byte ih p = rw (read_byte R s b bytes p) (ih ∙ append_assoc s (b ∷ []) (take (read R (s ++ (b ∷ [])) bytes).taken bytes))

  module _ (listed : Listed asked) where
    -- ---- one call of the code, on a state that holds `s`

    one : (s chunk : List ℕ) → Fits s
        → (let e = call_rule R s chunk in read_outcome (state_bytes asked s) chunk ≡ record { said = said_of (found asked e.kept); taken = e.taken; memory = state_bytes asked e.kept })
    one s chunk f =
        outcome (state_bytes asked s) chunk (well_there asked s f listed) _ _ refl refl
        ∙ ap₂ (λ (a : Asked) (h : List ℕ).
        let e = call_rule (response_reader a) h chunk in
        (let x : ReadOutcome = record { said = said_of (found a e.kept); taken = e.taken; memory = state_bytes a e.kept } in x)) (asked_back asked s) (held_back asked s)

    on_call : (s : List ℕ) (call : Call (Unit {0})) → Fits s
        → (let e = call_rule R s call.chunk in
        call_on R (layout asked) refusal (state_bytes asked s) call ≡ record { answer = took (layout asked) e.taken e.event call; memory = state_bytes asked e.kept })
    unfolding call_on refusal layout
    on_call s call f = rw (well_there asked s f listed, call_on, held_back asked s)

    -- THE CODE'S CALL IS `reading`'s
    meets : Meets R (layout asked) refusal ran_as Contract Fits
    unfolding layout
    meets s call r f e =
        let c : Effect (List ℕ) Reply = call_rule R s call.chunk in
        ap as_call (e ∙ one s call.chunk f)
        ∙ (λ i. record {
          answer = record {
            refusal = not_refused (found asked c.kept) i;
            taken = c.taken;
            given = (ap (λ (o : Option Reply). when eqb c.taken 0 then None else o) (reply_back (found asked c.kept)) ∙ gives s call.chunk) i;
          };
          memory = state_bytes asked c.kept;
        })
        ∙ sym (on_call s call f)

    pub response_cut : Cut R (layout asked) refusal ran_as Contract (λ _. true) (state_bytes asked []) (read R [])
    unfolding layout
    response_cut = cut_theorem (sound asked listed) ran_as Contract meets (read R []) refl

    -- ---- all calls

    kept_all : (calls : List (Call (Unit {0}))) (runs : List ReadRun) → Reads (state_bytes asked []) calls runs
        → left_after ran_as (state_bytes asked []) runs ≡ state_bytes asked (taken_stream calls (answers_in ran_as runs))
    unfolding layout
    kept_all calls runs p =
        let f = response_cut.follows calls runs p in
        let stream : List ℕ = taken_stream calls (answers_in ran_as runs) in
        f.memory ∙ ap (state_bytes asked) (keeps stream [] ∙ ap (λ (n : ℕ). take n stream) f.taken ∙ take-length stream)

    -- a call says what is found in what it leaves
    says_left : (s : List ℕ) → Fits s → (calls : List (Call (Unit {0}))) (runs : List ReadRun) → Reads (state_bytes asked s) calls runs
        → last_said (said_of (found asked s)) runs ≡ said_of (found asked (bytes_in (left_after ran_as (state_bytes asked s) runs)))
    says_left s f [] [] p = ap (λ (b : List ℕ). said_of (found asked b)) (sym (held_back asked s))
    says_left s f [] (r ∷ runs) p = absurd p
    says_left s f (call ∷ calls) [] p = absurd p
    says_left s f (call ∷ calls) (r ∷ runs) (e, p) =
        let o = e ∙ one s call.chunk f in
        let k : List ℕ = (call_rule R s call.chunk).kept in
        let left : r.memory ≡ state_bytes asked k = ap (λ (x : ReadOutcome). x.memory) o in
        ap (λ (x : ReadOutcome). last_said x.said runs) o
        ∙ says_left k (call_fits asked s call.chunk f) calls runs (subst (λ (m : List ℕ). Reads m calls runs) left p)
        ∙ ap (λ (m : List ℕ). said_of (found asked (bytes_in (left_after ran_as m runs)))) (sym left)

    nothing_yet : said_of (found asked []) ≡ waiting
    unfolding found
    nothing_yet = refl

    says_all : (calls : List (Call (Unit {0}))) (runs : List ReadRun) → Reads (state_bytes asked []) calls runs
        → last_said waiting runs ≡ said_of (found asked (taken_stream calls (answers_in ran_as runs)))
    says_all calls runs p =
        ap (λ (x : Said). last_said x runs) (sym nothing_yet)
        ∙ says_left [] (omega arith) calls runs p
        ∙ ap (λ (m : List ℕ). said_of (found asked (bytes_in m))) (kept_all calls runs p)
        ∙ ap (λ (b : List ℕ). said_of (found asked b)) (held_back asked (taken_stream calls (answers_in ran_as runs)))

    pub pieces : ReadsInPieces asked (state_bytes asked [])
    pieces = record { cut = response_cut; kept = kept_all; says = says_all }

-- ---- THE CLAIMS

pub in_pieces : InPieces
in_pieces memory asked e = let b = begun memory asked e in subst (ReadsInPieces asked) (sym b.empty) (pieces asked b.listed)

pub keeps_states : KeepsStates
keeps_states = record { call = call_leaves; begin = begin_leaves; ill_formed_lem = outcome_refused }
