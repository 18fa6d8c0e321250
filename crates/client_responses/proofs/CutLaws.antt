-- The reader of a response is one that the cut theorem asks for; and no call and no beginning leaves an ill-formed state.
use Rattle.std.proofs.Common.{Option, Some, None, Ok, is_some}
use mathlib.Core.Path.{◌≡◌, refl, ap, subst, ◌∙◌}
use Prim.Native.Nat.{ℕ, ◌≤◌}
use mathlib.Core.Bool.{true, false, true≢false}
use mathlib.Core.List.{List, [], ◌∷◌}
use native.Mathlib.Omega.{arith}
use lib.ListN.{length, take, length-append}
use lib.Dec.{eqb}
use Rattle.reading.specs.Reader.{Reading}
use Rattle.reading.specs.Call.{call_rule}
use Rattle.reading.specs.Claims.{Sound}
use Rattle.reading.proofs.ReaderLaws.{always, decide}
use Rattle.reading.proofs.CallLaws.{call_facts}
use Rattle.client_responses.specs.Reading.{Asked, Reply, found, response_reader}
use Rattle.client_responses.specs.State.{response_most, state_size, state_bytes, asked_in, bytes_in, layout, well_formed_state, begin_state, ReadOutcome, refusal, read_outcome}
use Rattle.client_responses.proofs.StateLaws.{is_listed, is_type, Listed, held_back, well_there, well}
use Rattle.client_responses.proofs.FoundLaws.{wanted}
use Rattle.client_responses.proofs.ReadLaws.{outcome}

-- what is kept is never longer than the longest response
abbrev pub Fits : (kept : List ℕ) → Type 0
Fits kept = length kept ≤ response_most

pub none_of : (o : Option Reply) → is_some o ≡ false → o ≡ None
none_of None e = refl
none_of (Some v) e = absurd (true≢false e)

module _ (asked : Asked) where
  -- a byte behind bytes of which nothing is said yet
  goes_on : (s : List ℕ) (b : ℕ) → Fits s → (response_reader asked).ended s ≡ false → Fits ((response_reader asked).byte s b).kept
  unfolding response_reader
  goes_on s b f e =
      let w = wanted asked s (none_of (found asked s) e) in
      let more = w.more in
      let few = w.few in
      omega (arith, length-append s (b ∷ []))

  pub call_fits : (s chunk : List ℕ) → Fits s → Fits (call_rule (response_reader asked) s chunk).kept
  call_fits s chunk f =
      let c = call_facts (response_reader asked) s chunk in
      subst (λ (r : Reading (List ℕ) Reply). Fits r.kept) c.reads
      (always (response_reader asked) Fits goes_on s f (take (call_rule (response_reader asked) s chunk).taken chunk))

  module _ (listed : Listed asked) where
    pub sound : Sound (response_reader asked) [] (layout asked) refusal (λ _. true) Fits
    unfolding response_reader layout refusal
    sound = record {
      begins = omega arith;
      goes_on = goes_on;
      loads = λ s f. held_back asked s;
      accepts = λ s call f _. rw (well_there asked s f listed);
    }

-- ---- NO CALL LEAVES an ill-formed state: from a well-formed one
pub call_leaves : (memory chunk : List ℕ) → well_formed_state memory ≡ true → well_formed_state (read_outcome memory chunk).memory ≡ true
call_leaves memory chunk w =
    let v = well memory w in
    let few = v.few in
    let long = v.long in
    ap (λ (o : ReadOutcome). well_formed_state o.memory) (outcome memory chunk w _ _ refl refl)
    ∙ well_there (asked_in memory) _ (call_fits (asked_in memory) (bytes_in memory) chunk (omega arith)) v.listed

-- ---- and no beginning

-- what is begun is for a listed opcode and accept type, and holds nothing
pub record BeginFacts (memory : List ℕ) (asked : Asked) : Type 0 where
  pub listed : Listed asked
  pub empty : (begin_state memory asked).memory ≡ state_bytes asked []

pub begun : (memory : List ℕ) (asked : Asked) → (begin_state memory asked).answer ≡ Ok tt → BeginFacts memory asked
unfolding begin_state
begun memory asked e =
    decide (eqb (length memory) state_size)
    (λ s. decide (is_listed asked.opcode)
    (λ l. decide (is_type asked.accept_type)
    (λ t. record { listed = (l, t); empty = rw (s, l, t, begin_state) })
    (λ t. absurd (let q = rw (s, l, t, begin_state) at e in let z : ◌≡◌ {A = ℕ} 0 1 = cc in omega arith)))
    (λ l. absurd (let q = rw (s, l, begin_state) at e in let z : ◌≡◌ {A = ℕ} 0 1 = cc in omega arith)))
    (λ s. absurd (let q = rw (s, begin_state) at e in let z : ◌≡◌ {A = ℕ} 0 1 = cc in omega arith))

pub begin_leaves : (memory : List ℕ) (asked : Asked) → (begin_state memory asked).answer ≡ Ok tt → well_formed_state (begin_state memory asked).memory ≡ true
begin_leaves memory asked e = let b = begun memory asked e in ap well_formed_state b.empty ∙ well_there asked [] (omega arith) b.listed
