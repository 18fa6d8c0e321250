-- Calls of code whose contract is `call_on` are the definition's calls, and so are those of a caller that hands over what is left.
use Rattle.std.proofs.Common.{Option}
use mathlib.Core.Path.{◌≡◌, refl, sym, ap, ◌∙◌, subst}
use Prim.Native.Nat.{ℕ, zero, suc}
use mathlib.Core.Bool.{Bool, true, ◌&&◌}
use mathlib.Core.List.{List, [], ◌∷◌}
use lib.ListN.{drop}
use Rattle.wire.specs.Lists.{all}
use Rattle.reading.specs.Reader.{Reader}
use Rattle.reading.specs.Calls.{Call, Layout, CallOutcome, CallsOutcome, call_on, leaving}
use Rattle.reading.specs.code.Calls.{calls_on, hand_over}
use Rattle.reading.specs.Claims.{ran_outcome, Runs, handed_over}

-- on memory of which `Held` holds, which calls leave so
module _ {Memory Kept Event Lent Given Code Ran : Type 0} (R : Reader Kept Event) (L : Layout Memory Kept Event Lent Given) (refusal : Memory → Call Lent → Option Code)
    (outcome : Ran → CallOutcome Memory Code Given) (Contract : Memory → Call Lent → Ran → Type 0) (Held : Memory → Type 0)
    (meets : (m : Memory) (call : Call Lent) (r : Ran) → Held m → Contract m call r → outcome r ≡ call_on R L refusal m call)
    (keeps : (m : Memory) (call : Call Lent) → Held m → Held (call_on R L refusal m call).memory) where
  -- what a call of the code leaves holds as well
  held_on : (m : Memory) (call : Call Lent) (r : Ran) → Held m → Contract m call r → Held (outcome r).memory
  held_on m call r h e = subst (λ (o : CallOutcome Memory Code Given). Held o.memory) (sym (meets m call r h e)) (keeps m call h)

  pub ran : (calls : List (Call Lent)) (m : Memory) (runs : List Ran) → Held m → Runs outcome Contract m calls runs → calls_on R L refusal m calls ≡ ran_outcome outcome m runs
  unfolding calls_on
  ran [] m [] h p = refl
  ran [] m (r ∷ runs) h p = absurd p
  ran (call ∷ calls) m [] h p = absurd p
  ran (call ∷ calls) m (r ∷ runs) h (e, p) =
      ap (λ (o : CallOutcome Memory Code Given).
      (let x : CallsOutcome Memory Code Given = record { answers = o.answer ∷ (calls_on R L refusal o.memory calls).answers; memory = (calls_on R L refusal o.memory calls).memory } in x))
      (sym (meets m call r h e))
      ∙ ap (λ (o : CallsOutcome Memory Code Given). (let x : CallsOutcome Memory Code Given = record { answers = (outcome r).answer ∷ o.answers; memory = o.memory } in x))
      (ran calls (outcome r).memory runs (held_on m call r h e) p)

  module _ (lent : ℕ → Lent) where
    pub handed : (most : ℕ) (m : Memory) (chunks : List (List ℕ)) (runs : List Ran) → Held m → Runs outcome Contract m (handed_over outcome most lent chunks runs) runs
        → handed_over outcome most lent chunks runs ≡ hand_over R L refusal most lent m chunks
    unfolding hand_over
    handed zero m chunks runs h p = refl
    handed (suc most) m [] runs h p = refl
    handed (suc most) m (chunk ∷ chunks) [] h p = absurd p
    handed (suc most) m (chunk ∷ chunks) (r ∷ runs) h (e, p) =
        let call : Call Lent = record { chunk = chunk; lent = lent most } in
        ap (λ (calls : List (Call Lent)). call ∷ calls)
        (handed most (outcome r).memory (leaving (drop (outcome r).answer.taken chunk) chunks) runs (held_on m call r h e) p
        ∙ ap (λ (o : CallOutcome Memory Code Given). hand_over R L refusal most lent o.memory (leaving (drop o.answer.taken chunk) chunks)) (meets m call r h e))

-- a caller that lends only what is fine makes fine calls only
module _ {Memory Lent Given Code Ran : Type 0} (outcome : Ran → CallOutcome Memory Code Given) (fine : Call Lent → Bool) (lent : ℕ → Lent)
    (good : (k : ℕ) (chunk : List ℕ) → fine (record { chunk = chunk; lent = lent k }) ≡ true) where
  pub handed_fine : (most : ℕ) (chunks : List (List ℕ)) (runs : List Ran) → all fine (handed_over outcome most lent chunks runs) ≡ true
  handed_fine zero chunks runs = refl
  handed_fine (suc most) [] runs = refl
  handed_fine (suc most) (chunk ∷ chunks) [] = ap (λ (t : Bool). t && true) (good most chunk)
  handed_fine (suc most) (chunk ∷ chunks) (r ∷ runs) =
      ap (λ (t : Bool). t && all fine (handed_over outcome most lent (leaving (drop (outcome r).answer.taken chunk) chunks) runs)) (good most chunk)
      ∙ handed_fine most (leaving (drop (outcome r).answer.taken chunk) chunks) runs
