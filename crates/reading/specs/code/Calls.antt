-- The definition's own lists of calls, for proofs. No part of the reading copy.
use Rattle.std.specs.Prelude.{ℕ, zero, suc, List, [], ◌∷◌, drop, Option}
use Rattle.reading.specs.Reader.{Reader}
use Rattle.reading.specs.Calls.{Call, Layout, CallsOutcome, call_on, leaving}

module _ {Memory Kept Event Lent Given Code : Type 0} (R : Reader Kept Event) (L : Layout Memory Kept Event Lent Given)
    (refusal : Memory → Call Lent → Option Code) where
  -- a list of calls, one after the other
  unfoldable pub calls_on : Memory → List (Call Lent) → CallsOutcome Memory Code Given
  calls_on m [] = record { answers = []; memory = m }
  calls_on m (call ∷ calls) =
      let first = call_on R L refusal m call in
      let rest = calls_on first.memory calls in
      record { answers = first.answer ∷ rest.answers; memory = rest.memory }

  -- the calls of a caller that hands over what is left of a chunk again, at most `most` of them; `lent k` is what else is
  -- lent when k more may follow
  unfoldable pub hand_over : (most : ℕ) (lent : ℕ → Lent) → Memory → (chunks : List (List ℕ)) → List (Call Lent)
  hand_over zero lent m chunks = []
  hand_over (suc most) lent m [] = []
  hand_over (suc most) lent m (chunk ∷ chunks) =
      let call : Call Lent = record { chunk = chunk; lent = lent most } in
      let first = call_on R L refusal m call in
      call ∷ hand_over most lent first.memory (leaving (drop first.answer.taken chunk) chunks)
