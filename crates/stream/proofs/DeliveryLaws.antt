-- LIVENESS: a stream handed over chunk by chunk, what is left of a chunk again, is taken whole and no call is refused.
use Rattle.std.proofs.Common.{Option, None}
use mathlib.Core.Path.{◌≡◌, sym, ap, ap₂, ◌∙◌, subst}
use Prim.Native.Nat.{ℕ, ◌+◌, ◌≤◌}
use mathlib.Core.Bool.{true, ◌&&◌}
use mathlib.Core.List.{List, [], ◌∷◌, ◌++◌, flatten}
use native.Mathlib.Omega.{arith}
use borrow.Author.Tests.{le-leb, leb-true}
use lib.ListN.{length, take, drop, length-append, length-drop, take-append-drop}
use lib.Seq.{take-length}
use lib.Dec.{leb}
use Rattle.wire.proofs.TestLaws.{and_left, and_right}
use Rattle.reading.specs.Reader.{Reading, read}
use Rattle.reading.specs.Calls.{Call, Layout, leaving}
use Rattle.reading.specs.code.Calls.{calls_on, hand_over}
use Rattle.reading.specs.Claims.{enough}
use Rattle.reading.proofs.DeliveryLaws.{flatten_leaving, unrefused, delivered as delivered-reading}
use Rattle.stream.specs.Rules.{Judgement, State, rules}
use Rattle.stream.specs.Call.{reader, fresh, by_rules}
use Rattle.stream.specs.Claims.{within, TakenWhole}
use Rattle.stream.proofs.CallLaws.{rules_read}
use Rattle.stream.proofs.CallsLaws.{Lawful, loads_back}

-- no chunk is too long, nor is what is seen and left
record Fine (streamMost chunk_most : ℕ) (seen : List ℕ) (chunks : List (List ℕ)) : Type 0 where
  small : within chunk_most chunks ≡ true
  short : length seen + length (flatten chunks) ≤ streamMost

within_leaving : (most : ℕ) (left : List ℕ) (chunks : List (List ℕ)) → length left ≤ most → within most chunks ≡ true → within most (leaving left chunks) ≡ true
unfolding leaving
within_leaving most [] chunks h w = w
within_leaving most (b ∷ left) chunks h w = ap₂ ◌&&◌ (le-leb (length (b ∷ left)) most h) w

first_small : (most : ℕ) (chunk : List ℕ) (chunks : List (List ℕ)) → within most (chunk ∷ chunks) ≡ true → length chunk ≤ most
first_small most chunk chunks w = leb-true _ _ (and_left (leb (length chunk) most) _ w)

module _ (streamMost chunk_most : ℕ) (seen chunk : List ℕ) (chunks : List (List ℕ)) (n : ℕ) where
  goes_on : Fine streamMost chunk_most seen (chunk ∷ chunks) → Fine streamMost chunk_most (seen ++ take n chunk) (leaving (drop n chunk) chunks)
  unfolding flatten
  goes_on f =
      let w = f.small in
      let short = f.short in
      let small : length chunk ≤ chunk_most = first_small chunk_most chunk chunks w in
      let d = length-drop n chunk in
      let a = length-append seen (take n chunk) in
      let b = length-append chunk (flatten chunks) in
      let c = ap length (sym (take-append-drop n chunk)) ∙ length-append (take n chunk) (drop n chunk) in
      let j = ap length (flatten_leaving (drop n chunk) chunks) ∙ length-append (drop n chunk) (flatten chunks) in
      record {
        small = within_leaving chunk_most (drop n chunk) chunks (omega arith) (and_right (leb (length chunk) chunk_most) _ w);
        short = omega arith;
      }

module _ {Memory Reg Count Out Lent Given Code : Type 0} (J : Judgement Reg Count Out) (L : Layout Memory (State Reg Count) Out Lent Given) (lawful : Lawful L)
    (refusal : Memory → Call Lent → Option Code) (registry : Reg) (streamMost chunk_most : ℕ) (lent : ℕ → Lent)
    (accepts : (seen : List ℕ) (chunk : List ℕ) (k : ℕ) → length seen ≤ streamMost → length chunk ≤ chunk_most
    → refusal (L.store (rules J registry seen).state) (record { chunk = chunk; lent = lent k }) ≡ None) where
  accepted : (seen chunk : List ℕ) (chunks : List (List ℕ)) (k : ℕ) → Fine streamMost chunk_most seen (chunk ∷ chunks)
      → refusal (L.store (read (reader J) (fresh J registry) seen).kept) (record { chunk = chunk; lent = lent k }) ≡ None
  unfolding by_rules
  accepted seen chunk chunks k f =
      let short = f.short in
      subst (λ (uncut : List ℕ → Reading (State Reg Count) Out). refusal (L.store (uncut seen).kept) (record { chunk = chunk; lent = lent k }) ≡ None) (sym (rules_read J registry))
      (accepts seen chunk k (omega arith) (first_small chunk_most chunk chunks f.small))

  pub delivered : (most : ℕ) (chunks : List (List ℕ)) → enough chunks ≤ most → within chunk_most chunks ≡ true → length (flatten chunks) ≤ streamMost
      → (let calls : List (Call Lent) = hand_over (reader J) L refusal most lent (L.store (fresh J registry)) chunks in
      TakenWhole chunks calls (calls_on (reader J) L refusal (L.store (fresh J registry)) calls))
  unfolding by_rules read
  delivered most chunks h w t =
      let back = loads_back J L lawful refusal registry in
      let never = unrefused (reader J) (fresh J registry) L back refusal lent (Fine streamMost chunk_most) accepted (goes_on streamMost chunk_most)
      most [] chunks (record { small = w; short = omega arith }) in
      let d = delivered-reading (reader J) (fresh J registry) L back refusal most lent chunks h never in
      record {
        never_refused = never;
        whole =
            d.whole ∙ ap (λ (uncut : List ℕ → Reading (State Reg Count) Out). take (uncut (flatten chunks)).taken (flatten chunks)) (rules_read J registry)
            ∙ take-length (flatten chunks);
      }
