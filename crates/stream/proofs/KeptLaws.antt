-- What the rules keep after a stream: a well-formed connection, and, by a judgement that keeps them, a good registry and
-- counters that are at most the stream's length.
use mathlib.Core.Path.{◌≡◌, refl, sym, ◌∙◌}
use Prim.Native.Nat.{ℕ, suc, ◌+◌, ◌-◌, ◌≤◌, ◌<◌}
use mathlib.Core.Bool.{Bool, true}
use mathlib.Core.List.{List}
use native.Mathlib.Omega.{arith}
use lib.ListN.{length, take}
use lib.Seq.{length-take-le}
use borrow.Author.Tests.{le-leb, eq-eqb}
use Rattle.wire.specs.Request.{content_length, auth_length, header_length, request_length}
use Rattle.stream.specs.Rules.{Judgement, skipping, State, Outcome, Progress, answer, finish, judge, rules_from, start, rules}
use Rattle.stream.specs.Call.{is_beginning, well_formed}
use Rattle.stream.proofs.FrameLaws.{Unfinished, Skipped, next_unfinished, legal_size, header_told}
use Rattle.stream.proofs.AccountingLaws.{by_requests, rules_accounted}

unfinished_request : (s : List ℕ) → Unfinished s → is_beginning s ≡ true
unfolding is_beginning
unfinished_request s u = rw (next_unfinished s u, is_beginning)

skipped_well : (s : List ℕ) → Skipped s → well_formed (skipping (take (header_length s) s) (request_length s - length s)) ≡ true
unfolding well_formed
skipped_well s k =
    let header : List ℕ = take (header_length s) s in
    let size = legal_size s k.legal in
    let fits : header_length s ≤ length s = k.header in
    let more : length s < request_length s = k.more in
    let n : length header ≡ header_length s = length-take-le (header_length s) s fits in
    let t = header_told s k.legal fits in
    let h = t.long in
    let c = t.more in
    rw (
      le-leb 6 (length header) (omega arith),
      sym t.legal ∙ k.legal,
      eq-eqb (length header) (header_length header) (omega arith),
      sym t.large ∙ k.large,
      le-leb 1 (request_length s - length s) (omega arith),
      le-leb (request_length s - length s) (content_length header + auth_length header) (omega arith),
    )

-- the connection that the rules give is well formed
module _ {Reg Count Out : Type 0} (J : Judgement Reg Count Out) where
  WellConnected : ℕ → Progress Reg Count Out → List ℕ → Outcome Reg Count Out → Type 0
  WellConnected taken p s o = well_formed o.state.connection ≡ true

  pub rules_connection : (registry : Reg) (seen : List ℕ) → well_formed (rules J registry seen).state.connection ≡ true
  unfolding rules WellConnected finish well_formed
  rules_connection registry seen = by_requests J WellConnected
      (λ taken p s u. unfinished_request s u)
      (λ taken p s h. refl)
      (λ taken p s k. skipped_well s k)
      (λ taken p s n o h k rest. rest)
      (length seen) (start J registry) seen

-- ---- what a judgement keeps: a good registry stays good, and no count rises by more than one

pub record Keeps {Reg Count Out : Type 0} (largest_count : Count → ℕ) (goodRegistry : Reg → Bool) (J : Judgement Reg Count Out) : Type 0 where
  pub start_counts : largest_count J.no_counts ≡ 0
  pub bad_counts : (r : Reg) (c : Count) → largest_count (J.on_bad_start r c).counts ≤ suc (largest_count c)
  pub judge_counts : (r : Reg) (c : Count) (request : List ℕ) → largest_count (judge J r c request).counts ≤ suc (largest_count c)
  pub bad_good : (r : Reg) (c : Count) → goodRegistry r ≡ true → goodRegistry (J.on_bad_start r c).registry ≡ true
  pub judge_good : (r : Reg) (c : Count) (request : List ℕ) → goodRegistry r ≡ true → goodRegistry (judge J r c request).registry ≡ true

-- what the rules keep after a stream: the registry is good, and no counter is above the stream's length
pub record Kept {Reg Count : Type 0} (largest_count : Count → ℕ) (goodRegistry : Reg → Bool) (s : State Reg Count) (stream : List ℕ) : Type 0 where
  pub good : goodRegistry s.registry ≡ true
  pub taken : s.totals.taken ≤ length stream
  pub answered : s.totals.answered ≤ length stream
  pub dropped : s.totals.dropped ≤ length stream
  pub counts : largest_count s.totals.counts ≤ length stream

module _ {Reg Count Out : Type 0} (largest_count : Count → ℕ) (goodRegistry : Reg → Bool) (J : Judgement Reg Count Out)
    (keeps : Keeps largest_count goodRegistry J) where
  Holds : ℕ → Progress Reg Count Out → List ℕ → Outcome Reg Count Out → Type 0
  Holds taken p s o = goodRegistry p.registry ≡ true → largest_count p.counts ≤ p.answered
      → (goodRegistry o.state.registry ≡ true) × (largest_count o.state.totals.counts ≤ o.state.totals.answered)

  holds : (taken : ℕ) (p : Progress Reg Count Out) (s : List ℕ) → Holds taken p s (rules_from J taken p s)
  unfolding Holds finish answer
  holds = by_requests J Holds
      (λ taken p s u g c. (g, c))
      (λ taken p s h g c. (keeps.bad_good _ _ g, omega (arith, keeps.bad_counts p.registry p.counts)))
      (λ taken p s k g c. (g, c))
      (λ taken p s n o h k rest g c.
      rest (keeps.judge_good _ _ _ g) (omega (arith, keeps.judge_counts p.registry p.counts (take n s))))

  pub rules_kept : (registry : Reg) → goodRegistry registry ≡ true → (stream : List ℕ) → Kept largest_count goodRegistry (rules J registry stream).state stream
  unfolding Holds rules start
  rules_kept registry g stream =
      let z = keeps.start_counts in
      let (good, counts) = holds (length stream) (start J registry) stream g (omega arith) in
      let a = rules_accounted J registry stream in
      let all = a.all in
      let parts = a.parts in
      record { good = good; taken = omega arith; answered = omega arith; dropped = omega arith; counts = omega arith }
