-- Every byte taken is a byte of an answered request, held of an unfinished one, or dropped.
use mathlib.Core.Path.{◌≡◌, refl, ◌∙◌}
use Prim.Native.Nat.{ℕ, zero, suc, ◌+◌, ◌-◌, ◌≤◌, ◌<◌}
use mathlib.Core.List.{List}
use native.Mathlib.Omega.{arith}
use native.Mathlib.Nat.{le_refl}
use lib.ListN.{length, take, drop, length-drop}
use Rattle.wire.specs.Request.{header_length, request_length}
use Rattle.stream.specs.Rules.{Judgement, opened, skipping, closed, held_bytes, State, Outcome, Progress, answer, finish, judge, rules_from, start, rules}
use Rattle.stream.proofs.FrameLaws.{Unfinished, Skipped, Shape, is_unfinished, is_bad, is_skipped, is_whole, shape, next_unfinished, next_bad, next_skipped, next_whole, header_length_lem}
use Rattle.stream.proofs.RulesLaws.{rules_unfinished, rules_bad, rules_skipped, rules_whole}

module _ {Reg Count : Type 0} where
  -- in the order of the bill: taken is answered, held and dropped together
  pub record Accounted (s : State Reg Count) (stream : List ℕ) : Type 0 where
    pub all : s.totals.taken ≡ length stream
    pub parts : s.totals.taken ≡ s.totals.answered + held_bytes s.connection + s.totals.dropped

module _ {Reg Count Out : Type 0} (J : Judgement Reg Count Out) where
  -- a property of what the rules give, from the four ways to end and from the step over a request
  pub by_requests : (P : ℕ → Progress Reg Count Out → List ℕ → Outcome Reg Count Out → Type 0)
      → ((taken : ℕ) (p : Progress Reg Count Out) (s : List ℕ) → Unfinished s → P taken p s (finish p taken 0 (opened s)))
      → ((taken : ℕ) (p : Progress Reg Count Out) (s : List ℕ) → 6 ≤ length s
      → P taken p s (finish (answer p 6 (J.on_bad_start p.registry p.counts)) taken (length s - 6) closed))
      → ((taken : ℕ) (p : Progress Reg Count Out) (s : List ℕ) → Skipped s
      → P taken p s (finish p taken 0 (skipping (take (header_length s) s) (request_length s - length s))))
      → ((taken : ℕ) (p : Progress Reg Count Out) (s : List ℕ) (n : ℕ) (o : Outcome Reg Count Out) → 0 < n → n ≤ length s
      → P taken (answer p n (judge J p.registry p.counts (take n s))) (drop n s) o → P taken p s o)
      → (taken : ℕ) (p : Progress Reg Count Out) (s : List ℕ) → P taken p s (rules_from J taken p s)
  by_requests P unfinished bad skipped whole taken p s = go (suc (length s)) taken p s (le_refl (suc (length s)))
    where
      go : (f taken : ℕ) (p : Progress Reg Count Out) (s : List ℕ) → length s < f → P taken p s (rules_from J taken p s)
      go zero taken p s h = absurd (omega arith)
      go (suc f) taken p s h = cases (go f) (shape s)
        where
          cases : ((taken : ℕ) (p : Progress Reg Count Out) (s : List ℕ) → length s < f → P taken p s (rules_from J taken p s))
              → Shape s → P taken p s (rules_from J taken p s)
          cases ih (is_unfinished u) = rw (rules_unfinished J taken p s (next_unfinished s u)) (unfinished taken p s u)
          cases ih (is_bad x l) = rw (rules_bad J taken p s (next_bad s x l)) (bad taken p s x)
          cases ih (is_skipped k) =
              rw (rules_skipped J taken p s _ _ (next_skipped s k.legal k.header k.more k.large)) (skipped taken p s k)
          cases ih (is_whole l m) =
              let d = length-drop (request_length s) s in
              rw (rules_whole J taken p s _ (next_whole s l m) (omega arith) m)
              (whole taken p s (request_length s) _ (omega arith) m (ih taken _ _ (omega arith)))

  Counted : ℕ → Progress Reg Count Out → List ℕ → Outcome Reg Count Out → Type 0
  Counted taken p s o = p.answered + length s ≡ taken
      → (o.state.totals.taken ≡ taken)
      × (taken ≡ o.state.totals.answered + held_bytes o.state.connection + o.state.totals.dropped)

  counted : (taken : ℕ) (p : Progress Reg Count Out) (s : List ℕ) → Counted taken p s (rules_from J taken p s)
  unfolding Counted finish answer held_bytes
  counted = by_requests Counted
      (λ taken p s u e. (refl, omega arith))
      (λ taken p s h e. (refl, omega arith))
      (λ taken p s k e.
      let h = header_length_lem s k in
      let m : length s < request_length s = k.more in
      (refl, omega arith))
      (λ taken p s n o h k rest e. let d = length-drop n s in rest (omega arith))

  pub rules_accounted : (registry : Reg) (s : List ℕ) → Accounted (rules J registry s).state s
  unfolding rules Counted start
  rules_accounted registry s =
      let (all, parts) = counted (length s) (start J registry) s (omega arith) in
      record { all = all; parts = all ∙ parts }
