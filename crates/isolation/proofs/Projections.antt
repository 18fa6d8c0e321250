-- What an application has, its slots, their counts and its served count, is moved by its own requests alone, and they are answered
-- by it alone.
use Rattle.std.proofs.Common.{Some}
use mathlib.Core.Path.{◌≡◌, refl, sym, ap, ap₂, ◌∙◌}
use Prim.Native.Nat.{ℕ, ◌<◌}
use mathlib.Core.Bool.{Bool, true, false, true≢false}
use mathlib.Core.List.{List}
use native.Mathlib.Omega.{arith}
use borrow.Author.Tests.{eqb-true, eq-eqb, not-true}
use lib.ListN.{length, get_or, take}
use Rattle.wire.specs.Choice.{when◌then◌else◌}
use Rattle.wire.specs.Lists.{same}
use Rattle.wire.specs.Request.{header_length, Request, request_of}
use Rattle.wire.proofs.TestLaws.{every_at}
use Rattle.wire.proofs.ListLaws.{same_refl, same_true}
use Rattle.stream.specs.Frame.{legal_start, oversized}
use Rattle.stream.specs.Rules.{Verdict, judge}
use Rattle.stream.specs.Parts.{verdict_on}
use Rattle.registry.specs.Slots.{Entry}
use Rattle.registry.specs.Registry.{line_count, application_named, slots_of, uses_of}
use Rattle.registry.specs.WellFormed.{well_formed_registry}
use Rattle.registry.specs.declared.Line.{Line}
use Rattle.registry.proofs.RegistryLaws.{named_used, found_line, found_by_names}
use Rattle.registry.proofs.UseLaws.{changed_slots, changed_uses}
use Rattle.judgement.specs.Operations.{Result}
use Rattle.judgement.specs.Counts.{Counts}
use Rattle.judgement.specs.Judgement.{answer_bytes, application_of, result_of, verdict_of, refused_early, judgement}
use Rattle.judgement.proofs.CountLaws.{served_next}
use Rattle.judgement.proofs.AskerLaws.{asks_by_name, asks_named, served_type, same_result, open_result}
use Rattle.judgement.proofs.VerdictLaws.{late_verdict, verdict_kept, verdict_lines, ServedFor, untouched, moved}
use Rattle.isolation.specs.History.{own_tests, is_by}
use Rattle.isolation.proofs.Replay.{Projection}

-- ---- an application's own request

record Own (name bytes : List ℕ) : Type 0 where
  legal : legal_start bytes ≡ true
  small : oversized bytes ≡ false
  typed : (request_of bytes).auth_type ≡ 1
  named : (request_of bytes).auth ≡ name

module _ (name bytes : List ℕ) where
  own_is : is_by name bytes ≡ true → Own name bytes
  unfolding is_by
  own_is e = record {
    legal = every_at (own_tests name bytes) 0 e;
    small = not-true _ (every_at (own_tests name bytes) 1 e);
    typed = eqb-true _ _ (every_at (own_tests name bytes) 2 e);
    named = same_true _ _ (every_at (own_tests name bytes) 3 e);
  }

  is_own_lem : Own name bytes → is_by name bytes ≡ true
  unfolding is_by
  is_own_lem o = rw (o.legal, o.small, eq-eqb (request_of bytes).auth_type 1 o.typed, ap (λ (x : List ℕ). same x name) o.named ∙ same_refl name)

-- ---- the projection of an application

-- what it has
pub record View : Type 0 where
  pub slots : List Entry
  pub uses : List ℕ
  pub served : ℕ

abbrev view_with : List Entry → List ℕ → ℕ → View
view_with slots uses served = record { slots = slots; uses = uses; served = served }

pub same_view : {slots slots' : List Entry} {uses uses' : List ℕ} {served served' : ℕ} → slots ≡ slots' → uses ≡ uses' → served ≡ served'
    → view_with slots uses served ≡ view_with slots' uses' served'
same_view a b c = λ i. record { slots = a i; uses = b i; served = c i }

module _ (list name : List ℕ) (line : Line) where
  pub record Good (r : List ℕ) (c : Counts) : Type 0 where
    pub good : well_formed_registry r ≡ true
    pub there : application_named r name ≡ Some line
    pub lines : length c.served ≡ line_count

  abbrev pub view : List ℕ → Counts → View
  view r c = view_with (slots_of r line) (uses_of r line) (get_or c.served line.0 0)

  kept : (r : List ℕ) (c : Counts) (q : List ℕ) → Good r c → Good (verdict_on (judgement list) r c q).registry (verdict_on (judgement list) r c q).counts
  kept r c q g =
      let (good, names) = verdict_kept list r c q g.good in
      record { good = good; there = found_by_names _ r name names ∙ g.there; lines = verdict_lines list r c q ∙ g.lines }

  module _ (r : List ℕ) (c : Counts) (g : Good r c) where
    line_there : line.0 < line_count
    line_there = (named_used r name line g.there).there

    -- what is served for the application is its own: named so, and with auth type 1
    served_own : (q : List ℕ) → ServedFor list r line q → Own name q
    served_own q s =
        let (not-open, named) = asks_named r (request_of q) line s.asker in
        let most = served_type list r (request_of q) s.status in
        record {
          legal = s.legal;
          small = s.small;
          typed = omega arith;
          named = sym (found_line r (request_of q).auth line named) ∙ found_line r name line g.there;
        }

    others : (q : List ℕ) → is_by name q ≡ false → view (verdict_on (judgement list) r c q).registry (verdict_on (judgement list) r c q).counts ≡ view r c
    others q other =
        let u = untouched list r g.good c line line_there q (λ s. true≢false (sym (is_own_lem name q (served_own q s)) ∙ other)) in
        same_view u.slots u.uses u.served

    module _ (q : List ℕ) (mine : Own name q) where
      asked : application_of r (request_of q) ≡ Some line
      asked = asks_by_name r (request_of q) mine.typed ∙ ap (application_named r) mine.named ∙ g.there

      own_moves : view (verdict_on (judgement list) r c q).registry (verdict_on (judgement list) r c q).counts
          ≡ (let x : Result = result_of list r (request_of q) in
          view_with (changed_slots (slots_of r line) x.change) (changed_uses (uses_of r line) x.change) (served_next x.status (get_or c.served line.0 0)))
      own_moves =
          let m = moved list r g.good c line line_there q mine.legal mine.small asked (omega (arith, g.lines, line_there)) in
          same_view m.slots m.uses m.served

  module _ (r r' : List ℕ) (c c' : Counts) (q : List ℕ) (g : Good r c) (g' : Good r' c') (mine : Own name q) (e : view r c ≡ view r' c') where
    own_result : result_of list r (request_of q) ≡ result_of list r' (request_of q)
    own_result = same_result list r r' (request_of q) line (asked r c g q mine) (asked r' c' g' q mine) (ap (λ (v : View). v.slots) e)

    own_answer : (verdict_on (judgement list) r c q).response ≡ (verdict_on (judgement list) r' c' q).response
    unfolding verdict_of
    own_answer =
        let f : Request = request_of q in
        ap (λ (v : Verdict (List ℕ) Counts (List ℕ)). v.response) (late_verdict list r c q mine.legal mine.small)
        ∙ ap (answer_bytes f) own_result
        ∙ sym (ap (λ (v : Verdict (List ℕ) Counts (List ℕ)). v.response) (late_verdict list r' c' q mine.legal mine.small))

    own_view : view (verdict_on (judgement list) r c q).registry (verdict_on (judgement list) r c q).counts
        ≡ view (verdict_on (judgement list) r' c' q).registry (verdict_on (judgement list) r' c' q).counts
    own_view =
        own_moves r c g q mine
        ∙ ap₂ (λ (v : View) (x : Result). view_with (changed_slots v.slots x.change) (changed_uses v.uses x.change) (served_next x.status v.served)) e own_result
        ∙ sym (own_moves r' c' g' q mine)

  pub projection : Projection (judgement list) Good (is_by name) view
  projection = record {
    kept = kept;
    others = λ r c q g o. others r c g q o;
    own_answer = λ r r' c c' q g g' o e. own_answer r r' c c' q g g' (own_is name q o) e;
    own_view = λ r r' c c' q g g' o e. own_view r r' c c' q g g' (own_is name q o) e;
  }

-- ---- auth type 0

-- the response goes by the request alone
pub open_answer : (list list' r r' : List ℕ) (c c' : Counts) (bytes : List ℕ) → (request_of bytes).auth_type ≡ 0
    → (judge (judgement list) r c bytes).response ≡ (judge (judgement list') r' c' bytes).response
unfolding judge judgement refused_early verdict_of
open_answer list list' r r' c c' bytes e = go (oversized bytes)
  where
    q : Request
    q = request_of bytes

    go : (t : Bool) → (when t then (judgement list).on_oversized r c (take (header_length bytes) bytes) else (judgement list).on_request r c bytes).response
        ≡ (when t then (judgement list').on_oversized r' c' (take (header_length bytes) bytes) else (judgement list').on_request r' c' bytes).response
    go true = refl
    go false =
        ap (answer_bytes q) (open_result list list' r r' q e)
