-- What skipping a group gives, by the field at hand; and it goes ahead.
use Rattle.std.proofs.Common.{Option, Some, None}
use Prim.Native.Nat.{ℕ, zero, suc, ◌+◌, ◌-◌, ◌/◌, ◌%◌, ◌^◌, ◌≤◌, ◌<◌}
use native.Mathlib.Omega.{arith}
use native.Mathlib.Numerals.{sub-one}
use mathlib.Core.Path.{◌≡◌, refl}
use mathlib.Core.List.{List}
use lib.ListN.{length, get_or}
use lib.Dec.{eqb}
use borrow.Author.Tests.{lt-ltb, ne_eqb}
use Rattle.wire.specs.Scan.{Turn, on, out, follow}
use Rattle.protobuf.specs.Varint.{varint_of}
use Rattle.protobuf.specs.Field.{content_at, field_at}
use Rattle.protobuf.specs.Group.{behind, in_group, group_at}
use Rattle.protobuf.specs.declared.field.Field.{Field}
use Rattle.protobuf.specs.declared.field.Field.TheVariants.{Number, Span, Fixed, GroupStart, GroupEnd}
use Rattle.wire.proofs.TestLaws.{either}
use Rattle.wire.proofs.ScanLaws.{TurnAhead, TurnHas, scan_end, scan_on, scan-has}
use Rattle.protobuf.proofs.FieldLaws.{Ahead, FieldAhead, field_ahead}

abbrev pub GroupAhead : ℕ → ℕ → Option ℕ → Type 0
GroupAhead n at (Some next) = Ahead n at next
GroupAhead n at None = Unit {0}

-- a field at p, in a group whose first field is at `at`: the scan goes ahead of p, or ends ahead of `at`
abbrev FieldHas : (n at p : ℕ) → Turn (Unit {0}) (Option ℕ) → Type 0
FieldHas n at p t = TurnHas (λ next _. p < next) (GroupAhead n at) t

behind_has : (n at p q : ℕ) (g : Option ℕ) → at ≤ p → p < q → GroupAhead n q g → FieldHas n at p (behind g)
behind_has n at p q (Some next) l l' h = omega arith
behind_has n at p q None l l' h = tt

field-has :
    (n at p number : ℕ) (groupIn : ℕ → ℕ → Option ℕ) →
    ((f q : ℕ) → GroupAhead n q (groupIn f q)) →
    at ≤ p →
    (t : Option Field) →
    FieldAhead n p t →
    FieldHas n at p (in_group number groupIn t)
field-has n at p number groupIn ih l (Some (Number f v next)) h = h.behind
field-has n at p number groupIn ih l (Some (Span f start len next)) h = h.0.behind
field-has n at p number groupIn ih l (Some (Fixed f next)) h = h.behind
field-has n at p number groupIn ih l (Some (GroupStart f next)) h = behind_has n at p next (groupIn f next) l h.behind (ih f next)
field-has n at p number groupIn ih l (Some (GroupEnd f next)) h = either (GroupAhead n at) (eqb f number) (λ _. omega arith) (λ _. tt)
field-has n at p number groupIn ih l None h = tt

has_on : {M R : Type 0} (at p : ℕ) (Q : R → Type 0) (t : Turn M R) → at ≤ p → TurnHas (λ next _. p < next) Q t → TurnHas (λ next _. at ≤ next) Q t
has_on at p Q (on m next) l h = omega arith
has_on at p Q (out r) l h = h

has_ahead : {M R : Type 0} (p : ℕ) (Q : R → Type 0) (t : Turn M R) → TurnHas (λ next _. p < next) Q t → TurnAhead p t
has_ahead p Q (on m next) h = h
has_ahead p Q (out r) h = tt

module _ (s : List ℕ) where
  -- one field of the group `number`, in which groups may stand `depth` deep
  abbrev turn : (depth number p : ℕ) → Unit {0} → Turn (Unit {0}) (Option ℕ)
  turn depth number p u = in_group number (group_at depth s) (field_at s p)

  pub group_ahead : (depth number at : ℕ) → GroupAhead (length s) at (group_at depth s number at)
  unfolding group_at
  group_ahead zero number at = tt
  group_ahead (suc depth) number at =
      scan-has (turn depth number) (λ _. None) (length s) (λ p _. at ≤ p) (GroupAhead (length s) at) (λ _ _ _. tt)
      (λ p u l. has_on at p (GroupAhead (length s) at) (turn depth number p u) l
      (field-has (length s) at p number (group_at depth s) (λ f q. group_ahead depth f q) l (field_at s p) (field_ahead s p)))
      at tt (omega arith)

  turn_ahead : (depth number p : ℕ) (u : Unit {0}) → TurnAhead p (turn depth number p u)
  turn_ahead depth number p u =
      has_ahead p (GroupAhead (length s) p) (turn depth number p u)
      (field-has (length s) p p number (group_at depth s) (group_ahead depth) (omega arith) (field_at s p) (field_ahead s p))

  pub group_deep : (number p : ℕ) → group_at 0 s number p ≡ None
  unfolding group_at
  group_deep number p = refl

  pub group_end : (depth number p : ℕ) → length s ≤ p → group_at depth s number p ≡ None
  unfolding group_at
  group_end zero number p h = refl
  group_end (suc depth) number p h = scan_end (turn depth number) (λ _. None) (length s) p tt h

  pub group_on : (depth number p : ℕ) → 0 < depth → p < length s → group_at depth s number p ≡ follow (turn (depth - 1) number p tt) (λ next _. group_at depth s number next)
  unfolding group_at
  group_on zero number p z h = absurd (omega arith)
  group_on (suc depth) number p z h = rw sub-one (scan_on (turn depth number) (λ _. None) (length s) (turn_ahead depth number) p tt h)

-- an end tag of one byte
pub short_end : (s : List ℕ) (number at : ℕ) → at < length s → 8 ≤ get_or s at 0 → get_or s at 0 ≤ 127 → get_or s at 0 / 8 ≡ number → get_or s at 0 % 8 ≡ 4 → field_at s at ≡ Some (GroupEnd number (at + 1))
unfolding field_at varint_of content_at
short_end s number at l least most n w =
    let small : get_or s at 0 < 128 = omega arith in
    let low : get_or s at 0 < 2 ^ 32 = omega arith in
    let some : get_or s at 0 / 8 ≡ 0 → ⊥ = λ e. omega arith in
    rw (lt-ltb _ _ l, lt-ltb _ _ small, lt-ltb _ _ low, ne_eqb _ _ some, w, n)

pub ruleset skips = (group_on, group_end, group_deep, group_ahead, field_ahead)
