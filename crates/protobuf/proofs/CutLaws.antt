-- What is read at a position is read there too where the body is cut behind it: varints, fields and groups.
use Rattle.std.proofs.Common.{Option, Some, None}
use Prim.Native.Nat.{ℕ, zero, suc, ◌+◌, ◌-◌, ◌/◌, ◌%◌, ◌^◌, ◌≤◌, ◌<◌}
use native.Mathlib.Omega.{arith}
use native.Mathlib.Decide.{dec_lt}
use native.Mathlib.Numerals.{sub-one}
use mathlib.Core.Path.{◌≡◌, refl, ap, ◌∙◌}
use mathlib.Core.Bool.{Bool, true, false}
use mathlib.Core.List.{List}
use lib.ListN.{length, get_or, take}
use lib.Seq.{length-take-le, get_or-take}
use lib.Dec.{ltb, leb, eqb}
use borrow.Author.Tests.{lt-ltb, le-leb, leb-true}
use Rattle.wire.specs.Choice.{when◌then◌else◌}
use Rattle.wire.specs.Scan.{follow}
use Rattle.wire.proofs.TestLaws.{either}
use Rattle.protobuf.specs.Varint.{below, varint_of, varint_at}
use Rattle.protobuf.specs.Field.{varint_then, number_at, fixed_at, span_at, content_at, field_at}
use Rattle.protobuf.specs.Group.{behind, in_group, group_at}
use Rattle.protobuf.specs.declared.field.Field.{Field}
use Rattle.protobuf.specs.declared.field.Field.TheVariants.{Number, Span, Fixed, GroupStart, GroupEnd}
use Rattle.protobuf.proofs.FieldLaws.{VarintAhead, FieldAhead, FieldFrom, below_ahead, varint_ahead, content_from, field_ahead}
use Rattle.protobuf.proofs.GroupLaws.{GroupAhead, group_ahead, group_deep, group_end, group_on}

-- what ends within k bytes is the same in the cut
abbrev VarintKept : (k : ℕ) (whole cut : Option (ℕ × ℕ)) → Type 0
VarintKept k (Some (v, next)) cut = next ≤ k → cut ≡ Some (v, next)
VarintKept k None cut = Unit {0}

abbrev pub FieldKept : (k : ℕ) (whole cut : Option Field) → Type 0
FieldKept k (Some (Number n v next)) cut = next ≤ k → cut ≡ Some (Number n v next)
FieldKept k (Some (Span n start len next)) cut = next ≤ k → cut ≡ Some (Span n start len next)
FieldKept k (Some (Fixed n next)) cut = next ≤ k → cut ≡ Some (Fixed n next)
FieldKept k (Some (GroupStart n next)) cut = next ≤ k → cut ≡ Some (GroupStart n next)
FieldKept k (Some (GroupEnd n next)) cut = next ≤ k → cut ≡ Some (GroupEnd n next)
FieldKept k None cut = Unit {0}

abbrev pub GroupKept : (k : ℕ) (whole cut : Option ℕ) → Type 0
GroupKept k (Some next) cut = next ≤ k → cut ≡ Some next
GroupKept k None cut = Unit {0}

-- ---- a varint

below_kept : (k low : ℕ) (whole cut : Option (ℕ × ℕ)) → VarintKept k whole cut → VarintKept k (below low whole) (below low cut)
below_kept k low (Some (v, next)) cut h = λ l. ap (below low) (h l)
below_kept k low None cut h = tt

-- ---- a field

choose : (k : ℕ) (t : Bool) (a b c d : Option Field) → FieldKept k a b → FieldKept k c d → FieldKept k (when t then a else c) (when t then b else d)
choose k true a b c d h g = h
choose k false a b c d h g = g

-- behind a varint, what is made of its value and the position behind it
then-kept :
    (k n : ℕ) (whole cut : Option (ℕ × ℕ)) (f g : ℕ → ℕ → Option Field) →
    VarintKept k whole cut →
    ((v next : ℕ) → whole ≡ Some (v, next) → FieldFrom n next (f v next)) →
    ((v next : ℕ) → whole ≡ Some (v, next) → FieldKept k (f v next) (g v next)) →
    FieldKept k (varint_then whole f) (varint_then cut g)
then-kept k n (Some (v, next)) cut f g h from kept = go (f v next) (from v next refl) (kept v next refl)
  where
    there : next ≤ k → varint_then cut g ≡ g v next
    there l = ap (λ (x : Option (ℕ × ℕ)). varint_then x g) (h l)

    go : (w : Option Field) → FieldFrom n next w → FieldKept k w (g v next) → FieldKept k w (varint_then cut g)
    go (Some (Number a b c)) r e = λ l. there (omega (arith, r.0)) ∙ e l
    go (Some (Span a b c d)) r e = λ l. there (omega (arith, r.0)) ∙ e l
    go (Some (Fixed a b)) r e = λ l. there (omega (arith, r.0)) ∙ e l
    go (Some (GroupStart a b)) r e = λ l. there (omega (arith, r.0)) ∙ e l
    go (Some (GroupEnd a b)) r e = λ l. there (omega (arith, r.0)) ∙ e l
    go None r e = tt
then-kept k n None cut f g h from kept = tt

module _ (s : List ℕ) (k : ℕ) (short : k ≤ length s) where
  abbrev cut : List ℕ
  cut = take k s

  cut_length : length cut ≡ k
  cut_length = length-take-le k s short

  same_byte : (at : ℕ) → at < k → get_or cut at 0 ≡ get_or s at 0
  same_byte at h = get_or-take k s at 0 h

  varint_moved : (at : ℕ) (whole a b : Option (ℕ × ℕ)) → VarintAhead (length s) at whole → (at < k → b ≡ a) → VarintKept k whole a → VarintKept k whole b
  varint_moved at (Some (v, next)) a b r e h = λ l. e (omega (arith, r.behind)) ∙ h l
  varint_moved at None a b r e h = tt

  varint_kept : (more at : ℕ) → VarintKept k (varint_of more s at) (varint_of more cut at)
  unfolding varint_of
  varint_kept zero at =
      either (λ (x : Option (ℕ × ℕ)). VarintKept k x (varint_of zero cut at)) (ltb at (length s))
      (λ h. either (λ (x : Option (ℕ × ℕ)). VarintKept k x (varint_of zero cut at)) (leb (get_or s at 0) 1)
      (λ e l.
      let here : at < length cut = omega (arith, cut_length) in
      rw (lt-ltb _ _ here, same_byte at (omega arith), e, varint_of))
      (λ _. tt))
      (λ _. tt)
  varint_kept (suc more) at =
      either (λ (x : Option (ℕ × ℕ)). VarintKept k x (varint_of (suc more) cut at)) (ltb at (length s))
      (λ h. either (λ (x : Option (ℕ × ℕ)). VarintKept k x (varint_of (suc more) cut at)) (ltb (get_or s at 0) 128)
      (λ e l.
      let here : at < length cut = omega (arith, cut_length) in
      rw (lt-ltb _ _ here, same_byte at (omega arith), e, varint_of))
      (λ e. varint_moved at (below (get_or s at 0 - 128) (varint_of more s (at + 1))) (below (get_or s at 0 - 128) (varint_of more cut (at + 1))) (varint_of (suc more) cut at)
      (below_ahead (length s) at (get_or s at 0 - 128) (varint_of more s (at + 1)) (varint_ahead more s (at + 1)))
      (λ l.
      let here : at < length cut = omega (arith, cut_length) in
      rw (lt-ltb _ _ here, same_byte at l, e, varint_of))
      (below_kept k (get_or s at 0 - 128) (varint_of more s (at + 1)) (varint_of more cut (at + 1)) (varint_kept more (at + 1)))))
      (λ _. tt)

  module _ (f : ℕ) where
    number_kept : (at : ℕ) → FieldKept k (number_at s f at) (number_at cut f at)
    unfolding number_at
    number_kept at =
        then-kept k (length s) (varint_at s at) (varint_at cut at) (λ v next. Some (Number f v next)) (λ v next. Some (Number f v next)) (varint_kept 9 at)
        (λ v next e. (omega arith, (rw e at (varint_ahead 9 s at)).within)) (λ v next e l. refl)

    fixed_kept : (size at : ℕ) → FieldKept k (fixed_at s f size at) (fixed_at cut f size at)
    unfolding fixed_at
    fixed_kept size at =
        either (λ (x : Option Field). FieldKept k x (fixed_at cut f size at)) (leb (at + size) (length s))
        (λ e l.
        let fits : at + size ≤ length cut = omega (arith, cut_length) in
        rw (le-leb _ _ fits, fixed_at))
        (λ _. tt)

    span_kept : (at : ℕ) → FieldKept k (span_at s f at) (span_at cut f at)
    unfolding span_at
    span_kept at =
        then-kept k (length s) (varint_at s at) (varint_at cut at)
        (λ len start. when leb (start + len) (length s) then Some (Span f start len (start + len)) else None)
        (λ len start. when leb (start + len) (length cut) then Some (Span f start len (start + len)) else None)
        (varint_kept 9 at)
        (λ len start h. either (FieldFrom (length s) start) (leb (start + len) (length s)) (λ e. omega (arith, leb-true (start + len) (length s) e)) (λ _. tt))
        (λ len start h. either (λ (x : Option Field). FieldKept k x (when leb (start + len) (length cut) then Some (Span f start len (start + len)) else None)) (leb (start + len) (length s))
        (λ e l.
        let fits : start + len ≤ length cut = omega (arith, cut_length) in
        rw (le-leb _ _ fits))
        (λ _. tt))

    content_kept : (wire at : ℕ) → FieldKept k (content_at s f wire at) (content_at cut f wire at)
    unfolding content_at
    content_kept wire at =
        choose k (eqb wire 0) _ _ _ _ (number_kept at)
        (choose k (eqb wire 1) _ _ _ _ (fixed_kept 8 at)
        (choose k (eqb wire 2) _ _ _ _ (span_kept at)
        (choose k (eqb wire 3) _ _ _ _ (λ l. refl)
        (choose k (eqb wire 4) _ _ _ _ (λ l. refl)
        (choose k (eqb wire 5) _ _ _ _ (fixed_kept 4 at) tt)))))

  pub field_kept : (at : ℕ) → FieldKept k (field_at s at) (field_at cut at)
  unfolding field_at
  field_kept at =
      then-kept k (length s) (varint_at s at) (varint_at cut at)
      (λ tag next. when ltb tag (2 ^ 32) then (when eqb (tag / 8) 0 then None else content_at s (tag / 8) (tag % 8) next) else None)
      (λ tag next. when ltb tag (2 ^ 32) then (when eqb (tag / 8) 0 then None else content_at cut (tag / 8) (tag % 8) next) else None)
      (varint_kept 9 at)
      (λ tag next h.
      let P = FieldFrom (length s) next in
      let inside : next ≤ length s = (rw h at (varint_ahead 9 s at)).within in
      either P (ltb tag (2 ^ 32)) (λ _. either P (eqb (tag / 8) 0) (λ _. tt) (λ _. content_from s (tag / 8) (tag % 8) next inside)) (λ _. tt))
      (λ tag next h. choose k (ltb tag (2 ^ 32)) _ _ _ _ (choose k (eqb (tag / 8) 0) _ _ _ _ tt (content_kept (tag / 8) (tag % 8) next)) tt)

  -- ---- a group

  group_moved : (at : ℕ) (whole a b : Option ℕ) → GroupAhead (length s) at whole → (at < k → b ≡ a) → GroupKept k whole a → GroupKept k whole b
  group_moved at (Some next) a b r e h = λ l. e (omega (arith, r.behind)) ∙ h l
  group_moved at None a b r e h = tt

  module _ (depth number : ℕ) (deeper : (n p : ℕ) → GroupKept k (group_at depth s n p) (group_at depth cut n p)) where
    abbrev whole : ℕ → Option ℕ
    whole p = group_at (suc depth) s number p

    abbrev short' : ℕ → Option ℕ
    short' p = group_at (suc depth) cut number p

    -- the field at p is the same in the cut
    here : (p next : ℕ) (f : Option Field) → p < next → next ≤ k → field_at cut p ≡ f
        → short' p ≡ follow (in_group number (group_at depth cut) f) (λ q _. short' q)
    here p next f l h e =
        let inside : p < length cut = omega (arith, cut_length) in
        rw (e, sub-one) at (group_on cut (suc depth) number p (omega arith) inside)

    by_group : (p next f : ℕ) (g : Option ℕ) → p < next → (next ≤ k → field_at cut p ≡ Some (GroupStart f next))
        → GroupAhead (length s) next g → GroupKept k g (group_at depth cut f next) → ((q : ℕ) → p < q → GroupKept k (whole q) (short' q))
        → GroupKept k (follow (behind g) (λ q _. whole q)) (short' p)
    by_group p next f (Some e) l k' a h ih =
        group_moved e (whole e) (short' e) (short' p) (group_ahead s (suc depth) number e)
        (λ m. here p next (Some (GroupStart f next)) l (omega (arith, a.behind)) (k' (omega (arith, a.behind))) ∙ ap (λ (x : Option ℕ). follow (behind x) (λ q _. short' q)) (h (omega arith)))
        (ih e (omega (arith, a.behind)))
    by_group p next f None l k' a h ih = tt

    by_field : (p : ℕ) (f : Option Field) → FieldAhead (length s) p f → FieldKept k f (field_at cut p) → ((q : ℕ) → p < q → GroupKept k (whole q) (short' q))
        → GroupKept k (follow (in_group number (group_at depth s) f) (λ q _. whole q)) (short' p)
    by_field p (Some (Number n v next)) a h ih =
        group_moved next (whole next) (short' next) (short' p) (group_ahead s (suc depth) number next)
        (λ m. here p next (Some (Number n v next)) a.behind (omega arith) (h (omega arith))) (ih next a.behind)
    by_field p (Some (Span n start len next)) a h ih =
        group_moved next (whole next) (short' next) (short' p) (group_ahead s (suc depth) number next)
        (λ m. here p next (Some (Span n start len next)) a.0.behind (omega arith) (h (omega arith))) (ih next a.0.behind)
    by_field p (Some (Fixed n next)) a h ih =
        group_moved next (whole next) (short' next) (short' p) (group_ahead s (suc depth) number next)
        (λ m. here p next (Some (Fixed n next)) a.behind (omega arith) (h (omega arith))) (ih next a.behind)
    by_field p (Some (GroupStart n next)) a h ih =
        by_group p next n (group_at depth s n next) a.behind h (group_ahead s depth n next) (deeper n next) ih
    by_field p (Some (GroupEnd n next)) a h ih =
        either (λ (x : Option ℕ). GroupKept k x (short' p)) (eqb n number)
        (λ e l. here p next (Some (GroupEnd n next)) a.behind l (h l) ∙ ap (λ (t : Bool). when t then Some next else None) e)
        (λ _. tt)
    by_field p None a h ih = tt

    within : (n p : ℕ) → length s - p ≤ n → GroupKept k (whole p) (short' p)
    within zero p l = rw (group_end s (suc depth) number p (omega arith)) tt
    within (suc n) p l = elim (dec_lt p (length s)) [
      | yes h ↦
          rw (group_on s (suc depth) number p (omega arith) h, sub-one)
          (by_field p (field_at s p) (field_ahead s p) (field_kept p) (λ q m. within n q (omega arith)))
      | no h ↦ rw (group_end s (suc depth) number p (omega arith)) tt
    ]

  pub group_kept : (depth number at : ℕ) → GroupKept k (group_at depth s number at) (group_at depth cut number at)
  group_kept zero number at = rw (group_deep s number at) tt
  group_kept (suc depth) number at = within depth number (λ n p. group_kept depth n p) (length s - at) at (omega arith)
