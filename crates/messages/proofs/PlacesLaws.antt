-- A body that is read where it lies, as `body_of` has it, holds the message that format 1 reads: values as places, and the same.
use Rattle.std.proofs.Common.{Option, Some, None, option_and_then, option_map, Result, Ok}
use Prim.Native.Nat.{ℕ, zero, suc, ◌-◌, ◌%◌, ◌^◌, ◌≤◌, ◌<◌}
use native.Mathlib.Omega.{arith}
use mathlib.Core.Path.{◌≡◌, refl, sym, ap, ◌∙◌}
use mathlib.Core.Bool.{Bool, true, false, not}
use mathlib.Core.Logic.{◌⊎◌, inl, inr, ⊎_elim}
use mathlib.Core.List.{List, [], ◌∷◌, map}
use lib.ListN.{length, take, drop, set, replicate}
use lib.Dec.{ltb, eqb}
use borrow.Author.Tests.{eqb-true, eqb-false, ne_eqb}
use Rattle.wire.specs.Choice.{when◌then◌else◌}
use Rattle.wire.specs.Scan.{Turn, on, out, follow, scan_from, scan_at}
use Rattle.wire.proofs.TestLaws.{either}
use Rattle.protobuf.specs.Field.{field_at}
use Rattle.protobuf.specs.Group.{depth_most, group_at}
use Rattle.fields.specs.code.Fields as fields
use Rattle.protobuf.specs.code.Message as proto
use Rattle.protobuf.specs.code.Body as proto-body
use Rattle.protobuf.specs.declared.field.Field.{Field as ProtoField}
use Rattle.protobuf.specs.declared.field.Field.TheVariants.{Number, Span, Fixed, GroupStart, GroupEnd}
use Rattle.fields.specs.declared.Kind.{Kind as ProtoKind}
use Rattle.fields.specs.declared.Value.{Value as Place}
use Rattle.fields.specs.declared.Values.{Values as Places}
use Rattle.messages.specs.Message.{Kind, uint32, bool, bytes, uint32s, number, flag, octets, numbers, Schema, Message, kind_at, absent}
use Rattle.messages.specs.Format.{skipped, field_with, listed, Reading, read, SoFar, turn_of, turn_at, read_message}
use Rattle.messages.specs.code.Places.{kind_placed, schema_placed, NoLists, value_of, values_of, five, seen}
use Rattle.messages.specs.Protobuf.{of_varint, of_span, is_of_wire, of_group, field_of, protobuf}

-- ---- two scans that go the same way

module _ {M N R S : Type 0} (Same : M → N → Type 0) (g : S → R) where
  abbrev pub TurnSame : Turn M R → Turn N S → Type 0
  TurnSame (on m next) (on n next') = (next ≡ next') × Same m n
  TurnSame (on m next) (out s) = ⊥
  TurnSame (out r) (on n next') = ⊥
  TurnSame (out r) (out s) = r ≡ g s

  follow_same : (t : Turn M R) (t' : Turn N S) (f : ℕ → M → R) (f' : ℕ → N → S) → TurnSame t t' → ((next : ℕ) (m : M) (n : N) → Same m n → f next m ≡ g (f' next n)) → follow t f ≡ g (follow t' f')
  follow_same (on m next) (on n next') f f' h e = e next m n h.1 ∙ ap (λ (x : ℕ). g (f' x n)) h.0
  follow_same (on m next) (out s) f f' h e = absurd h
  follow_same (out r) (on n next') f f' h e = absurd h
  follow_same (out r) (out s) f f' h e = h

  module _
      (turn : ℕ → M → Turn M R) (turn' : ℕ → N → Turn N S) (end : M → R) (end' : N → S) (len : ℕ)
      (ends : (m : M) (n : N) → Same m n → end m ≡ g (end' n))
      (turns : (at : ℕ) (m : M) (n : N) → Same m n → TurnSame (turn at m) (turn' at n)) where
    from_same : (count at : ℕ) (m : M) (n : N) → Same m n → scan_from turn end len count at m ≡ g (scan_from turn' end' len count at n)
    unfolding scan_from
    from_same zero at m n h = ends m n h
    from_same (suc count) at m n h = go (λ next m' n' h'. from_same count next m' n' h') (ltb at len)
      where
        go : ((next : ℕ) (m' : M) (n' : N) → Same m' n' → scan_from turn end len count next m' ≡ g (scan_from turn' end' len count next n'))
            → (t : Bool) → (when t then follow (turn at m) (λ next m'. scan_from turn end len count next m') else end m)
            ≡ g (when t then follow (turn' at n) (λ next n'. scan_from turn' end' len count next n') else end' n)
        go ih true = follow_same (turn at m) (turn' at n) (scan_from turn end len count) (scan_from turn' end' len count) (turns at m n h) ih
        go ih false = ends m n h

    pub scan_same : (at : ℕ) (m : M) (n : N) → Same m n → scan_at turn end len at m ≡ g (scan_at turn' end' len at n)
    unfolding scan_at
    scan_same at m n h = from_same (len - at) at m n h

-- ---- a listed number

pub record Within (n most : ℕ) : Type 0 where
  pub low : 1 ≤ n
  pub high : n ≤ most

pub kind_within : (schema : Schema) (n : ℕ) (kind : Kind) → kind_at schema n ≡ Some kind → Within n (length schema)
kind_within [] n kind e = cc
kind_within (k ∷ schema) n kind e = go (λ e'. kind_within schema (n - 1) kind e') (eqb n 1) refl e
  where
    go : (kind_at schema (n - 1) ≡ Some kind → Within (n - 1) (length schema)) → (t : Bool) → eqb n 1 ≡ t → (when t then Some k else kind_at schema (n - 1)) ≡ Some kind → Within n (suc (length schema))
    go ih true q e' = let one = eqb-true n 1 q in record { low = omega arith; high = omega arith }
    go ih false q e' = let w = ih e' in record { low = omega arith; high = omega arith }

unlisted : (schema : Schema) (n : ℕ) → length schema ≤ 5 → (n ≡ 0) ⊎ (5 < n) → kind_at schema n ≡ None
unlisted schema n few h = go (kind_at schema n) refl
  where
    go : (o : Option Kind) → kind_at schema n ≡ o → o ≡ None
    go None e = refl
    go (Some kind) e = let w = kind_within schema n kind e in ⊎_elim (λ z. absurd (omega (arith, w.low))) (λ z. absurd (omega (arith, w.high))) h

module _ (schema : Schema) (few : length schema ≤ 5) where
  abbrev Named : ℕ → ProtoKind → Type 0
  Named n k = k ≡ kind_placed (kind_at schema n)

  -- both find the same kind
  pub kind_same : (n : ℕ) → fields.kind_of (schema_placed schema) n ≡ kind_placed (kind_at schema n)
  kind_same n =
      let at : (i : ℕ) → eqb n i ≡ true → Named n (kind_placed (kind_at schema i)) = λ i e. ap (λ (x : ℕ). kind_placed (kind_at schema x)) (sym (eqb-true n i e)) in
      either (Named n) (eqb n 1) (at 1)
      (λ a. either (Named n) (eqb n 2) (at 2)
      (λ b. either (Named n) (eqb n 3) (at 3)
      (λ c. either (Named n) (eqb n 4) (at 4)
      (λ d. either (Named n) (eqb n 5) (at 5)
      (λ e. ap kind_placed (sym (unlisted schema n few (outside n (eqb-false n 1 a) (eqb-false n 2 b) (eqb-false n 3 c) (eqb-false n 4 d) (eqb-false n 5 e)))))))))
    where
      outside : (n : ℕ) → (n ≡ 1 → ⊥) → (n ≡ 2 → ⊥) → (n ≡ 3 → ⊥) → (n ≡ 4 → ⊥) → (n ≡ 5 → ⊥) → (n ≡ 0) ⊎ (5 < n)
      outside zero a b c d e = inl refl
      outside (suc n) a b c d e = inr (omega arith)

  -- both put a value of a listed number in its place
  abbrev Put : (n : ℕ) → Places → Place → Places → Type 0
  Put n m v m' = five m' ≡ set (five m) (n - 1) v

  five_put : (n : ℕ) (m : Places) (v : Place) → Within n 5 → five (fields.with_value m n v) ≡ set (five m) (n - 1) v
  unfolding fields.with_value
  five_put n m v w =
      let at : (i : ℕ) → eqb n i ≡ true → set (five m) (i - 1) v ≡ set (five m) (n - 1) v = λ i e. ap (λ (x : ℕ). set (five m) (x - 1) v) (sym (eqb-true n i e)) in
      either (Put n m v) (eqb n 1) (at 1)
      (λ a. either (Put n m v) (eqb n 2) (at 2)
      (λ b. either (Put n m v) (eqb n 3) (at 3)
      (λ c. either (Put n m v) (eqb n 4) (at 4)
      (λ d. either (Put n m v) (eqb n 5) (at 5)
      (λ e. absurd (omega (arith, eqb-false n 1 a, eqb-false n 2 b, eqb-false n 3 c, eqb-false n 4 d, eqb-false n 5 e)))))))

module _ (body : List ℕ) where
  values_put : (schema : Schema) (vs : List Place) (n : ℕ) (kind : Kind) (v : Place) → kind_at schema n ≡ Some kind → n ≤ length vs → values_of body schema (set vs (n - 1) v) ≡ set (values_of body schema vs) (n - 1) (value_of body kind v)
  values_put [] vs n kind v e h = cc
  values_put (k ∷ schema) [] n kind v e h = let w = kind_within (k ∷ schema) n kind e in absurd (omega (arith, w.low))
  values_put (k ∷ schema) (u ∷ vs) zero kind v e h = let w = kind_within (k ∷ schema) 0 kind e in absurd (omega (arith, w.low))
  values_put (k ∷ schema) (u ∷ vs) (suc zero) kind v e h = ap (λ (x : Kind). value_of body x v ∷ values_of body schema vs) (cc)
  values_put (k ∷ schema) (u ∷ vs) (suc (suc n)) kind v e h =
      let no : suc (suc n) ≡ 1 → ⊥ = λ z. omega arith in
      let e' : kind_at schema (suc (suc n) - 1) ≡ Some kind = rw (ne_eqb _ _ no) at e in
      let ih = values_put schema vs (suc (suc n) - 1) kind v e' (omega arith) in
      let one : suc (suc n) - 1 ≡ suc n = omega arith in
      let two : suc (suc n) - 1 - 1 ≡ n = omega arith in
      rw one (ap (λ (r : Message). value_of body k u ∷ r) (rw two at ih))

  -- nothing read yet
  pub none_read : (schema : Schema) (count : ℕ) → map absent schema ≡ values_of body schema (replicate count fields.absent)
  none_read [] count = refl
  none_read (kind ∷ schema) zero = ap (λ (r : Message). absent kind ∷ r) (none_read schema 0)
  none_read (uint32 ∷ schema) (suc count) = ap (λ (r : Message). number 0 ∷ r) (none_read schema count)
  none_read (bool ∷ schema) (suc count) = ap (λ (r : Message). flag false ∷ r) (none_read schema count)
  none_read (bytes ∷ schema) (suc count) = ap (λ (r : Message). octets [] ∷ r) (none_read schema count)
  none_read (uint32s ∷ schema) (suc count) = ap (λ (r : Message). numbers [] ∷ r) (none_read schema count)

pub no_list_at : (schema : Schema) (n : ℕ) → NoLists schema → kind_at schema n ≡ Some uint32s → ⊥
no_list_at [] n h e = cc
no_list_at (kind ∷ schema) n h e = go kind h (λ h' e'. no_list_at schema (n - 1) h' e') (eqb n 1) e
  where
    go : (k : Kind) → NoLists (k ∷ schema) → (NoLists schema → kind_at schema (n - 1) ≡ Some uint32s → ⊥) → (t : Bool) → (when t then Some k else kind_at schema (n - 1)) ≡ Some uint32s → ⊥
    go uint32 h ih true e = cc
    go bool h ih true e = cc
    go bytes h ih true e = cc
    go uint32 h ih false e = ih h e
    go bool h ih false e = ih h e
    go bytes h ih false e = ih h e
    go uint32s h ih t e = h

bool_same : (t : Bool) → not t ≡ not (eqb (when t then 0 else 1) 0)
bool_same true = refl
bool_same false = refl

-- ---- the two readers

module _ (schema : Schema) (body : List ℕ) (few : length schema ≤ 5) (no-lists : NoLists schema) where
  abbrev Same : SoFar → Places → Type 0
  Same so m = so.1 ≡ values_of body schema (five m)

  abbrev Turns : Turn SoFar Reading → Turn Places (Result Places ℕ) → Type 0
  Turns t t' = TurnSame Same (seen body schema) t t'

  pub put_same :
      (n : ℕ) (kind : Kind) (so : SoFar) (m : Places) (v : Place) →
      kind_at schema n ≡ Some kind →
      Same so m →
      set so.1 (n - 1) (value_of body kind v) ≡ values_of body schema (five (fields.with_value m n v))
  put_same n kind so m v e h =
      let w = kind_within schema n kind e in
      ap (λ (x : Message). set x (n - 1) (value_of body kind v)) h
      ∙ sym (values_put body schema (five m) n kind v e (omega (arith, w.high)))
      ∙ ap (values_of body schema) (sym (five_put schema few n m v (record { low = w.low; high = omega (arith, w.high) })))

  number_same :
      (at n v next : ℕ) (so : SoFar) (m : Places) → Same so m → (o : Option Kind) → kind_at schema n ≡ o
      → Turns (turn_of protobuf at so (when is_of_wire 0 o then field_with n next (option_and_then (of_varint v) o) else skipped next)) (proto-body.turn_of at (Some (proto.step_of m (proto.of_number (kind_placed o) n v next))))
  number_same at n v next so m h None e = (refl, h)
  number_same at n v next so m h (Some uint32) e = (refl, put_same n uint32 so m (record { start = 0; len = 0; number = v % 2 ^ 32 }) e h)
  number_same at n v next so m h (Some bool) e =
      (refl, rw (bool_same (eqb v 0)) (put_same n bool so m (record { start = 0; len = 0; number = when eqb v 0 then 0 else 1 }) e h))
  number_same at n v next so m h (Some bytes) e = (refl, h)
  number_same at n v next so m h (Some uint32s) e = (refl, h)

  span_same :
      (at n start len next : ℕ) (so : SoFar) (m : Places) → Same so m → (o : Option Kind) → kind_at schema n ≡ o
      → Turns (turn_of protobuf at so (when is_of_wire 2 o then field_with n next (option_and_then (of_span (take len (drop start body))) o) else skipped next)) (proto-body.turn_of at (Some (proto.step_of m (proto.of_span (kind_placed o) n start len next))))
  span_same at n start len next so m h None e = (refl, h)
  span_same at n start len next so m h (Some uint32) e = (refl, h)
  span_same at n start len next so m h (Some bool) e = (refl, h)
  span_same at n start len next so m h (Some bytes) e = (refl, put_same n bytes so m (record { start = start; len = len; number = 0 }) e h)
  span_same at n start len next so m h (Some uint32s) e = absurd (no_list_at schema n no-lists e)

  group_same : (at : ℕ) (so : SoFar) (m : Places) → Same so m → (g : Option ℕ) → Turns (turn_of protobuf at so (of_group g)) (proto-body.turn_of at (option_map (proto.step_of m) (proto.of_group g)))
  group_same at so m h (Some next) = (refl, h)
  group_same at so m h None = refl

  field-same :
      (at : ℕ) (so : SoFar) (m : Places) → Same so m → (f : Option ProtoField)
      → Turns (turn_of protobuf at so (field_of schema body f)) (proto-body.turn_of at (option_map (proto.step_of m) (option_and_then (proto.item_of (schema_placed schema) body) f)))
  unfolding listed proto.item_of
  field-same at so m h (Some (Number n v next)) = rw (kind_same schema few n) (number_same at n v next so m h (kind_at schema n) refl)
  field-same at so m h (Some (Span n start len next)) = rw (kind_same schema few n) (span_same at n start len next so m h (kind_at schema n) refl)
  field-same at so m h (Some (Fixed n next)) = (refl, h)
  field-same at so m h (Some (GroupStart n next)) = group_same at so m h (group_at depth_most body n next)
  field-same at so m h (Some (GroupEnd n next)) = refl
  field-same at so m h None = refl

  turn_same : (at : ℕ) (so : SoFar) (m : Places) → Same so m → Turns (turn_at protobuf schema body at so) (proto-body.turn_at (schema_placed schema) body at m)
  unfolding proto.step_at
  turn_same at so m h = field-same at so m h (field_at body at)

  pub placed : read_message protobuf schema body ≡ seen body schema (proto-body.body_of (schema_placed schema) body)
  unfolding read_message
  placed =
      scan_same Same (seen body schema) (turn_at protobuf schema body) (proto-body.turn_at (schema_placed schema) body) (λ so. read so.1) Ok (length body)
      (λ so m h. ap read h) turn_same 0 (0, map absent schema) fields.all_absent (none_read body schema 5)
