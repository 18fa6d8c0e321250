-- Laws of outputs that are told by their places: a list's body field by field, the other bodies, and places moved.
use Rattle.std.proofs.Common.{Option, Some, None, is_some, option_map, Result, Ok, Err}
use Rattle.std.specs.Option.{unwrap_or}
use Rattle.std.specs.Result.{result_ok}
use Rattle.fields.specs.code.Fields.{ValuesIn, BodyIn}
use Prim.Native.Nat.{ℕ, ◌+◌, ◌≤◌, ◌<◌}
use native.Mathlib.Omega.{arith}
use mathlib.Core.Path.{◌≡◌, refl, sym, ap, subst, ◌∙◌}
use mathlib.Core.Bool.{Bool, true, false, not, true≢false}
use mathlib.Core.List.{List, [], ◌∷◌}
use lib.ListN.{length, take, drop}
use lib.Dec.{eqb}
use borrow.Author.Tests.{ne_eqb, eqb-true, eqb-false}
use Rattle.wire.specs.Choice.{when◌then◌else◌}
use Rattle.wire.specs.Scan.{Turn, follow, scan_from, scan_at}
use Rattle.wire.proofs.TestLaws.{either}
use Rattle.wire.proofs.ScanLaws.{scan_end, scan_on}
use Rattle.protobuf.specs.Field as proto
use Rattle.protobuf.specs.Group.{depth_most, group_at}
use Rattle.protobuf.specs.declared.field.Field.{Field as ProtoField}
use Rattle.protobuf.specs.declared.field.Field.TheVariants.{Number, Span, Fixed, GroupStart, GroupEnd}
use Rattle.protobuf.proofs.FieldLaws.{Ahead, FieldAhead, field_ahead}
use Rattle.protobuf.proofs.GroupLaws.{GroupAhead, group_ahead}
use Rattle.messages.specs.Message.{uint32, bytes, uint32s, Value, numbers, number_of, octets_of, numbers_of, value_at, Schema, Message}
use Rattle.messages.specs.Format.{Format, Field, field, skipped, unreadable, field_with, listed, Reading, read, broken, SoFar, turn_of, turn_at, read_message}
use Rattle.messages.specs.Protobuf.{of_varint, packed_of, is_of_wire, of_group, field_of, protobuf}
use Rattle.messages.specs.Operations.{ping, list_providers, list_opcodes, import_key, destroy_key, export_public_key, verify_signature, input_fields, Asking, asks, garbled, asking_of, asking_by, asked, Output, nothing, version, providers, opcodes, exported, when_read, read_body, output_of, offset_of, answer_of}
use Rattle.messages.specs.Placed.{first_entries, list_in, SpanWithin}
use Rattle.messages.specs.code.Places.{NoLists, values_of, five, seen}
use Rattle.messages.specs.code.ListBody.{list_schema, field_in, skipped_field, FieldWithin}
use Rattle.messages.specs.declared.format.BodyFormat.TheVariants.{Protobuf}
use Rattle.wire.specs.declared.span.Span.{Span as Place}
use Rattle.messages.proofs.RoundTrip.{turn_ahead}
use Rattle.messages.proofs.ProtobufLaws.{protobuf_lawful}
use Rattle.messages.proofs.PackedLaws.{all_entries}
use Rattle.fields.specs.declared.Value.{Value as At}
use Rattle.fields.specs.declared.Values.{Values}

-- ---- a field of a list's body

module _ (body : List ℕ) where
  abbrev field_for : Option ProtoField → Field
  field_for f = field_of list_schema body f

  number_skipped : (next : ℕ) (f : Field) (t : Bool) → skipped next ≡ (when is_of_wire 0 (when t then Some uint32s else None) then f else skipped next)
  number_skipped next f true = refl
  number_skipped next f false = refl

  -- a field that is not the list, by the position behind it
  abbrev passed : Option ℕ → Option (Option Place × ℕ)
  passed (Some next) = Some (None, next)
  passed None = None

  group_skipped : (g : Option ℕ) → field_in body (passed g) ≡ of_group g
  group_skipped (Some next) = refl
  group_skipped None = refl

  -- anything but bytes
  pub not_bytes : (f : ProtoField) → ((n start len next : ℕ) → f ≡ Span n start len next → ⊥) → field_in body (passed (skipped_field body f)) ≡ field_for (Some f)
  unfolding skipped_field
  not_bytes (Number n v next) h = number_skipped next (listed list_schema n (of_varint v) next) (eqb n 1)
  not_bytes (Span n start len next) h = absurd (h n start len next refl)
  not_bytes (Fixed n next) h = refl
  not_bytes (GroupStart n next) h = group_skipped (group_at depth_most body n next)
  not_bytes (GroupEnd n next) h = refl

  group_within : (at p : ℕ) (g : Option ℕ) → at < p → GroupAhead (length body) p g → FieldWithin (length body) at (passed g)
  group_within at p (Some next) l h = (omega arith, h.within)
  group_within at p None l h = tt

  field_within : (at : ℕ) (f : ProtoField) → FieldAhead (length body) at (Some f) → FieldWithin (length body) at (passed (skipped_field body f))
  unfolding skipped_field
  field_within at (Number n v next) h = (h.behind, h.within)
  field_within at (Span n start len next) h = (h.0.behind, h.0.within)
  field_within at (Fixed n next) h = (h.behind, h.within)
  field_within at (GroupStart n next) h = group_within at next (group_at depth_most body n next) h.behind (group_ahead body depth_most n next)
  field_within at (GroupEnd n next) h = tt

  module _ (at : ℕ) (f : ProtoField) (here : Some f ≡ proto.field_at body at) (other : (n start len next : ℕ) → f ≡ Span n start len next → ⊥) where
    same_field : (o : Option ℕ) → o ≡ skipped_field body f → field_in body (passed o) ≡ field_for (proto.field_at body at)
    same_field o e = ap (λ (x : Option ℕ). field_in body (passed x)) e ∙ not_bytes f other ∙ ap field_for here

    pub no_field : None ≡ skipped_field body f → unreadable ≡ field_for (proto.field_at body at)
    no_field e = same_field None e

    pub a_skipped : (next : ℕ) → Some next ≡ skipped_field body f → (skipped next ≡ field_for (proto.field_at body at)) × (at < next × next ≤ length body)
    a_skipped next e =
        (same_field (Some next) e, subst (λ (o : Option ℕ). FieldWithin (length body) at (passed o)) (sym e) (field_within at f (subst (FieldAhead (length body) at) (sym here) (field_ahead body at))))

  module _ (n start len next : ℕ) where
    pub other_number : (n ≡ 1 → ⊥) → field_for (Some (Span n start len next)) ≡ skipped next
    other_number h = rw (ne_eqb n 1 h)

    one_with : n ≡ 1 → field_for (Some (Span n start len next)) ≡ field_with 1 next (packed_of (take len (drop start body)))
    unfolding listed
    one_with e = rw e

    none_packed : (o : Option Value) → is_some o ≡ false → field_with 1 next o ≡ unreadable
    none_packed None h = refl
    none_packed (Some v) h = absurd (true≢false h)

    pub no_list : n ≡ 1 → is_some (packed_of (take len (drop start body))) ≡ false → field_for (Some (Span n start len next)) ≡ unreadable
    no_list e h = one_with e ∙ none_packed (packed_of (take len (drop start body))) h

    pub a_list : n ≡ 1 → is_some (packed_of (take len (drop start body))) ≡ true
        → field_for (Some (Span n start len next)) ≡ field 1 (numbers (list_in Protobuf body (record { start = start; len = len }))) next
    a_list e h = one_with e ∙ ap (field_with 1 next) (all_entries (take len (drop start body)) h)

  pub span_ahead : (at n start len next : ℕ) → proto.field_at body at ≡ Some (Span n start len next) → Ahead (length body) at next × (start + len ≤ length body)
  span_ahead at n start len next e = rw e at (field_ahead body at)

-- ---- a list's body

module _ (body : List ℕ) where
  abbrev turn : ℕ → SoFar → Turn SoFar Reading
  turn at so = turn_at protobuf list_schema body at so

  abbrev end : SoFar → Reading
  end so = read so.1

  abbrev scan : ℕ → SoFar → Reading
  scan at so = scan_at turn end (length body) at so

  -- the list so far, and the rest, give what the whole gives
  pub record Reads (span : Place) (at : ℕ) : Type 0 where
    pub last : ℕ
    pub within : SpanWithin (length body) span
    pub same : scan at (last, numbers (list_in Protobuf body span) ∷ []) ≡ read_message protobuf list_schema body

  pub reads_none : Reads (record { start = 0; len = 0 }) 0
  unfolding read_message first_entries scan_at scan_from
  reads_none = record { last = 0; within = omega arith; same = refl }

  pub reads_ahead : (at : ℕ) (found : Option Place) (next : ℕ) → FieldWithin (length body) at (Some (found, next)) → at < next × next ≤ length body
  reads_ahead at (Some place) next h = (h.1, h.2)
  reads_ahead at None next h = h

  module _ {span : Place} {at : ℕ} (r : Reads span at) where
    abbrev so : SoFar
    so = (r.last, numbers (list_in Protobuf body span) ∷ [])

    here : at < length body → (f : Field) → f ≡ protobuf.field_at list_schema body at
        → read_message protobuf list_schema body ≡ follow (turn_of protobuf at so f) scan
    here h f e =
        sym r.same
        ∙ scan_on turn end (length body) (turn_ahead protobuf protobuf_lawful list_schema body) at so h
        ∙ ap (λ (x : Field). follow (turn_of protobuf at so x) scan) (sym e)

    -- a field is read: the list, or another
    pub reads_on : (found : Option Place) (next : ℕ) → at < length body → FieldWithin (length body) at (Some (found, next))
        → field_in body (Some (found, next)) ≡ protobuf.field_at list_schema body at → Reads (unwrap_or found span) next
    reads_on (Some place) next h w e = record { last = 1; within = w.0; same = sym (here h _ e) }
    reads_on None next h w e = record { last = r.last; within = r.within; same = sym (here h _ e) }

    abbrev list : Message → List ℕ
    list m = numbers_of (value_at m 1)

    pub reads_broken : at < length body → unreadable ≡ protobuf.field_at list_schema body at → read_body protobuf list_schema body list ≡ None
    unfolding read_body
    reads_broken h e = ap (when_read list) (here h unreadable e)

    pub reads_end : length body ≤ at → read_body protobuf list_schema body list ≡ Some (list_in Protobuf body span)
    unfolding read_body
    reads_end h = ap (when_read list) (sym r.same ∙ scan_end turn end (length body) at so h)

-- ---- what is made of a body, in two steps

when_then : {A B : Type 0} (f : Message → A) (g : A → B) (r : Reading) → when_read (λ m. g (f m)) r ≡ option_map g (when_read f r)
when_then f g (read m) = refl
when_then f g (broken at) = refl

pub body_then : {A B : Type 0} (format : Format) (schema : Schema) (body : List ℕ) (f : Message → A) (g : A → B) (o : Option A)
    → o ≡ read_body format schema body f → option_map g o ≡ read_body format schema body (λ m. g (f m))
unfolding read_body
body_then format schema body f g o e = ap (option_map g) e ∙ sym (when_then f g (read_message format schema body))

-- ---- the other bodies

module _ {A : Type 0} (format : Format) (schema : Schema) (body : List ℕ) (f : Message → A) where
  pub body_broken : (r : Result Values ℕ) → seen body schema r ≡ read_message format schema body → None ≡ result_ok r → None ≡ read_body format schema body f
  unfolding read_body
  body_broken (Ok m) same e = cc
  body_broken (Err at) same e = ap (when_read f) same

  pub body_made : (r : Result Values ℕ) → seen body schema r ≡ read_message format schema body → (m : Values) → Some m ≡ result_ok r
      → Some (f (values_of body schema (five m))) ≡ read_body format schema body f
  unfolding read_body
  body_made (Ok n) same m e = let is : m ≡ n = cc in rw is (ap (when_read f) same)
  body_made (Err at) same m e = cc

pub values_in : (n : ℕ) (r : Result Values ℕ) (m : Values) → BodyIn n r → Some m ≡ result_ok r → ValuesIn n m
values_in n (Ok k) m h e = let is : m ≡ k = cc in rw is h
values_in n (Err at) m h e = cc

-- ---- what is asked

module _ (opcode : ℕ) where
  pub input_few : length (input_fields opcode) ≤ 5
  unfolding input_fields
  input_few =
      let P : Schema → Type 0 = λ s. length s ≤ 5 in
      either P (eqb opcode 9) (λ _. omega arith) (λ _. either P (eqb opcode 6) (λ _. omega arith) (λ _. either P (eqb opcode 3) (λ _. omega arith)
      (λ _. either P (eqb opcode 7) (λ _. omega arith) (λ _. either P (eqb opcode 5) (λ _. omega arith) (λ _. omega arith)))))

  pub input_no_lists : NoLists (input_fields opcode)
  unfolding input_fields
  input_no_lists =
      either NoLists (eqb opcode 9) (λ _. tt) (λ _. either NoLists (eqb opcode 6) (λ _. tt) (λ _. either NoLists (eqb opcode 3) (λ _. tt)
      (λ _. either NoLists (eqb opcode 7) (λ _. tt) (λ _. either NoLists (eqb opcode 5) (λ _. tt) (λ _. tt)))))

  pub asked_seen : (format : Format) (body : List ℕ) (r : Result Values ℕ) → seen body (input_fields opcode) r ≡ read_message format (input_fields opcode) body
      → asking_by opcode (seen body (input_fields opcode) r) ≡ asked format opcode body
  unfolding asked
  asked_seen format body r e = ap (asking_by opcode) e

-- the fields of its body that an opcode's operation is made of
module _ (opcode : ℕ) (body : List ℕ) (v : Values) where
  abbrev Makes : Asking → Type 0
  Makes asking = asking ≡ asking_of opcode (values_of body (input_fields opcode) (five v))

  abbrev span : At → List ℕ
  span p = take p.len (drop p.start body)

  pub makes_ping : opcode ≡ 1 → Makes (asks ping)
  unfolding asking_of
  makes_ping e = rw (e, asking_of)

  pub makes_list_providers : opcode ≡ 8 → Makes (asks list_providers)
  unfolding asking_of
  makes_list_providers e = rw (e, asking_of)

  pub makes_list_opcodes : opcode ≡ 9 → Makes (asks (list_opcodes v.f1.number))
  unfolding asking_of input_fields
  makes_list_opcodes e = rw (e, asking_of)

  pub makes_import : opcode ≡ 6 → Makes (asks (import_key (record { name = span v.f1; bytes = span v.f2; bits = v.f3.number; export_allowed = not (eqb v.f4.number 0); verify_allowed = not (eqb v.f5.number 0) })))
  unfolding asking_of input_fields
  makes_import e = rw (e, asking_of)

  pub makes_destroy : opcode ≡ 3 → Makes (asks (destroy_key (span v.f1)))
  unfolding asking_of input_fields
  makes_destroy e = rw (e, asking_of)

  pub makes_export : opcode ≡ 7 → Makes (asks (export_public_key (span v.f1)))
  unfolding asking_of input_fields
  makes_export e = rw (e, asking_of)

  pub makes_verify : opcode ≡ 5 → Makes (asks (verify_signature (span v.f1) (span v.f2) (span v.f3)))
  unfolding asking_of input_fields
  makes_verify e = rw (e, asking_of)

  pub makes_none : (opcode ≡ 1 → ⊥) → (opcode ≡ 8 → ⊥) → (opcode ≡ 9 → ⊥) → (opcode ≡ 6 → ⊥) → (opcode ≡ 3 → ⊥) → (opcode ≡ 7 → ⊥) → (opcode ≡ 5 → ⊥) → Makes (garbled 0)
  unfolding asking_of
  makes_none a b c d e f g = rw (ne_eqb _ _ a, ne_eqb _ _ b, ne_eqb _ _ c, ne_eqb _ _ d, ne_eqb _ _ e, ne_eqb _ _ f, ne_eqb _ _ g, asking_of)

-- ---- an output, by its opcode

module _ (format : Format) (opcode : ℕ) (body : List ℕ) where
  abbrev Is : Option Output → Type 0
  Is o = output_of format opcode body ≡ o

  pub of_ping_lem : opcode ≡ 1 → Is (read_body format (uint32 ∷ uint32 ∷ []) body (λ m. version (number_of (value_at m 1)) (number_of (value_at m 2))))
  unfolding output_of
  of_ping_lem e = rw (e, output_of)

  pub of_list_providers_lem : opcode ≡ 8 → Is (read_body format list_schema body (λ m. providers (numbers_of (value_at m 1))))
  unfolding output_of
  of_list_providers_lem e = rw (e, output_of)

  pub of_list_opcodes_lem : opcode ≡ 9 → Is (read_body format list_schema body (λ m. opcodes (numbers_of (value_at m 1))))
  unfolding output_of
  of_list_opcodes_lem e = rw (e, output_of)

  pub of_export_lem : opcode ≡ 7 → Is (read_body format (bytes ∷ []) body (λ m. exported (octets_of (value_at m 1))))
  unfolding output_of
  of_export_lem e = rw (e, output_of)

  -- the opcodes of Destroy, Verify and Import
  pub of_nothing : 3 ≤ opcode → opcode ≤ 6 → (opcode ≡ 4 → ⊥) → Is (read_body format [] body (λ m. nothing))
  unfolding output_of
  of_nothing low high four = go (eqb opcode 3) refl (eqb opcode 5) refl
    where
      go : (t : Bool) → eqb opcode 3 ≡ t → (u : Bool) → eqb opcode 5 ≡ u → Is (read_body format [] body (λ m. nothing))
      go true p u q = rw (eqb-true _ _ p, output_of)
      go false p true q = rw (eqb-true _ _ q, output_of)
      go false p false q = let six : opcode ≡ 6 = omega (arith, eqb-false _ _ p, eqb-false _ _ q) in rw (six, output_of)

  pub of_other : (opcode ≡ 1 → ⊥) → (opcode ≡ 8 → ⊥) → (opcode ≡ 9 → ⊥) → (opcode ≡ 6 → ⊥) → (opcode ≡ 3 → ⊥) → (opcode ≡ 7 → ⊥) → (opcode ≡ 5 → ⊥) → Is None
  unfolding output_of
  of_other a b c d e f g = rw (ne_eqb _ _ a, ne_eqb _ _ b, ne_eqb _ _ c, ne_eqb _ _ d, ne_eqb _ _ e, ne_eqb _ _ f, ne_eqb _ _ g, output_of)

-- ---- an output, by its status

module _ (format : Format) (opcode status : ℕ) (body : List ℕ) where
  abbrev Has : Option Output → Type 0
  Has o = answer_of format opcode status body ≡ o

  pub with_status_7 : status ≡ 7 → Has (offset_of format body)
  unfolding answer_of
  with_status_7 e = rw (e, answer_of)
