-- Where a body broke: reading comes to that place by the body's own fields, and the body cut there reads well.
use Rattle.std.proofs.Common.{Option, Some, None, option_and_then}
use Prim.Native.Nat.{ℕ, zero, suc, ◌+◌, ◌-◌, ◌≤◌, ◌<◌}
use native.Mathlib.Omega.{arith}
use native.Mathlib.Decide.{dec_lt}
use mathlib.Core.Path.{◌≡◌, refl, sym, ap, subst, ◌∙◌}
use mathlib.Core.Bool.{Bool, true, false, true≢false}
use mathlib.Core.List.{List, ◌++◌, map}
use lib.ListN.{length, take, drop, set, take-append-drop, length-drop}
use lib.Seq.{length-take-le, drop-append-le}
use lib.Dec.{eqb}
use Rattle.wire.specs.Choice.{when◌then◌else◌}
use Rattle.wire.specs.Lists.{one_of}
use Rattle.wire.specs.Numbers.{field as field'}
use Rattle.wire.specs.Scan.{Turn, on, out, follow, scan_at}
use Rattle.wire.proofs.TestLaws.{either}
use Rattle.wire.proofs.ListLaws.{part_of_part}
use Rattle.wire.proofs.ScanLaws.{TurnAhead, scan_end, scan_on}
use Rattle.records.specs.Records.{Record, record_length, record_in, is_whole}
use Rattle.records.proofs.RecordLaws.{whole_fit, room_front, size_append, record_append}
use Rattle.protobuf.specs.Field as proto
use Rattle.protobuf.specs.Group.{depth_most, group_at}
use Rattle.protobuf.specs.declared.field.Field.{Field as ProtoField}
use Rattle.protobuf.specs.declared.field.Field.TheVariants.{Number, Span, Fixed, GroupStart, GroupEnd}
use Rattle.protobuf.proofs.FieldLaws as protoLaws
use Rattle.protobuf.proofs.GroupLaws.{GroupAhead, group_ahead}
use Rattle.protobuf.proofs.CutLaws as cutLaws
use Rattle.messages.specs.Message.{Kind, Value, Schema, Message, kind_at, absent}
use Rattle.messages.specs.Format.{Field, field, skipped, unreadable, Format, field_with, listed, Reading, read, broken, SoFar, turn_of, turn_at, read_message}
use Rattle.messages.specs.Protobuf.{of_varint, of_span, is_of_wire, of_group, field_of, protobuf}
use Rattle.messages.specs.Tagged.{of_value, tagged_at}
use Rattle.messages.specs.Formats.{format_of}
use Rattle.messages.specs.Opcodes.{core_opcodes, keystore_opcodes}
use Rattle.messages.specs.Operations.{input_fields, Asking, asks, garbled, asking_of, asking_by, asked}
use Rattle.messages.specs.Claims.{Arrives, at_start, behind, BreaksAt, SaysWhere, OnlyThere, UnreadableThere, AskedWhere}
use Rattle.messages.specs.declared.format.BodyFormat.{BodyFormat}
use Rattle.messages.specs.declared.format.BodyFormat.TheVariants.{Protobuf, Tagged}
use Rattle.messages.proofs.RoundTrip.{Lawful, turn_ahead}
use Rattle.messages.proofs.FormatsLaws.{lawful}

-- ---- a format whose fields are the same where the body is cut behind them

-- what ends within k bytes is the same in the cut
abbrev pub FieldKept : (k : ℕ) (whole cut : Field) → Type 0
FieldKept k (field n value next) cut = next ≤ k → cut ≡ field n value next
FieldKept k (skipped next) cut = next ≤ k → cut ≡ skipped next
FieldKept k unreadable cut = Unit {0}

abbrev pub Cuttable : Format → Type 0
Cuttable format =
    (schema : Schema) (body : List ℕ) (k at : ℕ) → k ≤ length body → FieldKept k (format.field_at schema body at) (format.field_at schema (take k body) at)

-- ---- readings and turns told apart

is_read : Reading → Bool
is_read (read m) = true
is_read (broken at) = false

place_of : Reading → ℕ
place_of (read m) = 0
place_of (broken at) = at

read≢broken : {m : Message} {at : ℕ} → read m ≡ broken at → ⊥
unfolding is_read
read≢broken e = true≢false (ap is_read e)

same_place : {at at' : ℕ} → broken at ≡ broken at' → at ≡ at'
unfolding place_of
same_place e = ap place_of e

-- a turn goes on, or says that it broke here
abbrev TurnSays : ℕ → Turn SoFar Reading → Type 0
TurnSays at (on so next) = Unit {0}
TurnSays at (out r) = r ≡ broken at

turn_says : (format : Format) (at : ℕ) (so : SoFar) (f : Field) → TurnSays at (turn_of format at so f)
turn_says format at so (field n value next) = either (TurnSays at) (format.may_follow so.0 n) (λ _. tt) (λ _. refl)
turn_says format at so (skipped next) = tt
turn_says format at so unreadable = refl

-- a turn that goes on to `next` is the same in the cut
abbrev TurnKept : (k : ℕ) (whole cut : Turn SoFar Reading) → Type 0
TurnKept k (on so next) cut = next ≤ k → cut ≡ on so next
TurnKept k (out r) cut = Unit {0}

turn_kept : (format : Format) (k at : ℕ) (so : SoFar) (f f' : Field) → FieldKept k f f' → TurnKept k (turn_of format at so f) (turn_of format at so f')
turn_kept format k at so (field n value next) f' h =
    either (λ (t : Turn SoFar Reading). TurnKept k t (turn_of format at so f')) (format.may_follow so.0 n)
    (λ e l. ap (turn_of format at so) (h l) ∙ ap (λ (t : Bool). when t then on (n, set so.1 (n - 1) value) next else out (broken at)) e)
    (λ _. tt)
turn_kept format k at so (skipped next) f' h = λ l. ap (turn_of format at so) (h l)
turn_kept format k at so unreadable f' h = tt

-- ---- any format

module _ (format : Format) (law : Lawful format) (schema : Schema) where
  abbrev scan : (body : List ℕ) (at : ℕ) → SoFar → Reading
  scan body at so = scan_at (turn_at format schema body) (λ so. read so.1) (length body) at so

  abbrev begun : SoFar
  begun = (0, map absent schema)

  at_end : (body : List ℕ) (at : ℕ) (so : SoFar) → length body ≤ at → scan body at so ≡ read so.1
  at_end body at so h = scan_end (turn_at format schema body) (λ so. read so.1) (length body) at so h

  goes_on_lem : (body : List ℕ) (at : ℕ) (so : SoFar) (t : Turn SoFar Reading) → turn_at format schema body at so ≡ t → at < length body → scan body at so ≡ follow t (scan body)
  goes_on_lem body at so t e h =
      scan_on (turn_at format schema body) (λ so. read so.1) (length body) (turn_ahead format law schema body) at so h
      ∙ ap (λ (x : Turn SoFar Reading). follow x (scan body)) e

  step_ahead : (body : List ℕ) (at next : ℕ) (so more : SoFar) → turn_at format schema body at so ≡ on more next → at < next
  step_ahead body at next so more e = subst (TurnAhead at) e (turn_ahead format law schema body at so)

  -- what stands behind the fields read gives what the whole gives
  whole_rest : (body : List ℕ) (at : ℕ) (so : SoFar) → Arrives format schema body at so → scan body 0 begun ≡ scan body at so
  whole_rest body at so at_start = refl
  whole_rest body at so (behind p next q more a h e) = whole_rest body p q a ∙ goes_on_lem body p q (on more next) e h

  module _ (cuttable : Cuttable format) (body : List ℕ) where
    -- the fields read within k bytes are read in the cut
    cut_rest : (k : ℕ) → k ≤ length body → (at : ℕ) (so : SoFar) → Arrives format schema body at so → at ≤ k
        → scan (take k body) 0 begun ≡ scan (take k body) at so
    cut_rest k short at so at_start l = refl
    cut_rest k short at so (behind p next q more a h e) l =
        let ahead : p < next = step_ahead body p next q more e in
        let long : length (take k body) ≡ k = length-take-le k body short in
        let same : turn_at format schema (take k body) p q ≡ on more next
        = subst (λ (t : Turn SoFar Reading). TurnKept k t (turn_at format schema (take k body) p q)) e (turn_kept format k p q (format.field_at schema body p) (format.field_at schema (take k body) p) (cuttable schema body k p short)) l in
        cut_rest k short p q a (omega arith) ∙ goes_on_lem (take k body) p q (on more next) same (omega arith)

    front_read : (at : ℕ) (so : SoFar) → Arrives format schema body at so → at ≤ length body → read_message format schema (take at body) ≡ read so.1
    unfolding read_message
    front_read at so a h =
        let long : length (take at body) ≡ at = length-take-le at body h in
        cut_rest at h at so a (omega arith) ∙ at_end (take at body) at so (omega arith)

    breaks : (at : ℕ) (so : SoFar) → Arrives format schema body at so → at < length body → turn_at format schema body at so ≡ out (broken at) → BreaksAt format schema body at
    breaks at so a h e = record { so = so; arrives = a; within = h; stops = e; front = front_read at so a (omega arith) }

    by_turn : (at p : ℕ) (so : SoFar) → Arrives format schema body p so → p < length body
        → ((next : ℕ) (more : SoFar) → Arrives format schema body next more → p < next → scan body next more ≡ broken at → BreaksAt format schema body at)
        → (t : Turn SoFar Reading) → turn_at format schema body p so ≡ t → TurnSays p t → follow t (scan body) ≡ broken at → BreaksAt format schema body at
    by_turn at p so a h later (on more next) e says f = later next more (behind p next so more a h e) (step_ahead body p next so more e) f
    by_turn at p so a h later (out r) e says f =
        let here : p ≡ at = same_place (sym says ∙ f) in
        subst (BreaksAt format schema body) here (breaks p so a h (e ∙ ap out says))

    found : (at n p : ℕ) (so : SoFar) → length body - p ≤ n → Arrives format schema body p so → scan body p so ≡ broken at → BreaksAt format schema body at
    found at zero p so l a e = absurd (read≢broken (sym (at_end body p so (omega arith)) ∙ e))
    found at (suc n) p so l a e = elim (dec_lt p (length body)) [
      | yes h ↦
          by_turn at p so a h (λ next more b m f. found at n next more (omega arith) b f) (turn_at format schema body p so) refl
          (turn_says format p so (format.field_at schema body p)) (sym (goes_on_lem body p so _ refl h) ∙ e)
      | no h ↦ absurd (read≢broken (sym (at_end body p so (omega arith)) ∙ e))
    ]

pub says_where : (format : Format) → Lawful format → Cuttable format → SaysWhere format
unfolding read_message
says_where format law cuttable schema body at e = found format law schema cuttable body at (length body) 0 (0, map absent schema) (omega arith) at_start e

pub only_there : (format : Format) → Lawful format → OnlyThere format
unfolding read_message
only_there format law schema body at b =
    whole_rest format law schema body at b.so b.arrives ∙ goes_on_lem format law schema body at b.so (out (broken at)) b.stops b.within

-- ---- what is asked

is_asked : Asking → Bool
is_asked (asks operation) = true
is_asked (garbled at) = false

garbled_at : Asking → ℕ
garbled_at (asks operation) = 0
garbled_at (garbled at) = at

listed_asks : (opcode : ℕ) (m : Message) → one_of (core_opcodes ++ keystore_opcodes) opcode ≡ true → is_asked (asking_of opcode m) ≡ true
unfolding asking_of one_of is_asked
listed_asks opcode m e =
    let P : Asking → Type 0 = λ a. is_asked a ≡ true in
    either P (eqb opcode 1) (λ _. refl)
    (λ a. either P (eqb opcode 8) (λ _. refl)
    (λ b. either P (eqb opcode 9) (λ _. refl)
    (λ c. either P (eqb opcode 6) (λ _. refl)
    (λ d. either P (eqb opcode 3) (λ _. refl)
    (λ f. either P (eqb opcode 7) (λ _. refl)
    (λ g. either P (eqb opcode 5) (λ _. refl)
    (λ h. (let none-such : one_of (core_opcodes ++ keystore_opcodes) opcode ≡ false = rw (a, b, c, d, f, g, h) in absurd (true≢false (sym e ∙ none-such))))))))))

pub asked_where : (format : Format) → SaysWhere format → AskedWhere format
unfolding asked is_asked garbled_at
asked_where format says opcode body at l e = go (read_message format (input_fields opcode) body) refl e
  where
    go : (r : Reading) → read_message format (input_fields opcode) body ≡ r → asking_by opcode r ≡ garbled at → BreaksAt format (input_fields opcode) body at
    go (read m) q f = absurd (true≢false (sym (listed_asks opcode m l) ∙ ap is_asked f))
    go (broken p) q f = subst (BreaksAt format (input_fields opcode) body) (ap garbled_at f) (says (input_fields opcode) body p q)

-- ---- a field that ends at `next`

abbrev EndsAt : ℕ → Field → Type 0
EndsAt next (field n value p) = p ≡ next
EndsAt next (skipped p) = p ≡ next
EndsAt next unreadable = Unit {0}

with_ends : (n next : ℕ) (o : Option Value) → EndsAt next (field_with n next o)
with_ends n next None = tt
with_ends n next (Some value) = refl

listed_ends : (schema : Schema) (n : ℕ) (valueAs : Kind → Option Value) (next : ℕ) → EndsAt next (listed schema n valueAs next)
unfolding listed
listed_ends schema n valueAs next = with_ends n next (option_and_then valueAs (kind_at schema n))

same_field : (k next : ℕ) (f c : Field) → EndsAt next f → (next ≤ k → c ≡ f) → FieldKept k f c
same_field k next (field n value p) c e h = λ l. h (rw e at l)
same_field k next (skipped p) c e h = λ l. h (rw e at l)
same_field k next unreadable c e h = tt

-- ---- Protocol Buffers

module _ (schema : Schema) (body : List ℕ) (k at : ℕ) (short : k ≤ length body) where
  abbrev cut : List ℕ
  cut = take k body

  -- listed, or skipped
  choice_ends : (n : ℕ) (valueAs : Kind → Option Value) (next : ℕ) (t : Bool) → EndsAt next (when t then listed schema n valueAs next else skipped next)
  choice_ends n valueAs next true = listed_ends schema n valueAs next
  choice_ends n valueAs next false = refl

  by_group : (n next : ℕ) (g : Option ℕ) → GroupAhead (length body) next g → cutLaws.GroupKept k g (group_at depth_most cut n next)
      → (next ≤ k → proto.field_at cut at ≡ Some (GroupStart n next)) → FieldKept k (of_group g) (field_of schema cut (proto.field_at cut at))
  by_group n next (Some p) a h e = λ l. ap (field_of schema cut) (e (omega (arith, a.behind))) ∙ ap of_group (h l)
  by_group n next None a h e = tt

  by_field : (f : Option ProtoField) → cutLaws.FieldKept k f (proto.field_at cut at) → FieldKept k (field_of schema body f) (field_of schema cut (proto.field_at cut at))
  by_field (Some (Number n v next)) h =
      same_field k next _ _ (choice_ends n (of_varint v) next (is_of_wire 0 (kind_at schema n))) (λ l. ap (field_of schema cut) (h l))
  by_field (Some (Span n start len next)) h =
      same_field k next _ _ (choice_ends n (of_span (take len (drop start body))) next (is_of_wire 2 (kind_at schema n)))
      (λ l.
      let inside : start + len ≤ length cut = (subst (protoLaws.FieldAhead (length cut) at) (h l) (protoLaws.field_ahead cut at)).1 in
      let part : take len (drop start cut) ≡ take len (drop start body) = part_of_part len start k body (omega (arith, length-take-le k body short)) in
      ap (field_of schema cut) (h l) ∙ ap (λ (x : List ℕ). when is_of_wire 2 (kind_at schema n) then listed schema n (of_span x) next else skipped next) part)
  by_field (Some (Fixed n next)) h = λ l. ap (field_of schema cut) (h l)
  by_field (Some (GroupStart n next)) h = by_group n next (group_at depth_most body n next) (group_ahead body depth_most n next) (cutLaws.group_kept body k short depth_most n next) h
  by_field (Some (GroupEnd n next)) h = tt
  by_field None h = tt

protobuf_cuttable : Cuttable protobuf
protobuf_cuttable schema body k at short = by_field schema body k at short (proto.field_at body at) (cutLaws.field_kept body k short at)

-- ---- format 2

module _ (schema : Schema) (body : List ℕ) (k at : ℕ) (short : k ≤ length body) where
  abbrev here : List ℕ
  here = drop at body

  abbrev front : List ℕ
  front = drop at (take k body)

  abbrev record_field : List ℕ → Field
  record_field s = listed schema (record_in s).tag (of_value (record_in s).value) (at + record_length s)

  -- a record that ends within the cut is the same there
  same_record : at + record_length here ≤ k → tagged_at schema (take k body) at ≡ record_field here
  unfolding tagged_at
  same_record h =
      let long : length (take k body) ≡ k = length-take-le k body short in
      let parts : here ≡ front ++ drop k body = ap (drop at) (sym (take-append-drop k body)) ∙ drop-append-le at (take k body) (drop k body) (omega arith) in
      let size : field' 1 2 here ≡ field' 1 2 (front ++ drop k body) = ap (field' 1 2) parts in
      let room : record_length front ≤ length front = room_front front (drop k body) (omega (arith, length-drop at (take k body))) in
      let is : record_in front ≡ record_in here = sym (record_append front (drop k body) room) ∙ ap record_in (sym parts) in
      let next : at + record_length front ≡ at + record_length here = omega (arith, size_append front (drop k body) room) in
      rw (whole_fit front room, next, ap (λ (r : Record). r.tag) is, ap (λ (r : Record). r.value) is)

  record_kept : FieldKept k (tagged_at schema body at) (tagged_at schema (take k body) at)
  unfolding tagged_at
  record_kept =
      either (λ (f : Field). FieldKept k f (tagged_at schema (take k body) at)) (is_whole here)
      (λ _. same_field k (at + record_length here) (record_field here) _ (listed_ends schema (record_in here).tag (of_value (record_in here).value) (at + record_length here)) same_record)
      (λ _. tt)

-- ---- either format

cuttable : (f : BodyFormat) → Cuttable (format_of f)
cuttable Protobuf = protobuf_cuttable
cuttable Tagged = λ schema body k at short. record_kept schema body k at short

pub body_says_where : (f : BodyFormat) → SaysWhere (format_of f)
body_says_where f = says_where (format_of f) (lawful f) (cuttable f)

pub body_asked_where : (f : BodyFormat) → AskedWhere (format_of f)
body_asked_where f = asked_where (format_of f) (body_says_where f)

pub body_only_there : (f : BodyFormat) → OnlyThere (format_of f)
body_only_there f = only_there (format_of f) (lawful f)

-- in Protocol Buffers fields come in any order, so that one which stops the reading is unreadable
goes_on : Turn SoFar Reading → Bool
goes_on (on so next) = true
goes_on (out r) = false

stops_unreadable : (at : ℕ) (so : SoFar) (f : Field) → goes_on (turn_of protobuf at so f) ≡ false → f ≡ unreadable
unfolding goes_on
stops_unreadable at so (field n value next) e = absurd (true≢false e)
stops_unreadable at so (skipped next) e = absurd (true≢false e)
stops_unreadable at so unreadable e = refl

pub protobuf_unreadable_there : UnreadableThere protobuf
protobuf_unreadable_there schema body at e =
    let b : BreaksAt protobuf schema body at = body_says_where Protobuf schema body at e in
    stops_unreadable at b.so (protobuf.field_at schema body at) (ap goes_on b.stops ∙ (unfold goes_on in refl))
