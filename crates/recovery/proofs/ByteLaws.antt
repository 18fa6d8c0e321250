-- The records of a stream of bytes are bytes.
use Rattle.std.proofs.Common.{Option, Some, None, option_and_then, Result, Ok, Err}
use mathlib.Core.Path.{◌≡◌, refl, sym, ap, ap₂, ◌∙◌, subst}
use mathlib.Core.Bool.{Bool, true, false, not, ◌&&◌}
use mathlib.Core.List.{List, [], ◌∷◌, ◌++◌, map, flatten}
use Prim.Native.Nat.{ℕ, zero, suc, ◌+◌, ◌-◌, ◌/◌, ◌%◌, ◌^◌, ◌<◌}
use native.Mathlib.Omega.{arith}
use borrow.Author.Tests.{lt-ltb}
use lib.ListN.{length, drop, get_or, set}
use lib.Bits.{xor_lt}
use lib.Dec.{leb, ltb, eqb}
use Rattle.wire.specs.Lists.{all, same as alikeBytes, blocks}
use Rattle.wire.specs.Numbers.{little_endian, little_endian_of, field as number_at}
use Rattle.wire.specs.Request.{content_length, header_length, Request, request_of}
use Rattle.wire.proofs.TestLaws.{either}
use Rattle.wire.proofs.ListLaws.{all_append, all_drop, all_first, all_last, all_within}
use Rattle.wire.proofs.NumberLaws.{is_byte}
use Rattle.keys.specs.Key.{legal_bits}
use Rattle.keys.proofs.KeyLaws.{legal_bits_lem}
use Rattle.messages.specs.Tagged.{given, of_value, tagged_at, tagged}
use Rattle.messages.specs.Formats.{format_of, format_for}
use Rattle.messages.specs.declared.format.BodyFormat.{BodyFormat}
use Rattle.messages.specs.declared.format.BodyFormat.TheVariants.{Protobuf, Tagged}
use Rattle.messages.specs.Operations.{Operation, ping, list_providers, list_opcodes, import_key, destroy_key, export_public_key, verify_signature, Asking, input_fields, asking_of, asking_by, asked, operation_in, operation_of}
use Rattle.messages.specs.Message.{Kind, uint32, bool, bytes, uint32s, Value, number, flag as flagValue, octets, numbers, octets_of, Schema, Message, kind_at, absent}
use Rattle.messages.specs.Format.{Format, Field, field, skipped, unreadable, field_with, listed, Reading, read, broken, SoFar, turn_of, turn_at, read_message}
use Rattle.records.specs.Records.{record_length, record_in, is_whole}
use Rattle.wire.specs.Scan.{Turn, follow, scan_from, scan_at}
use Rattle.messages.specs.code.Places.{schema_placed, value_of as placedValue, values_of, five, seen}
use Rattle.messages.proofs.PlacesLaws.{placed}
use Rattle.messages.proofs.PlacedLaws.{input_few, input_no_lists}
use Rattle.protobuf.specs.code.Body.{body_of}
use Rattle.fields.specs.declared.Value.{Value as Place}
use Rattle.registry.specs.Slots.{flag}
use Rattle.registry.specs.Registry.{slots_of}
use Rattle.registry.specs.WellFormed.{well_formed_registry}
use Rattle.registry.specs.declared.Line.{Line}
use Rattle.registry.proofs.SlotLaws.{short_name}
use Rattle.stream.specs.Frame.{legal_start, oversized}
use Rattle.stream.specs.Rules.{Verdict, judge}
use Rattle.stream.specs.Handed.{Handed}
use Rattle.stream.specs.Parts.{Parts, joined, parts_of, verdict_on, responses_from, responses_to}
use Rattle.stream.proofs.PartsLaws.{parts_joined, rules_from_stream}
use Rattle.judgement.specs.Status.{status_number}
use Rattle.judgement.specs.Counts.{Counts}
use Rattle.judgement.specs.Judgement.{application_of, result_of}
use Rattle.judgement.proofs.ImportLaws.{bounded_legal}
use Rattle.crc.specs.Crc.{all_ones, register_after, crc32}
use Rattle.crc.proofs.ResidueLaws.{register_small}
use Rattle.journal.specs.Record.{Act, importing, destroying, value_of, tag_of, covered, record_of}
use Rattle.journal.specs.Replay.{replay}
use Rattle.journal.specs.Journalling.{act_of, act_asked, served_act, record_for, recorded_for, journalling, records_in, journal_of}
use Rattle.journal.proofs.KeptLaws.{carried_is}
use Rattle.journal.proofs.LeftLaws.{in_use_below}
use Rattle.journal.proofs.ReplayLaws.{served_carried, import_taken, replay_short, Alike, replay_any, served_replayed, refused_unrecorded}
use Rattle.recovery.proofs.RequestLaws.{reply_good}
use Rattle.fields.specs.declared.Values.{Values}

-- ---- numbers

byte : (n : ℕ) → n < 256 → is_byte n ≡ true
byte n h = lt-ltb n 256 h

two_bytes : (n : ℕ) → n < 65536 → all is_byte (little_endian_of 2 n) ≡ true
unfolding little_endian_of
two_bytes n h = rw (byte (n % 256) (omega arith), byte (n / 256) (omega arith))

four_bytes : (n : ℕ) → n < 2 ^ 32 → all is_byte (little_endian_of 4 n) ≡ true
unfolding little_endian_of
four_bytes n h =
    rw (byte (n % 256) (omega arith), byte (n / 256 % 256) (omega arith), byte (n / 256 / 256 % 256) (omega arith), byte (n / 256 / 256 / 256) (omega arith))

crc_small : (xs : List ℕ) → all is_byte xs ≡ true → crc32 xs < 2 ^ 32
unfolding crc32
crc_small xs w = xor_lt 32 (register_after all_ones xs) all_ones (register_small xs all_ones w (omega arith)) (omega arith)

-- ---- a record

flag_byte : (t : Bool) → is_byte (flag t) ≡ true
flag_byte true = refl
flag_byte false = refl

-- the bytes in it
NameBytes : Act → Type 0
NameBytes (importing line key) = (all is_byte key.name ≡ true) × (all is_byte key.bytes ≡ true)
NameBytes (destroying line name) = all is_byte name ≡ true

module _ (g after : List ℕ) where
  value_bytes_lem : (act : Act) → NameBytes act → replay g act ≡ Some after → all is_byte (value_of act) ≡ true
  unfolding NameBytes replay value_of
  value_bytes_lem (importing line key) (n, b) e =
      let used = (carried_is g line _ after e).0 in
      let below : line.0 < 256 = omega (arith, in_use_below g line used) in
      let t = import_taken (slots_of g line) [] legal_bits key (served_carried g line _ after e) in
      let legal = bounded_legal key t.bounds t.bits in
      let few : length key.name < 256 = omega (arith, short_name key legal) in
      let rest : all is_byte (flag key.export_allowed ∷ flag key.verify_allowed ∷ length key.name ∷ (key.name ++ key.bytes)) ≡ true
      = rw (flag_byte key.export_allowed, flag_byte key.verify_allowed, byte (length key.name) few) (all_append is_byte key.name key.bytes n b) in
      ap₂ ◌&&◌ (byte line.0 below)
      (all_append is_byte (little_endian_of 2 key.bits) _ (two_bytes key.bits (omega (arith, legal_bits_lem key.bits legal.bits))) rest)
  value_bytes_lem (destroying line name) n e =
      let used = (carried_is g line _ after e).0 in
      ap₂ ◌&&◌ (byte line.0 (omega (arith, in_use_below g line used))) n

  tag_byte : (act : Act) → is_byte (tag_of act) ≡ true
  unfolding tag_of
  tag_byte (importing line key) = refl
  tag_byte (destroying line name) = refl

  record_bytes_lem : (act : Act) → NameBytes act → replay g act ≡ Some after → all is_byte (record_of act) ≡ true
  unfolding record_of covered
  record_bytes_lem act n e =
      let value = value_bytes_lem act n e in
      let front : all is_byte (covered (tag_of act) (value_of act)) ≡ true
      = ap₂ ◌&&◌ (tag_byte act) (all_append is_byte (little_endian_of 2 (length (value_of act))) (value_of act) (two_bytes (length (value_of act)) (omega (arith, replay_short g act after e))) value) in
      all_append is_byte (covered (tag_of act) (value_of act)) _ front (four_bytes (crc32 (covered (tag_of act) (value_of act))) (crc_small _ front))

-- ---- an operation read from bytes

OfBytes : Option Operation → Type 0
OfBytes None = Unit {0}
OfBytes (Some ping) = Unit {0}
OfBytes (Some list_providers) = Unit {0}
OfBytes (Some (list_opcodes provider)) = Unit {0}
OfBytes (Some (import_key key)) = (all is_byte key.name ≡ true) × (all is_byte key.bytes ≡ true)
OfBytes (Some (destroy_key name)) = all is_byte name ≡ true
OfBytes (Some (export_public_key name)) = Unit {0}
OfBytes (Some (verify_signature name hash signature)) = Unit {0}

-- the bytes of a value, and of a message's values
abbrev BytesIn : Value → Type 0
BytesIn v = all is_byte (octets_of v) ≡ true

abbrev AllBytes : Message → Type 0
AllBytes [] = Unit {0}
AllBytes (v ∷ m) = BytesIn v × AllBytes m

at_bytes : (m : Message) (n : ℕ) → AllBytes m → BytesIn (get_or m n (number 0))
at_bytes [] n h = refl
at_bytes (v ∷ m) zero h = h.0
at_bytes (v ∷ m) (suc n) h = at_bytes m n h.1

absent_bytes : (kind : Kind) → BytesIn (absent kind)
absent_bytes uint32 = refl
absent_bytes bool = refl
absent_bytes bytes = refl
absent_bytes uint32s = refl

module _ (body : List ℕ) (w : all is_byte body ≡ true) where
  placed_bytes : (kind : Kind) (v : Place) → BytesIn (placedValue body kind v)
  placed_bytes uint32 v = refl
  placed_bytes bool v = refl
  placed_bytes bytes v = all_within is_byte body v.start v.len w
  placed_bytes uint32s v = refl

  values_bytes : (schema : Schema) (vs : List Place) → AllBytes (values_of body schema vs)
  values_bytes [] vs = tt
  values_bytes (kind ∷ schema) [] = (absent_bytes kind, values_bytes schema [])
  values_bytes (kind ∷ schema) (v ∷ vs) = (placed_bytes kind v, values_bytes schema vs)

asking_bytes : (opcode : ℕ) (m : Message) → AllBytes m → OfBytes (operation_in (asking_of opcode m))
unfolding asking_of OfBytes
asking_bytes opcode m h =
    let P : Asking → Type 0 = λ a. OfBytes (operation_in a) in
    either P (eqb opcode 1) (λ _. tt)
    (λ _. either P (eqb opcode 8) (λ _. tt)
    (λ _. either P (eqb opcode 9) (λ _. tt)
    (λ _. either P (eqb opcode 6) (λ _. (at_bytes m 0 h, at_bytes m 1 h))
    (λ _. either P (eqb opcode 3) (λ _. at_bytes m 0 h) (λ _. either P (eqb opcode 7) (λ _. tt) (λ _. either P (eqb opcode 5) (λ _. tt) (λ _. tt)))))))

seen_bytes : (opcode : ℕ) (body : List ℕ) → all is_byte body ≡ true → (b : Result Values ℕ) → OfBytes (operation_in (asking_by opcode (seen body (input_fields opcode) b)))
seen_bytes opcode body w (Ok v) = asking_bytes opcode (values_of body (input_fields opcode) (five v)) (values_bytes body w (input_fields opcode) (five v))
seen_bytes opcode body w (Err at) = unfold OfBytes in tt

-- ---- a body of format 2

abbrev FieldBytes : Field → Type 0
FieldBytes (field n v next) = BytesIn v
FieldBytes (skipped next) = Unit {0}
FieldBytes unreadable = Unit {0}

abbrev ReadBytes : Reading → Type 0
ReadBytes (read m) = AllBytes m
ReadBytes (broken at) = Unit {0}

abbrev AnyBytes : Option Value → Type 0
AnyBytes None = Unit {0}
AnyBytes (Some v) = BytesIn v

set_bytes : (m : Message) (i : ℕ) (v : Value) → AllBytes m → BytesIn v → AllBytes (set m i v)
set_bytes [] i v h b = tt
set_bytes (x ∷ m) zero v h b = (b, h.1)
set_bytes (x ∷ m) (suc i) v h b = (h.0, set_bytes m i v h.1 b)

none_bytes : (schema : Schema) → AllBytes (map absent schema)
none_bytes [] = tt
none_bytes (kind ∷ schema) = (absent_bytes kind, none_bytes schema)

module _ (format : Format) (schema : Schema) (body : List ℕ) (found : (at : ℕ) → FieldBytes (format.field_at schema body at)) where
  abbrev from : (count at : ℕ) → SoFar → Reading
  from count at so = scan_from (turn_at format schema body) (λ x. read x.1) (length body) count at so

  scan_bytes : (count at : ℕ) (so : SoFar) → AllBytes so.1 → ReadBytes (from count at so)
  unfolding scan_from
  scan_bytes zero at so h = h
  scan_bytes (suc count) at so h =
      either ReadBytes (ltb at (length body)) (λ _. step (λ next so' h'. scan_bytes count next so' h') (format.field_at schema body at) (found at)) (λ _. h)
    where
      step : ((next : ℕ) (so' : SoFar) → AllBytes so'.1 → ReadBytes (from count next so'))
          → (f : Field) → FieldBytes f → ReadBytes (follow (turn_of format at so f) (λ next so'. from count next so'))
      step ih (field n v next) b =
          either (λ (t : Turn SoFar Reading). ReadBytes (follow t (λ next so'. from count next so'))) (format.may_follow so.0 n)
          (λ _. ih next (n, set so.1 (n - 1) v) (set_bytes so.1 (n - 1) v h b)) (λ _. tt)
      step ih (skipped next) b = ih next so h
      step ih unreadable b = tt

  read_bytes : ReadBytes (read_message format schema body)
  unfolding read_message scan_at
  read_bytes = scan_bytes (length body - 0) 0 (0, map absent schema) (none_bytes schema)

module _ (body : List ℕ) (w : all is_byte body ≡ true) where
  given_bytes : (t : Bool) (v : Value) → BytesIn v → AnyBytes (given t v)
  given_bytes true v b = b
  given_bytes false v b = tt

  value_read : (s : List ℕ) → all is_byte s ≡ true → (kind : Kind) → AnyBytes (of_value s kind)
  value_read s h uint32 = given_bytes (eqb (length s) 4 && not (eqb (little_endian s) 0)) (number (little_endian s)) refl
  value_read s h bool = given_bytes (alikeBytes s (1 ∷ [])) (flagValue true) refl
  value_read s h bytes = given_bytes (leb 1 (length s)) (octets s) h
  value_read s h uint32s = given_bytes (leb 1 (length s) && eqb (length s % 4) 0) (numbers (map little_endian (blocks (length s / 4) 4 s))) refl

  with_bytes : (n next : ℕ) (o : Option Value) → AnyBytes o → FieldBytes (field_with n next o)
  with_bytes n next None h = tt
  with_bytes n next (Some v) h = h

  listed_bytes : (schema : Schema) (n : ℕ) (s : List ℕ) → all is_byte s ≡ true → (next : ℕ) → FieldBytes (listed schema n (of_value s) next)
  unfolding listed
  listed_bytes schema n s h next = go (kind_at schema n)
    where
      go : (k : Option Kind) → FieldBytes (field_with n next (option_and_then (of_value s) k))
      go None = tt
      go (Some kind) = with_bytes n next (of_value s kind) (value_read s h kind)

  tagged_bytes : (schema : Schema) (at : ℕ) → FieldBytes (tagged_at schema body at)
  unfolding tagged_at
  tagged_bytes schema at =
      let rest : List ℕ = drop at body in
      either FieldBytes (is_whole rest)
      (λ _. listed_bytes schema (record_in rest).tag (record_in rest).value (all_within is_byte rest 3 (number_at 1 2 rest) (all_drop is_byte at body w)) (at + record_length rest))
      (λ _. tt)

by_reading : (opcode : ℕ) (r : Reading) → ReadBytes r → OfBytes (operation_in (asking_by opcode r))
by_reading opcode (read m) h = asking_bytes opcode m h
by_reading opcode (broken at) h = unfold OfBytes in tt

operation_bytes : (format : BodyFormat) (opcode : ℕ) (body : List ℕ) → all is_byte body ≡ true → OfBytes (operation_of (format_of format) opcode body)
unfolding operation_of asked
operation_bytes Protobuf opcode body w =
    subst (λ (r : Reading). OfBytes (operation_in (asking_by opcode r))) (sym (placed (input_fields opcode) body (input_few opcode) (input_no_lists opcode)))
    (seen_bytes opcode body w (body_of (schema_placed (input_fields opcode)) body))
operation_bytes Tagged opcode body w =
    by_reading opcode (read_message tagged (input_fields opcode) body)
    (read_bytes tagged (input_fields opcode) body (λ at. tagged_bytes body w (input_fields opcode) at))

-- ---- the record of a request of bytes

module _ (list r : List ℕ) (w : well_formed_registry r ≡ true) (c : Counts) (request : List ℕ) (b : all is_byte request ≡ true) where
  abbrev q : Request
  q = request_of request

  asked_bytes : OfBytes (operation_of (format_of (format_for q.content_type)) q.opcode q.body)
  unfolding request_of
  asked_bytes = operation_bytes (format_for q.content_type) q.opcode q.body (all_within is_byte request (header_length request) (content_length request) b)

  OfAct : Option Act → Type 0
  OfAct None = Unit {0}
  OfAct (Some act) = NameBytes act

  asker_bytes : (o : Option Line) (x : Option Operation) → OfBytes x → OfAct (act_asked o x)
  unfolding act_asked act_of OfAct OfBytes NameBytes
  asker_bytes None x h = tt
  asker_bytes (Some line) None h = tt
  asker_bytes (Some line) (Some ping) h = tt
  asker_bytes (Some line) (Some list_providers) h = tt
  asker_bytes (Some line) (Some (list_opcodes provider)) h = tt
  asker_bytes (Some line) (Some (import_key key)) h = h
  asker_bytes (Some line) (Some (destroy_key name)) h = h
  asker_bytes (Some line) (Some (export_public_key name)) h = tt
  asker_bytes (Some line) (Some (verify_signature name hash signature)) h = tt

  late_bytes : all is_byte (record_for (served_act list r q)) ≡ true
  late_bytes = go (eqb (status_number (result_of list r q).status) 0) refl
    where
      by_act : (o : Option Act) → OfAct o → (after : List ℕ) → replay_any r o ≡ Some after → all is_byte (record_for o) ≡ true
      by_act None h after e = unfold record_for in refl
      by_act (Some act) h after e = unfold record_for in record_bytes_lem r after act (unfold OfAct in h) (unfold replay_any in e)

      go : (t : Bool) → eqb (status_number (result_of list r q).status) 0 ≡ t → all is_byte (record_for (served_act list r q)) ≡ true
      go false e = ap (λ (o : Option Act). all is_byte (record_for o)) (refused_unrecorded list r r same q e) ∙ (unfold record_for in refl)
        where
          same : Alike r r
          same = record { names = refl; slots = λ line u. refl }
      go true e =
          let same : Alike r r = record { names = refl; slots = λ line u. refl } in
          let is : served_act list r q ≡ act_asked (application_of r q) (operation_of (format_of (format_for q.content_type)) q.opcode q.body) = (unfold served_act in rw (e, served_act)) in
          by_act (served_act list r q) (subst OfAct (sym is) (asker_bytes (application_of r q) _ asked_bytes)) _ (served_replayed list r r same q e)

  pub reply_bytes : all is_byte (verdict_on (journalling list) r c request).response.recorded ≡ true
  unfolding verdict_on judge journalling recorded_for
  reply_bytes =
      either P (legal_start request) (λ _. either P (oversized request) (λ _. refl) (λ _. late_bytes)) (λ _. refl)
    where
      P : Verdict (List ℕ) Counts Handed → Type 0
      P v = all is_byte v.response.recorded ≡ true

-- ---- and of a stream of bytes

module _ (list : List ℕ) where
  replies_bytes : (requests : List (List ℕ)) (r : List ℕ) (c : Counts) → well_formed_registry r ≡ true → all is_byte (flatten requests) ≡ true
      → all is_byte (records_in (responses_from (journalling list) r c requests)) ≡ true
  unfolding responses_from records_in flatten
  replies_bytes [] r c w b = refl
  replies_bytes (request ∷ requests) r c w b =
      let v : Verdict (List ℕ) Counts Handed = verdict_on (journalling list) r c request in
      all_append is_byte v.response.recorded (records_in (responses_from (journalling list) v.registry v.counts requests))
      (reply_bytes list r w c request (all_first is_byte request (flatten requests) b))
      (replies_bytes requests v.registry v.counts (reply_good list r c request w) (all_last is_byte request (flatten requests) b))

  answered_bytes : (stream : List ℕ) → all is_byte stream ≡ true → all is_byte (flatten (parts_of stream).answered) ≡ true
  unfolding joined
  answered_bytes stream b =
      let p : Parts = parts_of stream in
      all_first is_byte (flatten p.answered) (p.held ++ p.dropped) (ap (all is_byte) (sym (parts_joined stream)) ∙ b)

  pub journal_bytes : (registry stream : List ℕ) → well_formed_registry registry ≡ true → all is_byte stream ≡ true
      → all is_byte (journal_of list registry stream) ≡ true
  unfolding journal_of responses_to
  journal_bytes registry stream w b =
      ap (λ (replies : List Handed). all is_byte (records_in replies)) (rules_from_stream (journalling list) registry stream).responses
      ∙ replies_bytes (parts_of stream).answered registry (journalling list).no_counts w (answered_bytes stream b)
