-- A stream, computed: application "a" imports the keys "k" and "m", exports "k" twice and "m" once, and the key "s" that we ship;
-- a verify with "k", which isn't allowed, is refused, and so is an export of "k" by application "b". Three uses count.
use Rattle.std.proofs.Common.{is_some, option_and_then}
use mathlib.Core.Path.{◌≡◌, refl}
use Prim.Native.Nat.{ℕ, ◌-◌}
use mathlib.Core.List.{List, [], ◌∷◌, ◌++◌, flat_map, flatten}
use lib.ListN.{length, replicate}
use Rattle.wire.specs.Choice.{first_of}
use Rattle.wire.specs.Lists.{one_of}
use Rattle.wire.specs.Numbers.{little_endian, little_endian_of, field}
use Rattle.wire.specs.Scan.{scan_from, scan_at}
use Rattle.wire.specs.Request.{request_of}
use Rattle.wire.specs.Response.{response_header, response_bytes}
use Rattle.protobuf.specs.Varint.{varint_of}
use Rattle.protobuf.specs.Field.{number_at, fixed_at, span_at, content_at, field_at}
use Rattle.protobuf.specs.Group.{group_at}
use Rattle.fields.specs.code.Fields.{with_value}
use Rattle.protobuf.specs.code.Message.{item_of, step_at}
use Rattle.protobuf.specs.Written.{varint_within, varint, number_field, bytes_field, packed_field}
use Rattle.keys.specs.Names.{legal_name}
use Rattle.keys.specs.Key.{legal_data, legal_bits, import_bits}
use Rattle.messages.specs.Opcodes.{opcodes_of}
use Rattle.messages.specs.Format.{listed, message_bytes, read_message}
use Rattle.messages.specs.Protobuf.{packed_of}
use Rattle.messages.specs.Operations.{read_body, input_fields, asking_of, asked as asking, operation_of, output_bytes}
use Rattle.messages.specs.Formats.{format_for, content_type_of}
use Rattle.registry.specs.Names.{index_from}
use Rattle.registry.specs.Slots.{key_bytes, slot_bytes, slot_of, used, used_slot}
use Rattle.registry.specs.Registry.{slot_count, application_named, slots_of, uses_of, slot_named, changed, line_of, registry_of}
use Rattle.registry.specs.declared.Line.{Line}
use Rattle.records.specs.Records.{is_whole, record_turn, read_records}
use Rattle.shipped.specs.Shipped.{pair_step, pairs_done, list_of, keys_in, listed_named}
use Rattle.lookup.specs.Lookup.{shipped_key, key_of, own_in, listed_in, key_named}
use Rattle.stream.specs.Frame.{legal_start, oversized, next}
use Rattle.stream.specs.Rules.{answer, finish, judge, rules_within, rules_from, start, rules}
use Rattle.stream.specs.Parts.{and_before, held_parts, parts_within, parts_of, verdict_on}
use Rattle.judgement.specs.Status.{status_number}
use Rattle.judgement.specs.Operations.{success, refuse, within_bounds, place_key, import_by, perform_import, counted, export_of, perform_export, verify_with, perform_verify, perform, refuse_at, operated}
use Rattle.judgement.specs.Counts.{no_counts, increment, index_of, count_refused, count_served, count}
use Rattle.judgement.specs.Judgement.{application_of, refusals, askers_slots, result_of, changed_by, verdict_of, judgement}
use Rattle.uses.specs.Uses.{asked, key_used, key_destroyed, is_for, is_served, is_own, is_use, destroys_key, registry_after, count_if}

-- a request of the keystore with session 0
request : (opcode : ℕ) (body auth : List ℕ) → List ℕ
request opcode body auth =
    (0x10 ∷ 0xA7 ∷ 0xC0 ∷ 0x5E ∷ 0x16 ∷ 0 ∷ 1 ∷ 0 ∷ 1 ∷ 0 ∷ 0 ∷ 0 ∷ 0 ∷ 0 ∷ 0 ∷ 0 ∷ 0 ∷ 1 ∷ 1 ∷ 1
    ∷ length body ∷ 0 ∷ 0 ∷ 0 ∷ length auth ∷ 0 ∷ opcode ∷ 0 ∷ []) ++ (body ++ auth)

-- data AA BB, 2,048 bits, export allowed
imports : (name : ℕ) → List ℕ
imports name = request 6 (0x0A ∷ 0x01 ∷ name ∷ 0x12 ∷ 0x02 ∷ 0xAA ∷ 0xBB ∷ 0x18 ∷ 0x80 ∷ 0x10 ∷ 0x20 ∷ 0x01 ∷ []) (0x61 ∷ [])

exports : (application name : ℕ) → List ℕ
exports application name = request 7 (0x0A ∷ 0x01 ∷ name ∷ []) (application ∷ [])

verifies : (name : ℕ) → List ℕ
verifies name = request 5 (0x0A ∷ 0x01 ∷ name ∷ []) (0x61 ∷ [])

requests : List (List ℕ)
requests =
    imports 0x6B ∷ imports 0x6D ∷ exports 0x61 0x6B ∷ exports 0x61 0x6D ∷ exports 0x61 0x73 ∷ verifies 0x6B ∷ exports 0x62 0x6B
    ∷ exports 0x61 0x6B ∷ []

-- "s" with data CC
shipped : List ℕ
shipped = 1 ∷ 1 ∷ 0 ∷ 0x73 ∷ 2 ∷ 1 ∷ 0 ∷ 0xCC ∷ []

record Shown : Type 0 where
  counts : List ℕ  -- of each slot of "a"
  uses : ℕ
  destroyed : ℕ

showing : Shown
unfolding first_of one_of little_endian little_endian_of field scan_from scan_at request_of response_header response_bytes varint_of number_at fixed_at span_at content_at field_at group_at with_value item_of step_at varint_within varint number_field bytes_field packed_field flat_map flatten legal_name legal_data legal_bits import_bits opcodes_of listed message_bytes read_message packed_of read_body input_fields asking_of asking operation_of format_for content_type_of output_bytes index_from key_bytes slot_bytes slot_of used used_slot application_named slots_of uses_of slot_named changed line_of registry_of is_whole record_turn read_records pair_step pairs_done list_of keys_in listed_named shipped_key key_of own_in listed_in key_named legal_start oversized next answer finish judge rules_within rules_from start rules and_before held_parts parts_within parts_of verdict_on status_number success refuse within_bounds place_key import_by perform_import counted export_of perform_export verify_with perform_verify perform refuse_at operated no_counts increment index_of count_refused count_served count application_of refusals askers_slots result_of changed_by verdict_of judgement asked key_used key_destroyed is_for is_served is_own is_use destroys_key registry_after count_if
showing =
    let registry = registry_of ((0x61 ∷ []) ∷ (0x62 ∷ []) ∷ []) in
    let line : Line = record { 0 = 0 } in
    let stream = flatten requests in
    let answered = (parts_of stream).answered in
    record {
      counts = uses_of (rules (judgement shipped) registry stream).state.registry line;
      uses = count_if (is_use shipped line) shipped registry answered;
      destroyed = count_if (destroys_key shipped line) shipped registry answered;
    }

shown : showing ≡ record { counts = 2 ∷ 1 ∷ replicate (slot_count - 2) 0; uses = 3; destroyed = 0 }
unfolding showing requests imports exports verifies request shipped
shown = refl
