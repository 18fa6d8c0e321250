-- Two histories, computed: application "b" imports a key, in two chunks, exports it, and exports one that we ship. In the second,
-- application "a" imports and exports a key of the same name on another connection between the two chunks and after them, somebody
-- asks under b's name with auth type 2, and a connection that closed is not read though b's name stands in what it is sent.
use Rattle.std.proofs.Common.{is_some, option_and_then}
use mathlib.Core.Path.{◌≡◌, refl}
use Prim.Native.Nat.{ℕ}
use mathlib.Core.List.{List, [], ◌∷◌, ◌++◌, flat_map, flatten}
use lib.ListN.{length, take, drop, get_or, replicate}
use Rattle.wire.specs.Choice.{first_of}
use Rattle.wire.specs.Lists.{one_of}
use Rattle.wire.specs.Numbers.{little_endian, little_endian_of, field}
use Rattle.wire.specs.Scan.{scan_from, scan_at}
use Rattle.wire.specs.Request.{request_of}
use Rattle.wire.specs.Response.{response_header, response_bytes, buffer_least}
use Rattle.protobuf.specs.Varint.{varint_of}
use Rattle.protobuf.specs.Field.{number_at, fixed_at, span_at, content_at, field_at}
use Rattle.protobuf.specs.Group.{group_at}
use Rattle.fields.specs.code.Fields.{with_value}
use Rattle.protobuf.specs.code.Message.{item_of, step_at}
use Rattle.protobuf.specs.Written.{varint_within, varint, number_field, bytes_field, packed_field}
use Rattle.keys.specs.Names.{legal_name}
use Rattle.keys.specs.Key.{legal_data, legal_bits, import_bits}
use Rattle.messages.specs.Opcodes.{opcodes_of}
use Rattle.messages.specs.Format.{listed, message_bytes, read_message}
use Rattle.messages.specs.Protobuf.{packed_of}
use Rattle.messages.specs.Operations.{read_body, input_fields, asking_of, asked, operation_of, output_bytes}
use Rattle.messages.specs.Formats.{format_for, content_type_of}
use Rattle.registry.specs.Names.{index_from, distinct}
use Rattle.registry.specs.Slots.{key_bytes, slot_bytes, slot_of, used, used_slot, well_formed_slot}
use Rattle.registry.specs.Registry.{application_named, slots_of, uses_of, slot_named, changed, line_of, registry_of}
use Rattle.registry.specs.WellFormed.{used_first, well_formed_registry}
use Rattle.registry.specs.declared.Line.{Line}
use Rattle.records.specs.Records.{is_whole, record_turn, read_records}
use Rattle.shipped.specs.Shipped.{pair_step, pairs_done, list_of, well_formed_list, keys_in, listed_named}
use Rattle.lookup.specs.Lookup.{shipped_key, key_of, own_in, listed_in, key_named}
use Rattle.reading.specs.Call.{call_rule}
use Rattle.reading.specs.Calls.{call_on}
use Rattle.reading.specs.Buffer.{written, bytes_of}
use Rattle.stream.specs.Handed.{give}
use Rattle.stream.specs.Frame.{legal_start, oversized, next}
use Rattle.stream.specs.Rules.{judge}
use Rattle.stream.specs.Call.{is_beginning, well_formed, keep, respond, drop_byte, open_rule, skip_rule, byte_rule}
use Rattle.connection.specs.Connection.{connection_bytes, connection_of, well_formed_connection}
use Rattle.judgement.specs.Status.{status_number}
use Rattle.judgement.specs.Operations.{success, refuse, within_bounds, place_key, import_by, perform_import, counted, export_of, perform_export, perform, refuse_at, operated}
use Rattle.judgement.specs.Counts.{no_counts, increment, index_of, count_refused, count_served, count}
use Rattle.judgement.specs.Judgement.{application_of, refusals, askers_slots, result_of, changed_by, verdict_of, refused_early, judgement}
use Rattle.counters.specs.Counters.{totals_of, counters_of, zero_counters, maximum, largest_count, largest_counter}
use Rattle.journal.specs.Journalling.{recorded_for, journalling}
use Rattle.service.specs.Call.{state_in, memory_of, journal_least, layout, refusal_tests, refusal_of, call_outcome}
use Rattle.isolation.specs.History.{with, fresh_with, CallOn, history_of, exchanges_from, exchanges, requests, responses, is_by, those, own}
use Rattle.isolation.specs.Isolated.{served_for}

-- a request of the keystore with session 0, and a response with status 0
request : (auth_type opcode : ℕ) (body auth : List ℕ) → List ℕ
request auth_type opcode body auth =
    (0x10 ∷ 0xA7 ∷ 0xC0 ∷ 0x5E ∷ 0x16 ∷ 0 ∷ 1 ∷ 0 ∷ 1 ∷ 0 ∷ 0 ∷ 0 ∷ 0 ∷ 0 ∷ 0 ∷ 0 ∷ 0 ∷ 1 ∷ 1 ∷ auth_type
    ∷ length body ∷ 0 ∷ 0 ∷ 0 ∷ length auth ∷ 0 ∷ opcode ∷ 0 ∷ []) ++ (body ++ auth)

response : (opcode : ℕ) (body : List ℕ) → List ℕ
response opcode body =
    (0x10 ∷ 0xA7 ∷ 0xC0 ∷ 0x5E ∷ 0x14 ∷ 0 ∷ 1 ∷ 0 ∷ 1 ∷ 0 ∷ 0 ∷ 0 ∷ 0 ∷ 0 ∷ 0 ∷ 0 ∷ 0 ∷ 1
    ∷ length body ∷ 0 ∷ 0 ∷ 0 ∷ opcode ∷ 0 ∷ 0 ∷ 0 ∷ []) ++ body

-- a key under the name "k" with two bytes of data, 2,048 bits, export allowed
imports : (application a b : ℕ) → List ℕ
imports application a b = request 1 6 (0x0A ∷ 0x01 ∷ 0x6B ∷ 0x12 ∷ 0x02 ∷ a ∷ b ∷ 0x18 ∷ 0x80 ∷ 0x10 ∷ 0x20 ∷ 0x01 ∷ []) (application ∷ [])

exports : (auth_type application name : ℕ) → List ℕ
exports auth_type application name = request auth_type 7 (0x0A ∷ 0x01 ∷ name ∷ []) (application ∷ [])

-- "s" with data EE
shipped : List ℕ
shipped = 1 ∷ 1 ∷ 0 ∷ 0x73 ∷ 2 ∷ 1 ∷ 0 ∷ 0xEE ∷ []

on : (connection : ℕ) (chunk : List ℕ) → CallOn
on connection chunk = record { connection = connection; call = record { chunk = chunk; lent = record { response = replicate buffer_least 0; journal = replicate journal_least 0 } } }

alone : List CallOn
alone =
    on 0 (take 30 (imports 0x62 0xAA 0xBB)) ∷ on 0 (drop 30 (imports 0x62 0xAA 0xBB)) ∷ on 0 (exports 1 0x62 0x6B)
    ∷ on 0 (exports 1 0x62 0x73) ∷ []

among : List CallOn
among =
    on 0 (take 30 (imports 0x62 0xAA 0xBB)) ∷ on 1 (imports 0x61 0xCC 0xDD) ∷ on 0 (drop 30 (imports 0x62 0xAA 0xBB))
    ∷ on 2 (replicate 6 0) ∷ on 2 (imports 0x62 0 0) ∷ on 5 (exports 1 0x62 0x6B) ∷ on 1 (exports 1 0x61 0x6B)
    ∷ on 3 (exports 2 0x62 0x6B) ∷ on 1 (exports 1 0x62 0x73) ∷ []

record Shown : Type 0 where
  answers : ℕ  -- to whomever
  asked : List (List ℕ)
  answered : List (List ℕ)
  uses : ℕ  -- of the key in its first slot
  served : ℕ

-- what application "b" gets
showing : List CallOn → Shown
unfolding first_of one_of little_endian little_endian_of field scan_from scan_at request_of response_header response_bytes varint_of number_at fixed_at span_at content_at field_at group_at with_value item_of step_at varint_within varint number_field bytes_field packed_field flat_map flatten legal_name legal_data legal_bits import_bits opcodes_of listed message_bytes read_message packed_of read_body input_fields asking_of asked operation_of format_for content_type_of output_bytes index_from distinct key_bytes slot_bytes slot_of used used_slot well_formed_slot application_named slots_of uses_of slot_named changed line_of registry_of used_first well_formed_registry is_whole record_turn read_records pair_step pairs_done list_of well_formed_list keys_in listed_named shipped_key key_of own_in listed_in key_named legal_start oversized next judge is_beginning well_formed keep respond drop_byte open_rule skip_rule byte_rule call_rule call_on written bytes_of connection_bytes connection_of well_formed_connection status_number success refuse within_bounds place_key import_by perform_import counted export_of perform_export perform refuse_at operated no_counts increment index_of count_refused count_served count application_of refusals askers_slots result_of changed_by verdict_of refused_early judgement totals_of counters_of zero_counters maximum largest_count largest_counter state_in memory_of give recorded_for journalling layout refusal_tests refusal_of call_outcome with history_of exchanges_from exchanges is_by those
showing calls =
    let o = history_of shipped (fresh_with (registry_of ((0x61 ∷ []) ∷ (0x62 ∷ []) ∷ [])) zero_counters) calls in
    let xs = exchanges calls o.answers in
    let line : Line = record { 0 = 1 } in
    record {
      answers = length xs;
      asked = requests (own (0x62 ∷ []) xs);
      answered = responses (own (0x62 ∷ []) xs);
      uses = get_or (uses_of o.host.registry line) 0 0;
      served = served_for o.host.counters line;
    }

of_b : (answers : ℕ) → Shown
of_b answers = record {
  answers = answers;
  asked = imports 0x62 0xAA 0xBB ∷ exports 1 0x62 0x6B ∷ exports 1 0x62 0x73 ∷ [];
  answered = response 6 [] ∷ response 7 (0x0A ∷ 0x02 ∷ 0xAA ∷ 0xBB ∷ []) ∷ response 7 (0x0A ∷ 0x01 ∷ 0xEE ∷ []) ∷ [];
  uses = 1;
  served = 3;
}

shown : (showing alone ≡ of_b 3) × (showing among ≡ of_b 7)
unfolding showing alone among on imports exports request response shipped of_b
shown = (refl, refl)
