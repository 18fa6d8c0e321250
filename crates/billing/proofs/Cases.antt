-- A case of a table computed from the rules on a whole stream, and the cases' parts.
use Rattle.std.proofs.Common.{Some, is_some, option_and_then}
use mathlib.Core.Path.{◌≡◌}
use Prim.Native.Nat.{ℕ, ◌+◌, ◌-◌}
use mathlib.Core.Bool.{true, false}
use mathlib.Core.List.{List, [], ◌∷◌, ◌++◌, flat_map, flatten}
use lib.ListN.{length, replicate}
use Rattle.wire.specs.Choice.{first_of}
use Rattle.wire.specs.Lists.{one_of}
use Rattle.wire.specs.Numbers.{little_endian, little_endian_of, field}
use Rattle.wire.specs.Scan.{scan_from, scan_at}
use Rattle.wire.specs.Request.{request_of}
use Rattle.wire.specs.Response.{response_header, response_bytes}
use Rattle.protobuf.specs.Varint.{varint_of}
use Rattle.protobuf.specs.Field.{number_at, fixed_at, span_at, content_at, field_at}
use Rattle.protobuf.specs.Group.{group_at}
use Rattle.fields.specs.code.Fields.{with_value}
use Rattle.protobuf.specs.code.Message.{item_of, step_at}
use Rattle.protobuf.specs.Written.{varint_within, varint, number_field, bytes_field, packed_field}
use Rattle.keys.specs.Names.{legal_name}
use Rattle.registry.specs.Names.{index_from}
use Rattle.keys.specs.Key.{legal_data, legal_bits, import_bits}
use Rattle.registry.specs.Slots.{Entry, free, held, key_bytes, slot_bytes, slot_of, used, used_slot}
use Rattle.registry.specs.Registry.{slot_count, application_named, slots_of, uses_of, slot_named, changed, line_of, registry_of}
use Rattle.records.specs.Records.{is_whole, record_turn, read_records}
use Rattle.shipped.specs.Shipped.{pair_step, pairs_done, list_of, well_formed_list, keys_in, listed_named}
use Rattle.lookup.specs.Lookup.{shipped_key, key_of, own_in, listed_in, key_named}
use Rattle.roster.specs.Roster.{fault_number, record_faults, record_step, roster_of}
use Rattle.stream.specs.Frame.{legal_start, oversized, next}
use Rattle.stream.specs.Rules.{held_bytes, answer, finish, judge, rules_within, rules_from, start, rules}
use Rattle.judgement.specs.Status.{status_number}
use Rattle.messages.specs.Opcodes.{opcodes_of}
use Rattle.messages.specs.Format.{listed, message_bytes, read_message}
use Rattle.messages.specs.Protobuf.{packed_of}
use Rattle.messages.specs.Operations.{read_body, input_fields, asking_of, asked, operation_of, output_bytes}
use Rattle.judgement.specs.Operations.{success, refuse, within_bounds, place_key, import_by, perform_import, destroy_of, perform_destroy, counted, export_of, perform_export, perform_list_opcodes, perform, refuse_at, operated}
use Rattle.judgement.specs.Counts.{no_counts, increment, index_of, count_refused, count_served, count}
use Rattle.messages.specs.Formats.{format_for, content_type_of}
use Rattle.judgement.specs.Judgement.{application_of, refusals, askers_slots, result_of, changed_by, verdict_of, refused_early, oversized_status, judgement}
use Rattle.billing.specs.Ascii.{ascii}
use Rattle.billing.specs.Bill.{digits_before, decimal, text_line, application_lines, key_line, slot_lines, key_lines, refused_lines, bill_of, refused_roster, bill_for, is_list_refused, bill}
use Rattle.billing.specs.Claims.{Shown, Case, shown_by, start_of, shown_for}

-- all that a case computes with
unfoldable pub showing : (roster stream list : List ℕ) → Shown
unfolding roster_of read_records record_turn is_whole record_step record_faults first_of legal_name field little_endian registry_of line_of flatten rules rules_from rules_within start answer finish judge next legal_start oversized judgement no_counts request_of result_of refusals one_of opcodes_of application_of application_named index_from refuse_at operated input_fields asking_of asked operation_of format_for content_type_of read_body scan_at scan_from step_at item_of field_at content_at number_at span_at fixed_at group_at varint_of with_value perform within_bounds place_key import_by perform_import perform_destroy destroy_of perform_export counted export_of key_named own_in listed_in key_of shipped_key keys_in list_of pair_step pairs_done listed_named perform_list_opcodes success refuse number_field bytes_field packed_field flat_map varint varint_within import_bits legal_data legal_bits slot_named key_bytes slot_bytes used used_slot askers_slots verdict_of refused_early oversized_status response_bytes response_header little_endian_of status_number changed_by changed count count_served count_refused increment index_of slots_of uses_of slot_of bill_of text_line decimal digits_before application_lines key_line slot_lines key_lines refused_lines held_bytes ascii shown_by start_of bill bill_for is_list_refused well_formed_list refused_roster fault_number listed message_bytes read_message packed_of output_bytes
showing roster stream list = shown_by (rules (judgement list) (start_of (roster_of roster)) stream) (bill (Some roster) (Some stream) (Some list))

-- a case holds if it is computed so
pub holds : (c : Case) → showing c.roster c.stream c.list ≡ c.shown → shown_for c.roster c.stream c.list ≡ c.shown
unfolding showing shown_for
holds c e = e

-- ---- the cases' parts

-- these keys in the first slots, and the other slots free
unfoldable pub holding : (keys : List Entry) → List Entry
holding keys = keys ++ replicate (slot_count - length keys) free

unfoldable pub case_of : (roster stream : List ℕ) (responses : List (List ℕ)) (keys : List Entry) (bill : List ℕ) → Case
case_of roster stream responses keys bill =
    record { roster = roster; stream = stream; list = []; shown = record { responses = responses; slots = holding keys; bill = bill } }

-- the same with a list of keys that we ship
unfoldable pub with_list_lem : (list : List ℕ) → Case → Case
with_list_lem list c = record { roster = c.roster; stream = c.stream; list = list; shown = c.shown }

-- a request with session 0; `more` are the bytes past the 22nd of its header
unfoldable pub long_request : (more : List ℕ) (major provider opcode auth_type : ℕ) (body auth : List ℕ) → List ℕ
long_request more major provider opcode auth_type body auth =
    (0x10 ∷ 0xA7 ∷ 0xC0 ∷ 0x5E ∷ (0x16 + length more) ∷ 0 ∷ major ∷ 0 ∷ provider ∷ 0 ∷ 0 ∷ 0 ∷ 0 ∷ 0 ∷ 0 ∷ 0 ∷ 0 ∷ 1 ∷ 1 ∷ auth_type
    ∷ length body ∷ 0 ∷ 0 ∷ 0 ∷ length auth ∷ 0 ∷ opcode ∷ 0 ∷ []) ++ (more ++ (body ++ auth))

unfoldable pub request : (major provider opcode auth_type : ℕ) (body auth : List ℕ) → List ℕ
request major provider opcode auth_type body auth = long_request [] major provider opcode auth_type body auth

-- the response to one, its status in two bytes
unfoldable pub response : (provider opcode low high : ℕ) (body : List ℕ) → List ℕ
response provider opcode low high body =
    (0x10 ∷ 0xA7 ∷ 0xC0 ∷ 0x5E ∷ 0x14 ∷ 0 ∷ 1 ∷ 0 ∷ provider ∷ 0 ∷ 0 ∷ 0 ∷ 0 ∷ 0 ∷ 0 ∷ 0 ∷ 0 ∷ 1
    ∷ length body ∷ 0 ∷ 0 ∷ 0 ∷ opcode ∷ 0 ∷ low ∷ high ∷ []) ++ body

-- a key under a one-byte name with data AA BB, 2,048 bits, export allowed; and the body that imports it
unfoldable pub key : (name : ℕ) → Entry
key name = held (record { name = name ∷ []; bytes = 0xAA ∷ 0xBB ∷ []; bits = 2048; export_allowed = true; verify_allowed = false })

unfoldable pub key_body : (name : ℕ) → List ℕ
key_body name = 0x0A ∷ 0x01 ∷ name ∷ 0x12 ∷ 0x02 ∷ 0xAA ∷ 0xBB ∷ 0x18 ∷ 0x80 ∷ 0x10 ∷ 0x20 ∷ 0x01 ∷ []

unfoldable pub name_body : (name : ℕ) → List ℕ
name_body name = 0x0A ∷ 0x01 ∷ name ∷ []

unfoldable pub imported : List ℕ
imported = response 1 6 0 0 []
