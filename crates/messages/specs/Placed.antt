-- An operation or an output told by its places in the bytes that it was read from, and a list taken apart.
use Rattle.std.specs.Prelude.{ℕ, ◌+◌, ◌%◌, ◌^◌, ◌≤◌, List, [], ◌∷◌, ◌++◌, length, take, drop, Option, Some, None, Result, Ok, Err}
use Rattle.wire.specs.Scan.{Turn, on, out, scan_at}
use Rattle.wire.specs.Lists.{over}
use Rattle.protobuf.specs.Varint.{varint_at}
use Rattle.messages.specs.Operations.{Operation, ping, list_providers, list_opcodes, import_key, destroy_key, export_public_key, verify_signature, Asking, asks, garbled, Output, nothing, version, providers, opcodes, exported, offset}
use Rattle.keys.specs.Key.{Key}
use Rattle.messages.specs.Tagged.{fours}
use Rattle.messages.specs.declared.format.BodyFormat.{BodyFormat}
use Rattle.messages.specs.declared.format.BodyFormat.TheVariants.{Protobuf, Tagged}
use Rattle.wire.specs.declared.span.Span.{Span}
use Rattle.messages.specs.declared.ask.KeyPlaces.{KeyPlaces}
use Rattle.messages.specs.declared.ask.Asked.{Asked}
use Rattle.messages.specs.declared.ask.Asked.TheVariants.{Ping, ListProviders, ListOpcodes, ImportKey, DestroyKey, ExportPublicKey, VerifySignature}
use Rattle.messages.specs.declared.read.Output.{Output as OutputPlaces}
use Rattle.messages.specs.declared.read.Output.TheVariants.{Nothing, Version, Providers, Opcodes, Data, Offset}

-- ---- a list taken apart, as far as it can be read

abbrev pub entry_turn : List ℕ → Option (ℕ × ℕ) → Turn (List ℕ) (List ℕ)
entry_turn ns (Some (v, next)) = on (ns ++ (v % 2 ^ 32 ∷ [])) next
entry_turn ns None = out ns

-- of a packed one the entries up to the first that is no varint
unfoldable pub first_entries : (packed : List ℕ) → List ℕ
first_entries packed = scan_at (λ at ns. entry_turn ns (varint_at packed at)) (λ ns. ns) (length packed) 0 []

abbrev pub entries_of : BodyFormat → List ℕ → List ℕ
entries_of Protobuf list = first_entries list
entries_of Tagged list = fours list

pub record ListOutcome : Type 0 where
  pub count : ℕ
  pub entries : List ℕ

-- as many of them as there is room for, over the front of the room
unfoldable pub read_list_outcome : BodyFormat → (list room : List ℕ) → ListOutcome
read_list_outcome format list room =
    let written = take (length room) (entries_of format list) in
    record { count = length written; entries = over written room }

-- ---- places

abbrev pub span_in : (bytes : List ℕ) → Span → List ℕ
span_in bytes span = take span.len (drop span.start bytes)

abbrev pub key_in : (bytes : List ℕ) → KeyPlaces → Key
key_in bytes key = record {
  name = span_in bytes key.name;
  bytes = span_in bytes key.bytes;
  bits = key.bits;
  export_allowed = key.exported;
  verify_allowed = key.verified;
}

abbrev pub operation_at : (bytes : List ℕ) → Asked → Operation
operation_at bytes Ping = ping
operation_at bytes ListProviders = list_providers
operation_at bytes (ListOpcodes provider) = list_opcodes provider
operation_at bytes (ImportKey key) = import_key (key_in bytes key)
operation_at bytes (DestroyKey name) = destroy_key (span_in bytes name)
operation_at bytes (ExportPublicKey name) = export_public_key (span_in bytes name)
operation_at bytes (VerifySignature name hash signature) = verify_signature (span_in bytes name) (span_in bytes hash) (span_in bytes signature)

abbrev pub asking_in : (bytes : List ℕ) → Result Asked ℕ → Asking
asking_in bytes (Ok asked) = asks (operation_at bytes asked)
asking_in bytes (Err at) = garbled at

-- the entries of the list that lies there, as `read_list` takes it apart
abbrev pub list_in : BodyFormat → (bytes : List ℕ) → Span → List ℕ
list_in format bytes span = entries_of format (span_in bytes span)

abbrev pub output_in : BodyFormat → (bytes : List ℕ) → OutputPlaces → Output
output_in format bytes Nothing = nothing
output_in format bytes (Version major minor) = version major minor
output_in format bytes (Providers span) = providers (list_in format bytes span)
output_in format bytes (Opcodes span) = opcodes (list_in format bytes span)
output_in format bytes (Data span) = exported (span_in bytes span)
output_in format bytes (Offset at) = offset at

abbrev pub read_in : BodyFormat → (bytes : List ℕ) → Option OutputPlaces → Option Output
read_in format bytes (Some output) = Some (output_in format bytes output)
read_in format bytes None = None

-- ---- they lie within so many bytes

abbrev pub SpanWithin : (most : ℕ) → Span → Type 0
SpanWithin most span = span.start + span.len ≤ most

abbrev pub OperationWithin : (most : ℕ) → Asked → Type 0
OperationWithin most Ping = Unit {0}
OperationWithin most ListProviders = Unit {0}
OperationWithin most (ListOpcodes provider) = Unit {0}
OperationWithin most (ImportKey key) = SpanWithin most key.name × SpanWithin most key.bytes
OperationWithin most (DestroyKey name) = SpanWithin most name
OperationWithin most (ExportPublicKey name) = SpanWithin most name
OperationWithin most (VerifySignature name hash signature) = SpanWithin most name × SpanWithin most hash × SpanWithin most signature

abbrev pub AskedWithin : (most : ℕ) → Result Asked ℕ → Type 0
AskedWithin most (Ok asked) = OperationWithin most asked
AskedWithin most (Err at) = at ≤ most

abbrev pub OutputWithin : (most : ℕ) → OutputPlaces → Type 0
OutputWithin most Nothing = Unit {0}
OutputWithin most (Version major minor) = Unit {0}
OutputWithin most (Providers span) = SpanWithin most span
OutputWithin most (Opcodes span) = SpanWithin most span
OutputWithin most (Data span) = SpanWithin most span
OutputWithin most (Offset at) = Unit {0}

abbrev pub ReadWithin : (most : ℕ) → Option OutputPlaces → Type 0
ReadWithin most (Some output) = OutputWithin most output
ReadWithin most None = Unit {0}
