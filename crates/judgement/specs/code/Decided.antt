-- What the code decides of a request, in the reading copy's terms.
use Rattle.std.specs.Prelude.{ℕ, ◌+◌, ◌≤◌, ◌<◌, ◌≡◌, Bool, false, List, [], ◌∷◌, length, get_or, take, ltb, eqb, Option, Some, None, Result as Tested, Ok, Err}
use Rattle.wire.specs.Choice.{when◌then◌else◌}
use Rattle.wire.specs.Request.{Request}
use Rattle.wire.specs.declared.header.Header.{Header}
use Rattle.keys.specs.Key.{Key, data_most, bits_most}
use Rattle.keys.specs.Names.{key_name_most}
use Rattle.messages.specs.Format.{Format}
use Rattle.messages.specs.Operations as message
use Rattle.messages.specs.Placed.{SpanWithin, key_in}
use Rattle.messages.specs.declared.ask.KeyPlaces.{KeyPlaces}
use Rattle.registry.specs.Slots.{Entry, free}
use Rattle.registry.specs.Registry.{line_count, slot_count, Change, unchanged, fill, clear, add_use}
use Rattle.registry.specs.code.Check.{key_from, bytes_in}
use Rattle.registry.specs.declared.Line.{Line}
use Rattle.shipped.specs.Shipped.{ListedKey, keys_in}
use Rattle.shipped.specs.code.Pairs.{part_at}
use Rattle.lookup.specs.code.Places.{Within as PlaceWithin}
use Rattle.lookup.specs.declared.Place.{Place}
use Rattle.lookup.specs.declared.Place.TheVariants.{Own, Listed, Nothing as Nowhere}
use Rattle.messages.specs.Opcodes.{opcodes_of}
use Rattle.judgement.specs.Status.{status_number}
use Rattle.judgement.specs.Operations.{Result}
use Rattle.judgement.specs.Judgement.{refusals}
use Rattle.judgement.specs.declared.Status.{Status}
use Rattle.judgement.specs.declared.Status.TheVariants.{DeserializingBodyFailed, AuthenticationError}
use Rattle.judgement.specs.declared.Output.{Output}
use Rattle.judgement.specs.declared.Output.TheVariants.{Nothing, Version, Providers, Opcodes, Data, Offset}
use Rattle.judgement.specs.declared.Edit.{Edit}
use Rattle.judgement.specs.declared.Edit.TheVariants.{Stays, Fills, Clears, Uses}
use Rattle.judgement.specs.declared.Decision.{Decision}

-- ---- the order's tests of the header alone, and of the auth bytes

-- a request of this header, with no body and no auth bytes
abbrev pub bare_request : Header → Request
bare_request h = record {
  major = h.major;
  minor = h.minor;
  provider = h.provider;
  session = h.session;
  content_type = h.content_type;
  accept_type = h.accept_type;
  auth_type = h.auth_type;
  opcode = h.opcode;
  body = [];
  auth = [];
}

-- so many of the order's tests, the first, look at the header alone
abbrev pub header_test_count : ℕ
header_test_count = 7

unfoldable pub header_tests : Header → List (Bool × Status)
header_tests h = take header_test_count (refusals [] (bare_request h))

unfoldable pub checked_of : Option Status → Tested (Unit {0}) Status
checked_of None = Ok tt
checked_of (Some status) = Err status

unfoldable pub named_or : Option Line → Tested (Option Line) Status
named_or None = Err AuthenticationError
named_or (Some line) = Ok (Some line)

-- by the application that the auth bytes name
unfoldable pub auth_of : (auth_type : ℕ) (auth : List ℕ) → Option Line → Tested (Option Line) Status
auth_of auth_type auth named =
    when eqb auth_type 0 then (when ltb 0 (length auth) then Err AuthenticationError else Ok None) else named_or named

-- a line that there is
abbrev pub AskerBelow : Option Line → Type 0
AskerBelow None = Unit {0}
AskerBelow (Some line) = line.0 < line_count

-- ---- what an operation comes to

-- a key's data where it lies: in one of the slots, or in the list
unfoldable pub bytes_at : (slots : List Entry) (list : List ℕ) → Place → List ℕ
bytes_at slots list (Own slot) = bytes_in (get_or slots slot.0 free)
bytes_at slots list (Listed span) = part_at list span
bytes_at slots list Nowhere = []

unfoldable pub output_in : (slots : List Entry) (list : List ℕ) → Output → message.Output
output_in slots list Nothing = message.nothing
output_in slots list Version = message.version 1 0
output_in slots list Providers = message.providers (0 ∷ 1 ∷ [])
output_in slots list (Opcodes provider) = message.opcodes (opcodes_of provider)
output_in slots list (Data place) = message.exported (bytes_at slots list place)
output_in slots list (Offset at) = message.offset at

-- the body of its response
abbrev pub output_bytes : Format → (slots : List Entry) (list : List ℕ) → Output → List ℕ
output_bytes format slots list output = message.output_bytes format (output_in slots list output)

unfoldable pub change_of : (body : List ℕ) → Edit → Change
change_of body Stays = unchanged
change_of body (Fills slot key) = fill slot (key_in body key)
change_of body (Clears slot) = clear slot
change_of body (Uses slot) = add_use slot

unfoldable pub result_in : (slots : List Entry) (list body : List ℕ) → Decision → Result
result_in slots list body d = record { status = d.status; output = output_in slots list d.output; change = change_of body d.edit }

abbrev pub refused_with : Status → Decision
refused_with status = record { status = status; output = Nothing; edit = Stays }

abbrev pub broken_at : (at : ℕ) → Decision
broken_at at = record { status = DeserializingBodyFailed; output = Offset at; edit = Stays }

-- a decision on the key at a place, its use counted
unfoldable pub counted_at : Place → Decision → Decision
counted_at (Own slot) d =
    when eqb (status_number d.status) 0 then record { status = d.status; output = d.output; edit = Uses slot } else d
counted_at (Listed span) d = d
counted_at Nowhere d = d

-- a key that was found, as far as Verify looks at it
abbrev pub verifier : (allowed : Bool) (bytes : List ℕ) (bits : ℕ) → Key
verifier allowed bytes bits = key_from [] bytes bits false allowed

-- ---- what whoever carries a decision out may rely on

-- a key's parts lie within n bytes
abbrev pub KeyWithin : (n : ℕ) → KeyPlaces → Type 0
KeyWithin n key = SpanWithin n key.name × SpanWithin n key.bytes

-- and are no longer than Import allows
pub record KeyParts (n : ℕ) (key : KeyPlaces) : Type 0 where
  pub within : KeyWithin n key
  pub name : key.name.len ≤ key_name_most
  pub bytes : key.bytes.len ≤ data_most
  pub bits : key.bits ≤ bits_most

-- the longest body of a response is exported data, a field of a tag, a length and the data; 20 is a writer's room for the
-- tag and the length
abbrev pub output_most : ℕ
output_most = data_most + 20

abbrev pub SafeOutput : (list : List ℕ) → Output → Type 0
SafeOutput list Nothing = Unit {0}
SafeOutput list Version = Unit {0}
SafeOutput list Providers = Unit {0}
SafeOutput list (Opcodes provider) = provider ≤ 1
SafeOutput list (Data place) = PlaceWithin list place × (length (bytes_at [] list place) ≤ data_most)
SafeOutput list (Offset at) = Unit {0}

abbrev pub SafeEdit : (n : ℕ) → Edit → Type 0
SafeEdit n Stays = Unit {0}
SafeEdit n (Fills slot key) = (slot.0 < slot_count) × KeyParts n key
SafeEdit n (Clears slot) = slot.0 < slot_count
SafeEdit n (Uses slot) = slot.0 < slot_count

-- d is what x says, on these slots, this list and this body
pub record Decided (slots : List Entry) (list body : List ℕ) (x : Result) (d : Decision) : Type 0 where
  pub result : result_in slots list body d ≡ x
  pub output : SafeOutput list d.output
  pub edit : SafeEdit (length body) d.edit

-- whatever the slots and the list are
abbrev pub DecidedAnywhere : (body : List ℕ) (x : List Entry → List ListedKey → Result) → Decision → Type 0
DecidedAnywhere body x d = (slots : List Entry) (list : List ℕ) → Decided slots list body (x slots (keys_in list)) d
