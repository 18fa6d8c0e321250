-- "Operations and their fields"; document 02, "Checking signatures", "Keys we ship", "Use per key", "No more odd key lengths": what
-- each operation does with the slots of the application that asks and with the keys that we ship, and what it answers.
use Rattle.std.specs.Prelude.{ℕ, Bool, not, List, [], ◌∷◌, length, ltb, eqb, Some, None}
use Rattle.wire.specs.Choice.{when◌then◌else◌}
use Rattle.wire.specs.Lists.{every}
use Rattle.keys.specs.Names.{key_name_most, legal_name}
use Rattle.keys.specs.Key.{Key, legal_data, import_bits}
use Rattle.messages.specs.Format.{Format}
use Rattle.messages.specs.Opcodes.{opcodes_of}
use Rattle.messages.specs.Operations.{Operation, ping, list_providers, list_opcodes, import_key, destroy_key, export_public_key, verify_signature, asks, garbled, asked, Output, nothing, version, providers, opcodes, exported, offset}
pub use Rattle.messages.specs.Operations.{hash_size}
use Rattle.registry.specs.Slots.{Entry}
use Rattle.registry.specs.Registry.{slot_named, Change, unchanged, fill, clear, add_use}
use Rattle.shipped.specs.Shipped.{ListedKey}
use Rattle.lookup.specs.Lookup.{Source, own, listed, key_of, key_named}
use Rattle.rsa.specs.Signature.{verification}
use Rattle.rsa.specs.declared.verify.Outcome.{Outcome}
use Rattle.rsa.specs.declared.verify.Outcome.TheVariants.{ValidSignature, InvalidSignature, InvalidKey}
use Rattle.judgement.specs.Status.{status_number}
use Rattle.judgement.specs.declared.Status.{Status}
use Rattle.judgement.specs.declared.Status.TheVariants.{Success, ProviderDoesNotExist, DeserializingBodyFailed, PsaErrorNotPermitted, PsaErrorNotSupported, PsaErrorInvalidArgument, PsaErrorAlreadyExists, PsaErrorDoesNotExist, PsaErrorInsufficientStorage, PsaErrorInvalidSignature}

pub record Result : Type 0 where
  pub status : Status
  pub output : Output
  pub change : Change  -- of the slots of the application that asks

unfoldable pub success : Output → Change → Result
success output change = record { status = Success; output = output; change = change }

-- any status but 0 leaves the slots alone, and any but 0 and 7 has no output
unfoldable pub refuse : Status → Result
refuse status = record { status = status; output = nothing; change = unchanged }

-- 7, with the place of the first field that can't be read (document 02, "Where the body broke")
unfoldable pub refuse_at : (at : ℕ) → Result
refuse_at at = record { status = DeserializingBodyFailed; output = offset at; change = unchanged }

unfoldable pub perform_list_opcodes : (provider : ℕ) → Result
perform_list_opcodes provider =
    when ltb 1 provider then refuse ProviderDoesNotExist
    else success (opcodes (opcodes_of provider)) unchanged

-- name and data
unfoldable pub within_bounds : Key → Bool
within_bounds key = every (legal_name key_name_most key.name ∷ legal_data key.bytes ∷ [])

-- a name that is held or listed 1139, all slots in use 1142; the lowest-numbered free slot, which has the empty name, is filled
unfoldable pub place_key : Key → (slots : List Entry) (keys : List ListedKey) → Result
place_key key slots keys = elim (key_named key.name slots keys) [
  | Some source ↦ refuse PsaErrorAlreadyExists
  | None ↦ elim (slot_named [] slots) [
    | None ↦ refuse PsaErrorInsufficientStorage
    | Some slot ↦ success nothing (fill slot key)
  ]
]

-- out of bounds 1135, then 1134 for bits that the rule doesn't take; the journal's reader has another rule than Import
unfoldable pub import_by : (takes : ℕ → Bool) → Key → (slots : List Entry) (keys : List ListedKey) → Result
import_by takes key slots keys =
    when not (within_bounds key) then refuse PsaErrorInvalidArgument
    else when not (takes key.bits) then refuse PsaErrorNotSupported
    else place_key key slots keys

unfoldable pub perform_import : Key → (slots : List Entry) (keys : List ListedKey) → Result
perform_import key slots keys = import_by import_bits key slots keys

-- an own key becomes free; one that we ship stays
unfoldable pub destroy_of : Source → Result
destroy_of (own slot key) = success nothing (clear slot)
destroy_of (listed key) = refuse PsaErrorNotPermitted

-- bad name 1135, none such 1140, a listed one 1133
unfoldable pub perform_destroy : (name : List ℕ) (slots : List Entry) (keys : List ListedKey) → Result
perform_destroy name slots keys =
    when not (legal_name key_name_most name) then refuse PsaErrorInvalidArgument
    else elim (key_named name slots keys) [
      | None ↦ refuse PsaErrorDoesNotExist
      | Some source ↦ destroy_of source
    ]

-- a request that is served is a use of its key, and counts on the slot of an own one; those that we ship have no count
unfoldable pub counted : Source → Result → Result
counted (listed key) r = r
counted (own slot key) r =
    when eqb (status_number r.status) 0 then record { status = r.status; output = r.output; change = add_use slot } else r

unfoldable pub export_of : Key → Result
export_of key = when key.export_allowed then success (exported key.bytes) unchanged else refuse PsaErrorNotPermitted

-- 1135, 1140, then 1133 if export isn't allowed
unfoldable pub perform_export : (name : List ℕ) (slots : List Entry) (keys : List ListedKey) → Result
perform_export name slots keys =
    when not (legal_name key_name_most name) then refuse PsaErrorInvalidArgument
    else elim (key_named name slots keys) [
      | None ↦ refuse PsaErrorDoesNotExist
      | Some source ↦ counted source (export_of (key_of source))
    ]

-- a good signature is answered with no output; a key that can't be used 1134, a signature that isn't the key's 1149
unfoldable pub checked : Outcome → Result
checked ValidSignature = success nothing unchanged
checked InvalidKey = refuse PsaErrorNotSupported
checked InvalidSignature = refuse PsaErrorInvalidSignature

-- 1133 if verify isn't allowed, 1135 for a hash not of 32 bytes, 1134 for bits that Import does not take, of an own key from before
-- or of a listed one, whatever its data; then the check's
unfoldable pub verify_with : (hash signature : List ℕ) → Key → Result
verify_with hash signature key =
    when not key.verify_allowed then refuse PsaErrorNotPermitted
    else when not (eqb (length hash) hash_size) then refuse PsaErrorInvalidArgument
    else when not (import_bits key.bits) then refuse PsaErrorNotSupported
    else checked (verification key.bytes key.bits hash signature).outcome

-- 1135, 1140, then by the key
unfoldable pub perform_verify : (name hash signature : List ℕ) (slots : List Entry) (keys : List ListedKey) → Result
perform_verify name hash signature slots keys =
    when not (legal_name key_name_most name) then refuse PsaErrorInvalidArgument
    else elim (key_named name slots keys) [
      | None ↦ refuse PsaErrorDoesNotExist
      | Some source ↦ counted source (verify_with hash signature (key_of source))
    ]

unfoldable pub perform : Operation → (slots : List Entry) (keys : List ListedKey) → Result
perform ping slots keys = success (version 1 0) unchanged  -- the wire protocol's version
perform list_providers slots keys = success (providers (0 ∷ 1 ∷ [])) unchanged
perform (list_opcodes provider) slots keys = perform_list_opcodes provider
perform (import_key key) slots keys = perform_import key slots keys
perform (destroy_key name) slots keys = perform_destroy name slots keys
perform (export_public_key name) slots keys = perform_export name slots keys
perform (verify_signature name hash signature) slots keys = perform_verify name hash signature slots keys

-- body not readable: 7; then the operation's own
unfoldable pub operated : Format → (opcode : ℕ) (body : List ℕ) (slots : List Entry) (keys : List ListedKey) → Result
operated format opcode body slots keys = elim (asked format opcode body) [
  | garbled at ↦ refuse_at at
  | asks operation ↦ perform operation slots keys
]
