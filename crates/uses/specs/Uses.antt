-- Which requests of a stream use an application's own keys (document 02, "Use per key").
use Rattle.std.specs.Prelude.{ℕ, ◌+◌, Bool, false, not, ◌&&◌, List, [], ◌∷◌, map, eqb, Option, Some, None, is_some, option_and_then}
use Rattle.wire.specs.Choice.{when◌then◌else◌}
use Rattle.wire.specs.Lists.{every}
use Rattle.wire.specs.Request.{request_of}
use Rattle.messages.specs.Formats.{format_of, format_for}
use Rattle.messages.specs.Operations.{Operation, ping, list_providers, list_opcodes, import_key, destroy_key, export_public_key, verify_signature, operation_of}
use Rattle.keys.specs.Names.{is_new}
use Rattle.registry.specs.Slots.{Entry, name_of}
use Rattle.registry.specs.Registry.{slots_of}
use Rattle.registry.specs.declared.Line.{Line}
use Rattle.stream.specs.Frame.{legal_start, oversized}
use Rattle.stream.specs.Parts.{verdict_on}
use Rattle.judgement.specs.Status.{status_number}
use Rattle.judgement.specs.Counts.{no_counts}
use Rattle.judgement.specs.Judgement.{application_of, result_of, judgement}

-- ---- what a request asks for

unfoldable pub asked : (request : List ℕ) → Option Operation
asked request =
    let q = request_of request in
    operation_of (format_of (format_for q.content_type)) q.opcode q.body

-- the key that an operation uses
unfoldable pub key_used : Operation → Option (List ℕ)
key_used ping = None
key_used list_providers = None
key_used (list_opcodes provider) = None
key_used (import_key key) = None
key_used (destroy_key name) = None
key_used (export_public_key name) = Some name
key_used (verify_signature name hash signature) = Some name

-- and the one that it destroys
unfoldable pub key_destroyed : Operation → Option (List ℕ)
key_destroyed ping = None
key_destroyed list_providers = None
key_destroyed (list_opcodes provider) = None
key_destroyed (import_key key) = None
key_destroyed (destroy_key name) = Some name
key_destroyed (export_public_key name) = None
key_destroyed (verify_signature name hash signature) = None

-- ---- what becomes of it, on a registry and under the list of keys that we ship

-- the application that asks, if there is one, is that of this line
unfoldable pub is_for : Line → Option Line → Bool
is_for line None = false
is_for line (Some l) = eqb l.0 line.0

-- of legal start and within bounds, asked by the application of this line, and answered with status 0
unfoldable pub is_served : (list : List ℕ) → Line → (registry request : List ℕ) → Bool
is_served list line registry request =
    let q = request_of request in
    every
    (legal_start request ∷ not (oversized request)
    ∷ is_for line (application_of registry q)
    ∷ eqb (status_number (result_of list registry q).status) 0
    ∷ [])

-- one of the application's slots has this name
unfoldable pub is_own : (slots : List Entry) (name : Option (List ℕ)) → Bool
is_own slots None = false
is_own slots (Some name) = not (is_new name (map name_of slots))

-- a served Export or verify of an own key
unfoldable pub is_use : (list : List ℕ) → Line → (registry request : List ℕ) → Bool
is_use list line registry request = is_served list line registry request && is_own (slots_of registry line) (option_and_then key_used (asked request))

-- a served Destroy
unfoldable pub destroys_key : (list : List ℕ) → Line → (registry request : List ℕ) → Bool
destroys_key list line registry request = is_served list line registry request && is_some (option_and_then key_destroyed (asked request))

-- ---- how many requests pass a test, each on the registry that those before it left

unfoldable pub registry_after : (list registry request : List ℕ) → List ℕ
registry_after list registry request = (verdict_on (judgement list) registry no_counts request).registry

unfoldable pub count_if : (test : (registry request : List ℕ) → Bool) → (list registry : List ℕ) (requests : List (List ℕ)) → ℕ
count_if test list registry [] = 0
count_if test list registry (request ∷ requests) =
    (when test registry request then 1 else 0) + count_if test list (registry_after list registry request) requests
