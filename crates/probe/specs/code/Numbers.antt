-- What the exported functions give back, as numbers.
use Rattle.std.specs.Prelude.{ℕ, ◌+◌, ◌*◌, List, [], ◌∷◌, length, replicate, ltb, eqb, Option, Some, None, Result, Ok, Err}
use Rattle.wire.specs.Choice.{when◌then◌else◌}
use Rattle.wire.specs.Request.{request_least}
use Rattle.wire.specs.code.Header.{header_of}
use Rattle.wire.specs.declared.header.Header.{Header}
use Rattle.fields.specs.declared.Schema.{Schema}
use Rattle.rsa.specs.declared.verify.Outcome.{Outcome}
use Rattle.rsa.specs.declared.verify.Outcome.TheVariants.{ValidSignature, InvalidSignature, InvalidKey}
use Rattle.rsa.specs.declared.verify.Verification.{Verification}
use Rattle.messages.specs.Operations.{input_fields}
use Rattle.messages.specs.code.Places.{schema_placed}
use Rattle.fields.specs.declared.Values.{Values}

abbrev pub field_numbers : Header → List ℕ
field_numbers h =
    1 ∷ h.size ∷ h.major ∷ h.minor ∷ h.provider ∷ h.session ∷ h.content_type ∷ h.accept_type ∷ h.auth_type
    ∷ h.content_length ∷ h.auth_length ∷ h.opcode ∷ []

abbrev pub header_numbers : List ℕ → List ℕ
header_numbers bytes = when ltb (length bytes) request_least then replicate 12 0 else field_numbers (header_of bytes)

abbrev pub varint_numbers : Option (ℕ × ℕ) → List ℕ
varint_numbers (Some (v, next)) = 1 ∷ v ∷ next ∷ []
varint_numbers None = 0 ∷ 0 ∷ 0 ∷ []

-- the schemas of the operations: no fields, ListOpcodes, Import, Destroy and Export
abbrev pub schema_of : ℕ → Schema
schema_of n =
    schema_placed (input_fields (when eqb n 1 then 9 else when eqb n 2 then 6 else when eqb n 3 then 7 else 1))

abbrev pub body_numbers : Result Values ℕ → List ℕ
body_numbers (Ok v) =
    1 ∷ v.f1.start ∷ v.f1.len ∷ v.f1.number ∷ v.f2.start ∷ v.f2.len ∷ v.f2.number ∷ v.f3.start ∷ v.f3.len
    ∷ v.f3.number ∷ v.f4.start ∷ v.f4.len ∷ v.f4.number ∷ v.f5.start ∷ v.f5.len ∷ v.f5.number ∷ []
body_numbers (Err at) = 0 ∷ at ∷ replicate 14 0

abbrev pub outcome_number : Outcome → ℕ
outcome_number ValidSignature = 0
outcome_number InvalidSignature = 1
outcome_number InvalidKey = 2

abbrev pub verification_number : Verification → ℕ
verification_number v = outcome_number v.outcome + 4 * v.multiplications
