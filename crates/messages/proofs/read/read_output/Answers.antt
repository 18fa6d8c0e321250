use Rattle.std.proofs.Common.{◌≡◌, ℕ, refl, sym, ◌∙◌}
use native.Mathlib.Omega.{arith}
use mathlib.Core.List.{List, [], ◌∷◌}
use Rattle.messages.specs.Message.{Message, uint32, bytes, number_of, octets_of, numbers_of, value_at}
use Rattle.messages.specs.Formats.{format_of}
use Rattle.messages.specs.Operations.{version, exported, nothing, providers, opcodes, read_body, output_of}
use Rattle.messages.specs.code.ListBody.{list_schema}
use Rattle.messages.proofs.PlacedLaws.{body_then, body_broken, body_made, values_in, of_ping_lem, of_list_providers_lem, of_list_opcodes_lem, of_nothing, of_export_lem, of_other}
use Rattle.messages.proofs.read.read_output.Goals as goal
use Rattle.messages.proofs.read.read_output.Goals.{in-3-1, in_default+else-this-lt5+then-this-lt7}

abbrev list : Message → List ℕ
list m = numbers_of (value_at m 1)

pub returns-in_err-m-in-1 : goal.returns-in_err-m-in-1
returns-in_err-m-in-1 c =
    let a = c.args in
    rw c.from_residual.ensures (
      body_broken (format_of a.format) (uint32 ∷ uint32 ∷ []) a.body.now (λ m. version (number_of (value_at m 1)) (number_of (value_at m 2))) c.read_fields.result (c.read_fields.ensures.0 (uint32 ∷ uint32 ∷ []) refl (omega arith) tt) c.in_err-m-in-1.ensures.value
          ∙ sym (of_ping_lem (format_of a.format) a.opcode a.body.now c.in-1.is),
      tt,
    )

pub returns-in_ok-m-in-1 : goal.returns-in_ok-m-in-1
returns-in_ok-m-in-1 c =
    let a = c.args in (
      body_made (format_of a.format) (uint32 ∷ uint32 ∷ []) a.body.now (λ m. version (number_of (value_at m 1)) (number_of (value_at m 2))) c.read_fields.result (c.read_fields.ensures.0 (uint32 ∷ uint32 ∷ []) refl (omega arith) tt) c.in_ok-m-in-1.m c.in_ok-m-in-1.ensures.value
          ∙ sym (of_ping_lem (format_of a.format) a.opcode a.body.now c.in-1.is),
      tt,
    )

pub returns-in_err-read_list_body-in-8 : goal.returns-in_err-read_list_body-in-8
returns-in_err-read_list_body-in-8 c =
    let a = c.args in
    rw c.from_residual-in_err-read_list_body-in-8.ensures
    (body_then (format_of a.format) list_schema a.body.now list providers _ c.in_err-read_list_body-in-8.ensures.0 ∙ sym (of_list_providers_lem (format_of a.format) a.opcode a.body.now c.in-8.is), tt)

pub returns-in_ok-read_list_body-in-8 : goal.returns-in_ok-read_list_body-in-8
returns-in_ok-read_list_body-in-8 c =
    let a = c.args in
    let v = c.in_ok-read_list_body-in-8 in
    (body_then (format_of a.format) list_schema a.body.now list providers _ v.ensures.0 ∙ sym (of_list_providers_lem (format_of a.format) a.opcode a.body.now c.in-8.is), v.ensures.1)

pub returns-in_err-read_list_body-in-9 : goal.returns-in_err-read_list_body-in-9
returns-in_err-read_list_body-in-9 c =
    let a = c.args in
    rw c.from_residual-in_err-read_list_body-in-9.ensures
    (body_then (format_of a.format) list_schema a.body.now list opcodes _ c.in_err-read_list_body-in-9.ensures.0 ∙ sym (of_list_opcodes_lem (format_of a.format) a.opcode a.body.now c.in-9.is), tt)

pub returns-in_ok-read_list_body-in-9 : goal.returns-in_ok-read_list_body-in-9
returns-in_ok-read_list_body-in-9 c =
    let a = c.args in
    let v = c.in_ok-read_list_body-in-9 in
    (body_then (format_of a.format) list_schema a.body.now list opcodes _ v.ensures.0 ∙ sym (of_list_opcodes_lem (format_of a.format) a.opcode a.body.now c.in-9.is), v.ensures.1)

pub returns-in_err-m-in-7 : goal.returns-in_err-m-in-7
returns-in_err-m-in-7 c =
    let a = c.args in
    rw c.from_residual-in_err-m-in-7.ensures (
      body_broken (format_of a.format) (bytes ∷ []) a.body.now (λ m. exported (octets_of (value_at m 1))) c.read_fields-in-7.result (c.read_fields-in-7.ensures.0 (bytes ∷ []) refl (omega arith) tt) c.in_err-m-in-7.ensures.value
          ∙ sym (of_export_lem (format_of a.format) a.opcode a.body.now c.in-7.is),
      tt,
    )

pub returns-in_ok-m-in-7 : goal.returns-in_ok-m-in-7
returns-in_ok-m-in-7 c =
    let a = c.args in
    let v = c.in_ok-m-in-7 in
    rw c.span_of.ensures (
      body_made (format_of a.format) (bytes ∷ []) a.body.now (λ m. exported (octets_of (value_at m 1))) c.read_fields-in-7.result (c.read_fields-in-7.ensures.0 (bytes ∷ []) refl (omega arith) tt) v.m v.ensures.value
          ∙ sym (of_export_lem (format_of a.format) a.opcode a.body.now c.in-7.is),
      (values_in _ _ v.m c.read_fields-in-7.ensures.1 v.ensures.value).in1,
    )

pub returns-in_err-ok-in-6 : goal.returns-in_err-ok-in-6
returns-in_err-ok-in-6 c =
    let a = c.args in
    let is : output_of (format_of a.format) a.opcode a.body.now ≡ read_body (format_of a.format) [] a.body.now (λ m. nothing) =
    elim c.in-6-1.branch [
      | in-3-1 w ↦ of_nothing _ _ _ (omega arith) (omega arith) (λ z. omega arith)
      | in_default+else-this-lt5+then-this-lt7 w ↦ of_nothing _ _ _ (omega arith) (omega arith) (λ z. omega arith)
    ] in
    rw c.from_residual-in_err-ok-in-6.ensures
    (body_broken (format_of a.format) [] a.body.now (λ m. nothing) c.read_fields-in-6.result (c.read_fields-in-6.ensures.0 [] refl (omega arith) tt) c.in_err-ok-in-6.ensures.value ∙ sym is, tt)

pub returns-in_ok-ok-in-6 : goal.returns-in_ok-ok-in-6
returns-in_ok-ok-in-6 c =
    let a = c.args in
    let is : output_of (format_of a.format) a.opcode a.body.now ≡ read_body (format_of a.format) [] a.body.now (λ m. nothing) =
    elim c.in-6-1.branch [
      | in-3-1 w ↦ of_nothing _ _ _ (omega arith) (omega arith) (λ z. omega arith)
      | in_default+else-this-lt5+then-this-lt7 w ↦ of_nothing _ _ _ (omega arith) (omega arith) (λ z. omega arith)
    ] in
    (body_made (format_of a.format) [] a.body.now (λ m. nothing) c.read_fields-in-6.result (c.read_fields-in-6.ensures.0 [] refl (omega arith) tt) c.in_ok-ok-in-6.field-0 c.in_ok-ok-in-6.ensures.value ∙ sym is, tt)

pub returns-in_default : goal.returns-in_default
returns-in_default c =
    let a = c.args in
    (sym (of_other (format_of a.format) a.opcode a.body.now (λ z. omega arith) (λ z. omega arith) (λ z. omega arith) (λ z. omega arith) (λ z. omega arith) (λ z. omega arith) (λ z. omega arith)), tt)

pub returns-in_default-2 : goal.returns-in_default-2
returns-in_default-2 c =
    let a = c.args in
    (sym (of_other (format_of a.format) a.opcode a.body.now (λ z. omega arith) (λ z. omega arith) (λ z. omega arith) (λ z. omega arith) (λ z. omega arith) (λ z. omega arith) (λ z. omega arith)), tt)
