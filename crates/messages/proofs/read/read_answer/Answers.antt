use Rattle.std.proofs.Common.{refl, ◌∙◌, sym}
use native.Mathlib.Omega.{arith}
use mathlib.Core.List.{[], ◌∷◌}
use Rattle.messages.specs.Message.{uint32, number_of, value_at}
use Rattle.messages.specs.Formats.{format_of}
use Rattle.messages.specs.Operations.{offset, offset_of}
use Rattle.messages.proofs.PlacedLaws.{body_broken, body_made, with_status_7}
use Rattle.messages.proofs.read.read_answer.Goals as goal

pub returns-in_err-m-in-7 : goal.returns-in_err-m-in-7
unfolding offset_of
returns-in_err-m-in-7 c =
    let a = c.args in
    rw c.from_residual.ensures (
      body_broken (format_of a.format) (uint32 ∷ []) a.body.now (λ m. offset (number_of (value_at m 1))) c.read_fields.result (c.read_fields.ensures.0 (uint32 ∷ []) refl (omega arith) tt) c.in_err-m-in-7.ensures.value
          ∙ sym (with_status_7 (format_of a.format) a.opcode a.status a.body.now c.in-7.is),
      tt,
    )

pub returns-in_ok-m-in-7 : goal.returns-in_ok-m-in-7
unfolding offset_of
returns-in_ok-m-in-7 c =
    let a = c.args in (
      body_made (format_of a.format) (uint32 ∷ []) a.body.now (λ m. offset (number_of (value_at m 1))) c.read_fields.result (c.read_fields.ensures.0 (uint32 ∷ []) refl (omega arith) tt) c.in_ok-m-in-7.m c.in_ok-m-in-7.ensures.value
          ∙ sym (with_status_7 (format_of a.format) a.opcode a.status a.body.now c.in-7.is),
      tt,
    )
