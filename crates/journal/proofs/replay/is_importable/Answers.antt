use mathlib.Core.Path.{refl, sym, ap, ◌∙◌}
use mathlib.Core.Bool.{true≢false}
use Rattle.keys.specs.Key.{Key, legal_bits}
use Rattle.registry.specs.code.Check.{key_from}
use Rattle.judgement.proofs.ImportLaws.{bad_name, data_left}
use Rattle.journal.proofs.replay.is_importable.Goals as goal
use Rattle.journal.proofs.replay.is_importable.Goals.{then-is_legal, else-is_legal}

pub returns-then-is_legal_data : goal.returns-then-is_legal_data
returns-then-is_legal_data c =
    let key : Key = key_from c.args.name.now c.args.bytes.now c.args.bits c.args.exported c.args.verified in
    elim c.if-is_legal.branch [
      | then-is_legal w ↦
          let legal = sym c.is_legal.ensures ∙ w.if-is_legal.true in
          let sized = sym (w.is_legal_data.ensures c.args.bytes.now refl) ∙ sym w.value-is ∙ c.if-is_legal_data.true in
          rw (data_left key legal ∙ sized) (c.are_legal_bits.ensures ∙ ap legal_bits c.from.ensures)
      | else-is_legal w ↦ absurd (true≢false (sym c.if-is_legal_data.true ∙ w.value-is ∙ w.if-is_legal.false))
    ]

pub returns-else-is_legal_data : goal.returns-else-is_legal_data
returns-else-is_legal_data c =
    let key : Key = key_from c.args.name.now c.args.bytes.now c.args.bits c.args.exported c.args.verified in
    elim c.if-is_legal.branch [
      | then-is_legal w ↦
          let legal = sym c.is_legal.ensures ∙ w.if-is_legal.true in
          let sized = sym (w.is_legal_data.ensures c.args.bytes.now refl) ∙ sym w.value-is ∙ c.if-is_legal_data.false in
          rw (data_left key legal ∙ sized) c.if-is_legal_data.false
      | else-is_legal w ↦ rw (bad_name key (sym c.is_legal.ensures ∙ w.if-is_legal.false)) c.if-is_legal_data.false
    ]
