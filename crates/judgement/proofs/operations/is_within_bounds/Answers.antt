use mathlib.Core.Path.{sym, ◌∙◌}
use Rattle.wire.proofs.ListLaws.{length_part}
use Rattle.messages.specs.Placed.{key_in}
use Rattle.judgement.proofs.ImportLaws.{bad_name, data_left}
use Rattle.judgement.proofs.operations.is_within_bounds.Goals as goal

pub returns-then-is_legal : goal.returns-then-is_legal
returns-then-is_legal c =
    let s = c.args in
    c.is_legal_data.ensures (key_in s.body.now s.key).bytes (length_part s.body.now s.key.bytes.start s.key.bytes.len c.requires.1)
    ∙ sym (data_left (key_in s.body.now s.key) (rw c.of.ensures at (sym c.is_legal.ensures ∙ c.if-is_legal.true)))

pub returns-else-is_legal : goal.returns-else-is_legal
returns-else-is_legal c =
    let s = c.args in
    c.if-is_legal.false ∙ sym (bad_name (key_in s.body.now s.key) (rw c.of.ensures at (sym c.is_legal.ensures ∙ c.if-is_legal.false)))
