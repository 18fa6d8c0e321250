use mathlib.Core.Path.{refl, ◌∙◌}
use Rattle.journal.proofs.StateLaws.{stored}
use Rattle.journal.proofs.state.store.Goals as goal

pub returns : goal.returns
returns c =
    stored c.args.p c.args.state.now _ _ _ _ c.requires refl
    (c.copy_from_slice.ensures.after ∙ c.bytes_of_u64.ensures)
    (c.copy_from_slice-2.ensures.after ∙ c.bytes_of_u64-2.ensures)
    (c.copy_from_slice-3.ensures.after ∙ c.bytes_of_u32.ensures)
