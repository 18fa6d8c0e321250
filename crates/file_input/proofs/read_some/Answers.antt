use Rattle.std.proofs.Common.{rules, ℕ, subst}
use Rattle.starting.specs.code.Stream.{ReadWithin}
use Rattle.starting.proofs.ReadLaws.{input_within}
use Rattle.file_input.proofs.read_some.Goals as goal

pub returns-in-Ok : goal.returns-in-Ok
returns-in-Ok c = subst (λ (n : ℕ). ReadWithin n c.input_of.result) c.read.auto.buf (input_within _ _ _ c.input_of.ensures)

pub returns-in-Err : goal.returns-in-Err
unfolding ReadWithin
returns-in-Err c = tt
