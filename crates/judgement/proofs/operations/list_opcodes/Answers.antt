use Rattle.judgement.specs.declared.Output.TheVariants.{Opcodes}
use Rattle.judgement.specs.declared.Status.TheVariants.{ProviderDoesNotExist}
use Rattle.judgement.proofs.DecidedLaws.{refusal, listing, opcodes_refused, opcodes_listed}
use Rattle.judgement.proofs.operations.list_opcodes.Goals as goal

pub returns-then-provider-gt1 : goal.returns-then-provider-gt1
returns-then-provider-gt1 c body slots list =
    rw c.refused.ensures (refusal slots list body ProviderDoesNotExist (opcodes_refused _ c.if-provider-gt1.true))

pub returns : goal.returns
returns c body slots list =
    rw c.served.ensures (listing slots list body (Opcodes _) c.if-provider-gt1.false (opcodes_listed slots list _ c.if-provider-gt1.false))
