use mathlib.Core.Path.{refl}
use Rattle.judgement.specs.Operations.{checked}
use Rattle.judgement.specs.code.Decided.{output_in}
use Rattle.judgement.specs.declared.Output.TheVariants.{Nothing}
use Rattle.judgement.specs.declared.Status.TheVariants.{PsaErrorNotSupported, PsaErrorInvalidSignature}
use Rattle.judgement.proofs.DecidedLaws.{refusal, listing}
use Rattle.judgement.proofs.signature.judge_outcome.Goals as goal

pub returns-in-ValidSignature : goal.returns-in-ValidSignature
unfolding checked output_in
returns-in-ValidSignature c slots list body = rw (c.served.ensures, c.in-ValidSignature.is) (listing slots list body Nothing tt refl)

pub returns-in-InvalidKey : goal.returns-in-InvalidKey
unfolding checked
returns-in-InvalidKey c slots list body = rw (c.refused.ensures, c.in-InvalidKey.is) (refusal slots list body PsaErrorNotSupported refl)

pub returns-in-InvalidSignature : goal.returns-in-InvalidSignature
unfolding checked
returns-in-InvalidSignature c slots list body = rw (c.refused-in-InvalidSignature.ensures, c.in-InvalidSignature.is) (refusal slots list body PsaErrorInvalidSignature refl)
