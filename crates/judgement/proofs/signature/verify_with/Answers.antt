use mathlib.Core.Path.{sym, ◌∙◌}
use mathlib.Core.Bool.{false}
use mathlib.Core.List.{[]}
use Rattle.registry.specs.code.Check.{key_from}
use Rattle.judgement.specs.declared.Status.TheVariants.{PsaErrorNotPermitted, PsaErrorInvalidArgument, PsaErrorNotSupported}
use Rattle.judgement.proofs.DecidedLaws.{refusal, not_verifying, bad_hash, bad_bits, verifying}
use Rattle.judgement.proofs.signature.verify_with.Goals as goal

pub returns-then-not-allowed : goal.returns-then-not-allowed
returns-then-not-allowed c slots list body = rw c.refused.ensures (refusal slots list body PsaErrorNotPermitted (not_verifying _ _ _ c.if-not-allowed.true))

pub returns-then-hash-ne-HASH_SIZE : goal.returns-then-hash-ne-HASH_SIZE
returns-then-hash-ne-HASH_SIZE c slots list body =
    rw c.refused-then-hash-ne-HASH_SIZE.ensures
    (refusal slots list body PsaErrorInvalidArgument (bad_hash _ _ _ c.if-not-allowed.false c.if-hash-ne-HASH_SIZE.true))

pub returns-then-not-are_import_bits : goal.returns-then-not-are_import_bits
returns-then-not-are_import_bits c slots list body =
    rw c.refused-then-not-are_import_bits.ensures
    (refusal slots list body PsaErrorNotSupported
    (bad_bits _ _ _ c.if-not-allowed.false c.if-hash-ne-HASH_SIZE.false (sym c.are_import_bits.ensures ∙ c.if-not-are_import_bits.true)))

pub returns : goal.returns
returns c slots list body =
    let key = key_from [] c.args.key.now c.args.bits false c.args.allowed in
    rw (verifying c.args.hash.now c.args.signature.now key c.if-not-allowed.false c.if-hash-ne-HASH_SIZE.false (sym c.are_import_bits.ensures ∙ c.if-not-are_import_bits.false), ← c.verify.ensures)
    (c.judge_outcome.ensures slots list body)
