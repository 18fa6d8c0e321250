use mathlib.Core.Path.{refl}
use Rattle.registry.proofs.WellFormedLaws.{good_of}
use Rattle.judgement.specs.Operations.{perform}
use Rattle.judgement.specs.code.Decided.{output_in}
use Rattle.judgement.specs.declared.Output.TheVariants.{Version, Providers}
use Rattle.judgement.proofs.DecidedLaws.{listing}
use Rattle.judgement.proofs.operations.perform.Goals as goal

pub import-requires : goal.import-requires
import-requires c = ((good_of c.args.registry.now c.requires.0).size, c.requires.1, c.requires.2, rw c.in-ImportKey.is at c.requires.3)

pub of-requires : goal.of-requires
of-requires c = rw c.in-DestroyKey.is at c.requires.3

pub destroy-requires : goal.destroy-requires
destroy-requires c = ((good_of c.args.registry.now c.requires.0).size, c.requires.1, c.requires.2)

pub of-requires-in-ExportPublicKey : goal.of-requires-in-ExportPublicKey
of-requires-in-ExportPublicKey c = rw c.in-ExportPublicKey.is at c.requires.3

pub of-requires-in-VerifySignature : goal.of-requires-in-VerifySignature
of-requires-in-VerifySignature c = let w = rw c.in-VerifySignature.is at c.requires.3 in w.0

pub of-requires-in-VerifySignature-2 : goal.of-requires-in-VerifySignature-2
of-requires-in-VerifySignature-2 c = let w = rw c.in-VerifySignature.is at c.requires.3 in w.1

pub of-requires-in-VerifySignature-3 : goal.of-requires-in-VerifySignature-3
of-requires-in-VerifySignature-3 c = let w = rw c.in-VerifySignature.is at c.requires.3 in w.2

pub returns-in-Ping : goal.returns-in-Ping
unfolding perform output_in
returns-in-Ping c = rw (c.in-Ping.is, c.served.ensures) (listing _ _ _ Version tt refl)

pub returns-in-ListProviders : goal.returns-in-ListProviders
unfolding perform output_in
returns-in-ListProviders c = rw (c.in-ListProviders.is, c.served-in-ListProviders.ensures) (listing _ _ _ Providers tt refl)

pub returns-in-ListOpcodes : goal.returns-in-ListOpcodes
unfolding perform
returns-in-ListOpcodes c = rw c.in-ListOpcodes.is (c.list_opcodes.ensures c.args.body.now _ c.args.list.now)

pub returns-in-ImportKey : goal.returns-in-ImportKey
unfolding perform
returns-in-ImportKey c = rw c.in-ImportKey.is c.import.ensures

pub returns-in-DestroyKey : goal.returns-in-DestroyKey
unfolding perform
returns-in-DestroyKey c = rw (c.in-DestroyKey.is, ← c.of.ensures) (c.destroy.ensures c.args.body.now)

pub returns-in-ExportPublicKey : goal.returns-in-ExportPublicKey
unfolding perform
returns-in-ExportPublicKey c = rw (c.in-ExportPublicKey.is, ← c.of-in-ExportPublicKey.ensures) (c.export.ensures c.args.body.now)

pub returns-in-VerifySignature : goal.returns-in-VerifySignature
unfolding perform
returns-in-VerifySignature c =
    rw (c.in-VerifySignature.is, ← c.of-in-VerifySignature.ensures, ← c.of-in-VerifySignature-2.ensures, ← c.of-in-VerifySignature-3.ensures) (c.verify.ensures c.args.body.now)
