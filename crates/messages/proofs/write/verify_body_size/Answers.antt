use mathlib.Core.Path.{refl}
use native.Mathlib.Omega.{arith}
use Rattle.messages.proofs.FormatsLaws.{verify_body_length}
use Rattle.messages.proofs.write.verify_body_size.Goals as goal

pub returns : goal.returns
returns c =
    let a = c.args in
    omega (
      arith,
      verify_body_length a.format a.name.now a.hash.now a.signature.now,
      c.bytes_size-name_size.ensures.0 a.name.now refl,
      c.bytes_size-hash_size.ensures.0 a.hash.now refl,
      c.bytes_size-signature_size.ensures.0 a.signature.now refl,
    )
