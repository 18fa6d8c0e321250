use Rattle.std.proofs.Common.{sym, ◌∙◌, arith}
use Rattle.rsa_key.proofs.KeyLaws.{key_sized}
use Rattle.rsa_key.proofs.key.modulus_bits.Goals as goal

pub overflow_add-result : goal.overflow_add-result
overflow_add-result c =
    let h = key_sized c.args.key.now (λ i. (c.type_inv.key i).fits) c.in-Some.read (sym c.read_key.ensures ∙ c.in-Some.is) in
    omega (arith, h.short, c.byte_bits.ensures.1)
