use Rattle.std.proofs.Common.{sym, ◌∙◌, arith}
use Rattle.rsa.specs.Signature.{verified_by, verification}
use Rattle.rsa.proofs.SignatureLaws.{to_have_bits, Modulus, modulus}
use Rattle.rsa.proofs.verify.verify.Goals as goal
use Rattle.rsa.proofs.verify.verify.Goals.{Else-not-are_supported_bits, Else-not-has_bits}

pub has_bits-requires : goal.has_bits-requires
has_bits-requires c =
    to_have_bits c.args.key.now c.args.bits c.in-Some.field-0 (λ i. (c.type_inv.key i).fits) (sym c.read_key.ensures ∙ c.in-Some.is) (sym c.are_supported_bits.ensures ∙ c.if-not-are_supported_bits.false)

found : (c : Else-not-has_bits) → Modulus c.args.key.now c.args.bits c.in-Some.field-0 (λ i. (c.type_inv.key i).fits) (sym c.read_key.ensures ∙ c.in-Some.is) (sym c.are_supported_bits.ensures ∙ c.if-not-are_supported_bits.false)
found c = modulus c.args.key.now c.args.bits c.in-Some.field-0 (λ i. (c.type_inv.key i).fits) _ _ (sym c.has_bits.ensures ∙ c.if-not-has_bits.false)

pub slice_bounds-check-end : goal.slice_bounds-check-end
slice_bounds-check-end c = (found (goal.at.slice_bounds-check-end c).Else-not-has_bits).inside

pub check-requires : goal.check-requires
check-requires c =
    let f = found (goal.at.check-requires c).Else-not-has_bits in
    (omega (arith, f.long, f.least), omega (arith, f.long, f.most), f.set)

pub returns : goal.returns
unfolding verification verified_by
returns c =
    let w = (goal.at.returns c).Else-not-has_bits in
    let f = found w in
    c.check.ensures ∙ rw (f.same, f.long, sym c.read_key.ensures ∙ c.in-Some.is, sym c.are_supported_bits.ensures ∙ c.if-not-are_supported_bits.false, sym c.has_bits.ensures ∙ c.if-not-has_bits.false)
