use Rattle.std.proofs.Common.{◌≡◌, sym, ap, ◌∙◌, Bool, ℕ, List, length, take, replicate, length-take-le, rules, arith, leb-false}
use Rattle.rsa_key.specs.Octets.{os2ip}
use Rattle.rsa_key.proofs.ModulusLaws.{below}
use Rattle.bignum.specs.Numbers.{value_of}
use Rattle.rsa.specs.Signature.{encoded, outcome_of, report, verified}
use Rattle.rsa.proofs.SignatureLaws.{verdict}
use Rattle.rsa.proofs.verify.check.Goals as goal
use Rattle.rsa.proofs.verify.check.Goals.{After-are_same}

told : (c : After-are_same) → let a = c.args in
    report (outcome_of c.are_same.result) c.power-multiplications.result ≡ verified (os2ip a.modulus.now) a.e (length a.modulus.now) a.hash.now a.signature.now
told c =
    let a = c.args in
    let n = c.read_big_endian in
    let s = c.read_big_endian-2 in
    let p = c.power-multiplications in
    let m = c.encode in
    let r = c.read_big_endian-3 in
    let zeros : List ℕ = replicate 512 0 in
    let size : length (take (length a.modulus.now) zeros) ≡ length a.modulus.now = length-take-le (length a.modulus.now) zeros (omega arith) in
    verdict (os2ip a.modulus.now) a.e (length a.modulus.now) a.hash.now a.signature.now m.new.em
    (value_of n.new.dst) (value_of s.new.dst) (value_of p.new.acc) (value_of r.new.dst) p.result (length p.new.acc) (length r.new.dst) c.are_same.result
    c.if-hash-ne32.false c.if-signature-size.false n.ensures s.ensures (leb-false _ _ (sym c.is_at_least.ensures ∙ c.if-is_at_least.false)) (let l = below a.modulus.now (λ i. (c.type_inv.modulus i).fits) in omega arith)
    (m.ensures ∙ ap (λ (k : ℕ). encoded k a.hash.now) size) (m.auto.em ∙ size) (λ i. search rules) c.requires.2 c.ranges.e.fits p.ensures r.ensures (p.auto.acc ∙ sym (r.auto.dst ∙ s.auto.dst)) c.are_same.ensures

pub returns-then-are_same : goal.returns-then-are_same
returns-then-are_same c =
    let w = (goal.at.returns-then-are_same c).After-are_same in
    ap (λ (b : Bool). report (outcome_of b) w.power-multiplications.result) (sym c.if-are_same.true) ∙ told w

pub returns-else-are_same : goal.returns-else-are_same
returns-else-are_same c =
    let w = (goal.at.returns-else-are_same c).After-are_same in
    ap (λ (b : Bool). report (outcome_of b) w.power-multiplications.result) (sym c.if-are_same.false) ∙ told w
