-- Values with one more lie within what all of them lie in.
use Prim.Native.Nat.{ℕ}
use lib.Dec.{eqb}
use Rattle.wire.proofs.TestLaws.{either}
use Rattle.fields.specs.code.Fields.{with_value, ValueIn, ValuesIn}
use Rattle.fields.specs.declared.Value.{Value}
use Rattle.fields.specs.declared.Values.{Values}

pub with_value_in : (n : ℕ) (m : Values) (f : ℕ) (v : Value) → ValuesIn n m → ValueIn n v → ValuesIn n (with_value m f v)
unfolding with_value
with_value_in n m f v h l =
    let P = ValuesIn n in
    either P (eqb f 1) (λ _. record { in1 = l; in2 = h.in2; in3 = h.in3; in4 = h.in4; in5 = h.in5 })
    (λ _. either P (eqb f 2) (λ _. record { in1 = h.in1; in2 = l; in3 = h.in3; in4 = h.in4; in5 = h.in5 })
    (λ _. either P (eqb f 3) (λ _. record { in1 = h.in1; in2 = h.in2; in3 = l; in4 = h.in4; in5 = h.in5 })
    (λ _. either P (eqb f 4) (λ _. record { in1 = h.in1; in2 = h.in2; in3 = h.in3; in4 = l; in5 = h.in5 })
    (λ _. either P (eqb f 5) (λ _. record { in1 = h.in1; in2 = h.in2; in3 = h.in3; in4 = h.in4; in5 = l }) (λ _. h)))))
