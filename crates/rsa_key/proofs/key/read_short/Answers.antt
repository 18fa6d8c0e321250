use Rattle.std.proofs.Common.{◌+◌, ◌*◌, ◌-◌, ◌^◌, ◌<◌, ◌≤◌, ℕ, List, length, take, drop, arith, length-take, length-drop}
use native.Mathlib.Nat.{pow-le-pow_right}
use Rattle.rsa_key.proofs.key.read_short.Goals as goal

short : (i x : ℕ) → x < 256 ^ i → i < 5 → 256 * x < 2 ^ 64
short i x h l =
    let four : i ≤ 4 = omega arith in
    let base : 1 ≤ 256 = omega arith in
    let p : 256 ^ i ≤ 256 ^ 4 = pow-le-pow_right base four in
    omega arith

within : (s : List ℕ) (start len i : ℕ) → i < length (take (start + len - start) (drop start s)) → len ≤ 5 → i < 5
within s start len i h l =
    let e : i < length (take (start + len - start) (drop start s)) = h in
    let e' = simp (length-take, length-drop) at e in
    omega arith

pub overflow_mul-x : goal.overflow_mul-x
overflow_mul-x c =
    let k = c.args.contents in
    omega (arith, short c.loop-b.b-index c.loop-b.x c.loop-b.invariant.1 (within c.args.s.now k.start k.len c.loop-b.b-index c.loop-b-test.true c.requires.1))
