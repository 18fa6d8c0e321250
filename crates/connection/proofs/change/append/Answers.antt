use mathlib.Core.Path.{◌≡◌, sym, ap, ◌∙◌}
use mathlib.Core.List.{◌++◌}
use native.Mathlib.Omega.{arith}
use Prim.Native.Nat.{◌+◌, ◌≤◌}
use lib.ListN.{length, length-append}
use Rattle.connection.specs.Connection.{held_most, laid_out, connection_bytes}
use Rattle.connection.proofs.ChangeLaws.{bytes_put}
use Rattle.connection.proofs.change.append.Goals as goal

pub returns : goal.returns
unfolding connection_bytes
returns c = λ before h e.
    let a = c.args in
    let bytes = a.bytes.now in
    let fits : length before + length bytes ≤ held_most = omega arith in
    let number : a.held + length bytes ≡ length (before ++ bytes) = omega (arith, length-append before bytes) in
    bytes_put 0 (a.held + length bytes) before bytes fits _ _ _ (c.write_number.ensures 0 (length before) before e) (ap (λ n. 9 + n) (sym h)) c.copy_into.ensures.bytes
    ∙ ap (λ n. laid_out 0 n (before ++ bytes)) number
