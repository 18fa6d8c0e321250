use mathlib.Core.Path.{◌≡◌, sym, ap, ◌∙◌}
use mathlib.Core.List.{List, ◌++◌}
use native.Mathlib.Omega.{arith}
use Prim.Native.Nat.{ℕ, ◌+◌, ◌≤◌, ◌-◌}
use lib.ListN.{length, take, drop, length-append}
use Rattle.wire.specs.Lists.{over}
use Rattle.client_responses.specs.State.{response_most, count_at, bytes_at}
use Rattle.client_responses.proofs.StateLaws.{count_put, bytes_put}
use Rattle.client_responses.proofs.state.append.Goals as goal

pub returns : goal.returns
returns c =
    λ asked before h e.
    let a = c.args in
    let bytes : List ℕ = a.bytes.now in
    let m : List ℕ = a.memory.now in
    let fits : length before + length bytes ≤ response_most = omega arith in
    let number : a.held + length bytes ≡ length (before ++ bytes) = omega (arith, length-append before bytes) in
    let first = count_put asked (a.held + length bytes) before m c.copy_into.new.dst e (c.copy_into.ensures.bytes ∙ ap (λ (l : List ℕ). over l (take (length m - count_at) (drop count_at m))) c.bytes_of_u16-count.ensures) in
    bytes_put asked (a.held + length bytes) before bytes fits _ _ _ first (ap (λ (n : ℕ). bytes_at + n) (sym h)) number c.copy_into-2.ensures.bytes
