use mathlib.Core.Path.{sym, ap, ◌∙◌}
use mathlib.Core.List.{List}
use Prim.Native.Nat.{ℕ}
use lib.ListN.{replicate, set}
use Rattle.connection.specs.Connection.{connection_bytes}
use Rattle.connection.proofs.ConnectionLaws.{blank}
use Rattle.connection.proofs.change.close.Goals as goal

pub returns : goal.returns
unfolding connection_bytes
returns c =
    ap (λ (l : List ℕ). set l 0 2) (c.clear.ensures ∙ ap (λ (n : ℕ). replicate n 0) c.requires) ∙ sym (blank 2)
