use mathlib.Core.Path.{sym, ap, ◌∙◌}
use Prim.Native.Nat.{ℕ}
use lib.ListN.{replicate}
use Rattle.connection.specs.Connection.{connection_bytes}
use Rattle.connection.proofs.ConnectionLaws.{blank}
use Rattle.connection.proofs.change.reset.Goals as goal

pub returns : goal.returns
unfolding connection_bytes
returns c =
    c.clear.ensures ∙ ap (λ (n : ℕ). replicate n 0) c.requires ∙ sym (blank 0)
