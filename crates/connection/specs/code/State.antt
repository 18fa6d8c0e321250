-- A connection as the code reads it off memory: the bytes themselves stay there.
use Rattle.std.specs.Prelude.{length}
use Rattle.stream.specs.Rules.{Connection, opened, skipping, closed}
use Rattle.connection.specs.declared.check.State.{State}
use Rattle.connection.specs.declared.check.State.TheVariants.{Open, Skipping, Closed}

abbrev pub state_of : Connection → State
state_of (opened held) = Open (length held)
state_of (skipping header to_go) = Skipping to_go
state_of closed = Closed
