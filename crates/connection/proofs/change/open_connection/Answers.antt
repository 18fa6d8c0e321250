use borrow.Author.Tests.{eq-eqb, ne_eqb}
use Rattle.connection.specs.Connection.{open_connection}
use Rattle.connection.proofs.change.open_connection.Goals as goal

pub returns-then-memory-ne-CONNECTION_SIZE : goal.returns-then-memory-ne-CONNECTION_SIZE
unfolding open_connection
returns-then-memory-ne-CONNECTION_SIZE c = rw (ne_eqb _ _ c.if-memory-ne-CONNECTION_SIZE.true)

pub returns : goal.returns
unfolding open_connection
returns c = rw (eq-eqb _ _ c.if-memory-ne-CONNECTION_SIZE.false, c.reset.ensures)
