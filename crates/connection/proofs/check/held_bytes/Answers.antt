use mathlib.Core.Path.{◌≡◌, sym, ap, ◌∙◌}
use native.Mathlib.Omega.{arith}
use lib.ListN.{drop, length-drop}
use Rattle.wire.specs.Request.{request_length}
use Rattle.wire.proofs.BufferLaws.{lent}
use Rattle.connection.specs.Connection.{connection_of}
use Rattle.connection.proofs.HeldLaws.{Skipped, held_open, held_closed, skipped_held}
use Rattle.connection.proofs.check.held_bytes.Goals as goal
use Rattle.connection.proofs.check.held_bytes.Goals.{After-request_length, In-Skipping}

skipped : (c : In-Skipping)
    → (let memory = c.args.memory.now in
    Skipped (drop 9 memory) (connection_of memory) c.in-Skipping.to_go)
skipped c =
    skipped_held _ c.requires _ (sym c.read_state.ensures ∙ c.in-Skipping.is)

-- the header stands at the front of the part that is lent
length_read : (c : After-request_length)
    → c.request_length.result ≡ request_length (drop 9 c.args.memory.now)
length_read c = c.request_length.ensures.0 ∙ ap request_length (lent 9 c.args.memory.now)

pub slice_bounds-request_length-count : goal.slice_bounds-request_length-count
slice_bounds-request_length-count c = omega (arith, (skipped c).many, length-drop 9 c.args.memory.now)

pub slice_bounds-request_length-start : goal.slice_bounds-request_length-start
slice_bounds-request_length-start c = omega (arith, (skipped c).many, length-drop 9 c.args.memory.now)

pub request_length-requires : goal.request_length-requires
request_length-requires c =
    let w = (goal.at.request_length-requires c).In-Skipping in
    rw (lent 9 c.args.memory.now) (skipped w).many

pub overflow_sub-result : goal.overflow_sub-result
overflow_sub-result c =
    let w = (goal.at.overflow_sub-result c).In-Skipping in
    omega (arith, (skipped w).most, length_read c)

pub returns-in-Open : goal.returns-in-Open
returns-in-Open c =
    held_open _ _ (sym c.read_state.ensures ∙ c.in-Open.is)

pub returns-in-Skipping : goal.returns-in-Skipping
returns-in-Skipping c =
    let w = (goal.at.returns-in-Skipping c).In-Skipping in
    rw (length_read c) (skipped w).held

pub returns-in-Closed : goal.returns-in-Closed
returns-in-Closed c = held_closed _ (sym c.read_state.ensures ∙ c.in-Closed.is)
