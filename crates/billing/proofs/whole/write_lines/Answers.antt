use Prim.Native.Nat.{◌+◌, ◌*◌, ◌≤◌}
use native.Mathlib.Omega.{arith}
use borrow.Author.Rules.{rules}
use Rattle.registry.specs.Registry.{line_count, slot_count}
use Rattle.judgement.specs.Status.{refused_count}
use Rattle.counters.specs.Counters.{totals_of}
use Rattle.service.specs.Call.{state_in}
use Rattle.billing.specs.Ascii.{ascii}
use Rattle.billing.specs.Bill.{bill_of}
use Rattle.billing.specs.Outcome.{count_line_most, refused_line_most, application_line_most, key_line_most, bill_in}
use Rattle.billing.proofs.PlacedLaws.{placed_on, placed_front}
use Rattle.billing.proofs.whole.write_lines.Goals as goal
use Rattle.billing.proofs.whole.write_lines.Goals.{After-write_count-dropped, After-write_count-open}

-- the lines so far, each of its longest
unauthenticated_most : (c : After-write_count-open) → c.write_count-open.result ≤ 2 * count_line_most + line_count * application_line_most + line_count * (slot_count * key_line_most)
unauthenticated_most c =
    omega (arith, c.write_count-taken.ensures.1, c.write_applications-named.ensures.1, c.write_keys-keyed.ensures.1, c.write_count-open.ensures.1)

-- the lines so far, each of its longest
unauthenticated_most_2 : (c : After-write_count-dropped) → c.write_count-open.result ≤ 2 * count_line_most + line_count * application_line_most + line_count * (slot_count * key_line_most)
unauthenticated_most_2 c =
    omega (arith, c.write_count-taken.ensures.1, c.write_applications-named.ensures.1, c.write_keys-keyed.ensures.1, c.write_count-open.ensures.1)

dropped_most : (c : After-write_count-dropped)
    → c.write_count-dropped.result ≤ 3 * count_line_most + line_count * application_line_most + line_count * (slot_count * key_line_most) + refused_count * refused_line_most
dropped_most c =
    omega (arith, unauthenticated_most_2 c, c.write_refusals-statuses.ensures.1, c.write_count-dropped.ensures.1)

pub slice_bounds-write_refusals-end : goal.slice_bounds-write_refusals-end
slice_bounds-write_refusals-end c = search (rules, c.well_formed)

pub write_refusals-statuses-requires : goal.write_refusals-statuses-requires
write_refusals-statuses-requires c =
    let w = (goal.at.write_refusals-statuses-requires c).After-write_count-open in
    (search (rules, c.well_formed.1.0.1.1.1.1.1), omega (arith, unauthenticated_most w, c.requires.2))

pub write_count-dropped-requires : goal.write_count-dropped-requires
write_count-dropped-requires c =
    let w = (goal.at.write_count-dropped-requires c).After-write_count-open in
    (search rules, omega (arith, unauthenticated_most w, c.write_refusals-statuses.ensures.1, c.requires.2))

pub write_count-requires : goal.write_count-requires
write_count-requires c =
    let w = (goal.at.write_count-requires c).After-write_count-dropped in
    (search rules, omega (arith, dropped_most w, c.requires.2))

pub returns : goal.returns
unfolding bill_in bill_of state_in totals_of ascii
returns c =
    let w = (goal.at.returns c).After-write_count-dropped in
    let end = rw c.held_bytes.ensures at c.write_count.ensures.0 in
    let statuses = placed_on c.write_refusals-statuses.ensures.0 (placed_on c.write_count-dropped.ensures.0 end) in
    let behind = placed_on c.write_keys-keyed.ensures.0 (placed_on c.write_count-open.ensures.0 statuses) in (
      placed_front (placed_on c.write_count-taken.ensures.0 (placed_on c.write_applications-named.ensures.0 behind)),
      omega (arith, dropped_most w, c.write_count.ensures.1),
    )
