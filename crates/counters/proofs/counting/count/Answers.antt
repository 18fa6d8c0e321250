use Rattle.std.proofs.Common.{Some}
use mathlib.Core.Path.{◌≡◌, subst}
use native.Mathlib.Numerals.{add-one}
use native.Mathlib.Omega.{arith}
use borrow.Author.Rules.{rules}
use Rattle.judgement.specs.Counts.{increment, count_served, count_refused}
use Rattle.judgement.proofs.StatusLaws.{index_below}
use Rattle.counters.specs.Counters.{totals_of, counters_of}
use Rattle.counters.specs.code.Counted.{count_event, counted, EventBelow}
use Rattle.counters.specs.declared.Event.TheVariants.{Served, ServedUnauthenticated, Refused}
use Rattle.counters.proofs.CountedLaws.{served_low, unauthenticated_low, refused_low}
use Rattle.counters.proofs.counting.count.Goals as goal
use Rattle.counters.proofs.counting.count.Goals.{In-Some-Served, In-Some-ServedUnauthenticated, In-Some-Refused}

served : (c : In-Some-Served) → c.args.by.event ≡ Some (Served c.in-Some-Served.line)
served c = search rules

unauthenticated : (c : In-Some-ServedUnauthenticated) → c.args.by.event ≡ Some ServedUnauthenticated
unauthenticated c = search rules

refused : (c : In-Some-Refused) → c.args.by.event ≡ Some (Refused c.in-Some-Refused.status)
refused c = search rules

pub overflow_add-counters-in-Some-Served : goal.overflow_add-counters-in-Some-Served
overflow_add-counters-in-Some-Served c =
    let e = served (goal.at.overflow_add-counters-in-Some-Served c).In-Some-Served in
    omega (arith, served_low c.args.counters.now c.args.by c.requires _ e c.in-Some-Served.line.0)

pub overflow_add-counters-in-Some-ServedUnauthenticated : goal.overflow_add-counters-in-Some-ServedUnauthenticated
overflow_add-counters-in-Some-ServedUnauthenticated c =
    let e = unauthenticated (goal.at.overflow_add-counters-in-Some-ServedUnauthenticated c).In-Some-ServedUnauthenticated in
    omega (arith, unauthenticated_low c.args.counters.now c.args.by c.requires _ e)

pub returns-in-None : goal.returns-in-None
unfolding counted count_event totals_of counters_of
returns-in-None c = rw c.in-None.is

pub returns-in-Some-Served : goal.returns-in-Some-Served
unfolding counted count_event count_served increment totals_of counters_of
returns-in-Some-Served c = rw (served (goal.at.returns-in-Some-Served c).In-Some-Served, add-one)

pub returns-in-Some-ServedUnauthenticated : goal.returns-in-Some-ServedUnauthenticated
unfolding counted count_event count_served totals_of counters_of
returns-in-Some-ServedUnauthenticated c = rw (unauthenticated (goal.at.returns-in-Some-ServedUnauthenticated c).In-Some-ServedUnauthenticated, add-one)

pub offset_bounds-counters-refused_index : goal.offset_bounds-counters-refused_index
offset_bounds-counters-refused_index c =
    let e = refused (goal.at.offset_bounds-counters-refused_index c).In-Some-Refused in
    omega (arith, index_below c.in-Some-Refused.status (subst EventBelow e c.requires.below))

pub bounds-counters-refused_index : goal.bounds-counters-refused_index
bounds-counters-refused_index c =
    let e = refused (goal.at.bounds-counters-refused_index c).In-Some-Refused in
    omega (arith, index_below c.in-Some-Refused.status (subst EventBelow e c.requires.below))

pub overflow_add-counters-in-Some-Refused : goal.overflow_add-counters-in-Some-Refused
overflow_add-counters-in-Some-Refused c =
    let e = refused (goal.at.overflow_add-counters-in-Some-Refused c).In-Some-Refused in
    omega (arith, refused_low c.args.counters.now c.args.by c.requires _ e c.refused_index.result)

pub bounds-counters-refused_index-in-Some-Refused : goal.bounds-counters-refused_index-in-Some-Refused
bounds-counters-refused_index-in-Some-Refused c =
    let e = refused (goal.at.bounds-counters-refused_index-in-Some-Refused c).In-Some-Refused in
    omega (arith, index_below c.in-Some-Refused.status (subst EventBelow e c.requires.below))

pub returns-in-Some-Refused : goal.returns-in-Some-Refused
unfolding counted count_event count_refused increment totals_of counters_of
returns-in-Some-Refused c =
    rw (refused (goal.at.returns-in-Some-Refused c).In-Some-Refused, ← c.refused_index.ensures, add-one)
