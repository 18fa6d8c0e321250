use mathlib.Core.Path.{sym}
use native.Mathlib.Omega.{arith}
use lib.Seq.{length-take-le}
use Rattle.starting.proofs.FeedLaws.{kept_bytes}
use Rattle.starting.proofs.start.load_front.Goals as goal

pub slice_bounds-load_roster-end : goal.slice_bounds-load_roster-end
slice_bounds-load_roster-end c =
    sym (length-take-le _ c.args.front.now (omega (arith, kept_bytes c.requires c.in-Some.is)))
