use Prim.Native.Nat.{◌-◌, ◌≤◌}
use mathlib.Core.Path.{◌≡◌}
use mathlib.Core.Bool.{true}
use lib.ListN.{length, take, drop}
use Rattle.shipped.specs.Shipped.{whole, list_of, well_formed_list, keys_in}
use Rattle.shipped.specs.code.Marks.{Marked}
use Rattle.shipped.proofs.PairLaws.{read_pairs}
use Rattle.shipped.proofs.check.are_pairs.Given as goal

abbrev pub invariant-loop-at : goal.invariant-loop-at
invariant-loop-at l = (l.at ≤ length l.list)
    × ((well_formed_list (take l.at l.list) ≡ true)
    × ((read_pairs (drop l.at l.list) (whole (keys_in (take l.at l.list))) ≡ list_of l.list)
    × ((l.count ≡ length (keys_in (take l.at l.list))) × Marked (keys_in (take l.at l.list)) l.marks)))

abbrev pub decreases-loop-at : goal.decreases-loop-at
decreases-loop-at l = length l.list - l.at
