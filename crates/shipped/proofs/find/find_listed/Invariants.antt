use Rattle.std.proofs.Common.{Some}
use Prim.Native.Nat.{◌-◌, ◌≤◌}
use mathlib.Core.Path.{◌≡◌}
use mathlib.Core.Bool.{true}
use mathlib.Core.List.{List}
use lib.ListN.{length, drop}
use Rattle.keys.specs.Names.{is_new}
use Rattle.shipped.specs.Shipped.{ListedKey, names_of, whole, keys_in}
use Rattle.shipped.proofs.PairLaws.{read_pairs}
use Rattle.shipped.proofs.find.find_listed.Given as goal

abbrev pub invariant-loop-at : goal.invariant-loop-at
invariant-loop-at l = (l.at ≤ length l.list) × ((keys : List ListedKey) × ((read_pairs (drop l.at l.list) (whole keys) ≡ Some (keys_in l.list)) × (is_new l.name (names_of keys) ≡ true)))

abbrev pub decreases-loop-at : goal.decreases-loop-at
decreases-loop-at l = length l.list - l.at
