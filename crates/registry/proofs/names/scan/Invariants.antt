use Rattle.std.proofs.Common.{◌≡◌, ℕ, ◌+◌, ◌*◌, ◌≤◌, length, drop, option_map}
use Rattle.std.specs.List.{position}
use Rattle.wire.specs.Lists.{same, blocks}
use Rattle.registry.specs.Names.{name_in}
use Rattle.registry.proofs.PlaceLaws.{has}
use Rattle.registry.proofs.names.scan.Given as goal

-- what is left of the two names decides
abbrev pub invariant-loop-k : goal.invariant-loop-k
invariant-loop-k l = has l.name l.block ≡ same (drop l.k l.name) (drop l.k (name_in l.block))

-- the blocks that are left decide
abbrev pub invariant-scan : goal.invariant-scan
invariant-scan l = (l.next + length l.rest ≤ length l.bytes)
    × ((count : ℕ) → length l.bytes ≡ count * l.size
    → (n : ℕ) × (length l.rest ≡ n * l.size) × (position (has l.name) (blocks count l.size l.bytes) ≡ option_map (λ k. l.next + k) (position (has l.name) (blocks n l.size l.rest))))

abbrev pub decreases-scan : goal.decreases-scan
decreases-scan l = length l.rest
