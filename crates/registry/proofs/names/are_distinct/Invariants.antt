use Rattle.std.proofs.Common.{◌≡◌, ℕ, ◌*◌, length, map}
use Rattle.wire.specs.Lists.{blocks}
use Rattle.registry.specs.Names.{name_in, distinct}
use Rattle.registry.proofs.names.are_distinct.Given as goal

-- the names of what is left decide
abbrev pub invariant-loop-block : goal.invariant-loop-block
invariant-loop-block l = (count : ℕ) → length l.bytes ≡ count * l.size
    → (n : ℕ) × (length l.rest ≡ n * l.size) × (distinct (map name_in (blocks count l.size l.bytes)) ≡ distinct (map name_in (blocks n l.size l.rest)))

abbrev pub decreases-loop-block : goal.decreases-loop-block
decreases-loop-block l = length l.rest
