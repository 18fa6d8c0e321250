-- A registry with use counts 0 (document 02, "Surviving a power cut").
use Rattle.std.specs.Prelude.{ℕ, Bool, take, eqb}
use mathlib.Core.List.{List, ◌++◌, map, flatten}
use Rattle.wire.specs.Lists.{all, put}
use Rattle.wire.specs.Numbers.{little_endian_of}
use Rattle.registry.specs.Slots.{uses_at, uses_in}
use Rattle.registry.specs.Registry.{line_head, lines_in, slots_in}

-- every count is 0
unfoldable pub never_used : (registry : List ℕ) → Bool
never_used registry = all (λ line. all (λ slot. eqb (uses_in slot) 0) (slots_in line)) (lines_in registry)

-- the registry with every count 0: the slots' other bytes stay
unfoldable pub unused_slot : List ℕ → List ℕ
unused_slot slot = put slot uses_at (little_endian_of 4 0)

unfoldable pub unused_line : List ℕ → List ℕ
unused_line line = take line_head line ++ flatten (map unused_slot (slots_in line))

unfoldable pub unused : (registry : List ℕ) → List ℕ
unused registry = flatten (map unused_line (lines_in registry))
