-- What the code writes of a record before the name, and which record a change has. No part of the reading copy.
use Rattle.std.specs.Prelude.{ℕ, ◌+◌, Bool, List, [], ◌∷◌, ◌++◌, get_or, Option, Some, None}
use Rattle.wire.specs.Numbers.{little_endian_of}
use Rattle.registry.specs.Slots.{Entry, free, name_of, flag}
use Rattle.registry.specs.Registry.{Change, unchanged, fill, clear, add_use}
use Rattle.registry.specs.declared.Line.{Line}
use Rattle.journal.specs.Record.{Act, importing, destroying}

unfoldable pub import_head : Line → (name_length data_length bits : ℕ) (exported verified : Bool) → List ℕ
import_head line n d bits exported verified =
    2 ∷ (little_endian_of 2 (6 + (n + d)) ++ (line.0 ∷ (little_endian_of 2 bits ++ (flag exported ∷ flag verified ∷ n ∷ []))))

unfoldable pub destroy_head : Line → (name_length : ℕ) → List ℕ
destroy_head line n = 3 ∷ (little_endian_of 2 (1 + n) ++ (line.0 ∷ []))

-- the import or destroy that a change tells; of a slot that is cleared, the name that it had
unfoldable pub act_of_change : (slots : List Entry) → Line → Change → Option Act
act_of_change slots line unchanged = None
act_of_change slots line (fill slot key) = Some (importing line key)
act_of_change slots line (clear slot) = Some (destroying line (name_of (get_or slots slot.0 free)))
act_of_change slots line (add_use slot) = None

unfoldable pub act_of_asker : (slots : List Entry) → Option Line → Change → Option Act
act_of_asker slots None change = None
act_of_asker slots (Some line) change = act_of_change slots line change
