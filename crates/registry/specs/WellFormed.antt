-- Which bytes are a registry, clause by clause ("Roster, registry, connection, tally").
use Rattle.std.specs.Prelude.{ℕ, Bool, true, not, ◌&&◌, ◌||◌, List, [], ◌∷◌, map, length, eqb}
use Rattle.wire.specs.Lists.{all, every, is_zero}
use Rattle.keys.specs.Names.{legal_name, application_name_most}
use Rattle.registry.specs.Names.{name_in, distinct}
use Rattle.registry.specs.Slots.{behind_name, well_formed_slot}
use Rattle.registry.specs.Registry.{registry_size, lines_in, names_in, slots_in}

-- a line with a name is used
abbrev pub is_used : (name : List ℕ) → Bool
is_used name = not (eqb (length name) 0)

abbrev pub none_used : List (List ℕ) → Bool
none_used names = all (λ name. not (is_used name)) names

-- behind a line that is unused there is none that is used
unfoldable pub used_first : List (List ℕ) → Bool
used_first [] = true
used_first (name ∷ names) = (is_used name || none_used names) && used_first names

abbrev pub legal_if_used : (name : List ℕ) → Bool
legal_if_used name = not (is_used name) || legal_name application_name_most name

abbrev pub free_if_unused : (line : List ℕ) → Bool
free_if_unused line = is_used (name_in line) || all (λ slot. all is_zero slot) (slots_in line)

abbrev pub slots_well_formed : (line : List ℕ) → Bool
slots_well_formed line = all well_formed_slot (slots_in line)

abbrev pub zeros_behind_name : (line : List ℕ) → Bool
zeros_behind_name line = all is_zero (behind_name application_name_most line)

abbrev pub keys_distinct : (line : List ℕ) → Bool
keys_distinct line = distinct (map name_in (slots_in line))

abbrev pub registry_tests : List ℕ → List Bool
registry_tests registry =
    eqb (length registry) registry_size  -- registry memory has one exact size
    ∷ used_first (names_in registry)  -- the used lines come first
    ∷ all legal_if_used (names_in registry)  -- with legal,
    ∷ distinct (names_in registry)  -- distinct names;
    ∷ all free_if_unused (lines_in registry)  -- slots of unused lines are free;
    ∷ all slots_well_formed (lines_in registry)  -- each slot is all zero or holds a key that a registry may hold, its unused bytes zero;
    ∷ all zeros_behind_name (lines_in registry)  -- and so are those behind an application's name;
    ∷ all keys_distinct (lines_in registry)  -- no line holds one name twice
    ∷ []

unfoldable pub well_formed_registry : List ℕ → Bool
well_formed_registry registry = every (registry_tests registry)
