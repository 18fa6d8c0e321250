-- What the code says of a registry, in the reading copy's terms.
use Rattle.std.specs.Prelude.{ℕ, Bool, false, List, [], ◌∷◌, get_or, eqb}
use Rattle.wire.specs.Lists.{every}
use Rattle.keys.specs.Names.{legal_name, application_name_most}
use Rattle.keys.specs.code.Marks.{mixed, four_words}
use Rattle.registry.specs.Names.{name_in, index_from}
use Rattle.keys.specs.Key.{Key}
use Rattle.registry.specs.Slots.{Entry, free, held}
use Rattle.registry.specs.Registry.{names_in}
use Rattle.registry.specs.WellFormed.{slots_well_formed, zeros_behind_name, keys_distinct}

-- the mark of a slot's name, by all bytes that there are for one
unfoldable pub mark_in : (slot : List ℕ) → ℕ
mark_in slot = mixed (four_words slot 1 5 9 13) (four_words slot 17 21 25 29)

-- a slot without a name is free
abbrev pub is_free : (slot : List ℕ) → Bool
is_free slot = eqb (get_or slot 0 0) 0

-- a used line: a legal name, unused bytes zero, well-formed slots, and no key's name twice
abbrev pub line_tests : (line : List ℕ) → List Bool
line_tests line =
    legal_name application_name_most (name_in line) ∷ zeros_behind_name line ∷ slots_well_formed line ∷ keys_distinct line ∷ []

unfoldable pub well_formed_line : (line : List ℕ) → Bool
well_formed_line line = every (line_tests line)

-- how many lines stand before the first that has no name
unfoldable pub used_lines : (registry : List ℕ) → ℕ
used_lines registry = index_from [] (names_in registry) 0

abbrev pub key_from : (name bytes : List ℕ) (bits : ℕ) (export_allowed verify_allowed : Bool) → Key
key_from n b k e v = record { name = n; bytes = b; bits = k; export_allowed = e; verify_allowed = v }

-- the data of a slot, its bits, whether it may be exported, and whether it may verify
unfoldable pub bytes_in : Entry → List ℕ
bytes_in free = []
bytes_in (held key) = key.bytes

unfoldable pub export_in : Entry → Bool
export_in free = false
export_in (held key) = key.export_allowed

unfoldable pub bits_in : Entry → ℕ
bits_in free = 0
bits_in (held key) = key.bits

unfoldable pub verify_in : Entry → Bool
verify_in free = false
verify_in (held key) = key.verify_allowed
