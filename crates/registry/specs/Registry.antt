-- The registry's bytes as applications and their slots, and what a change of a slot writes ("Roster, registry, connection,
-- tally"; document 02, "Use per key"; docs/LAYOUT.md).
use Rattle.std.specs.Prelude.{ℕ, ◌+◌, ◌*◌, ◌&&◌, length, take, drop, replicate, ltb, Option, Some, None}
use mathlib.Core.List.{List, ◌∷◌, ◌++◌, map, flatten}
use Rattle.wire.specs.Choice.{when◌then◌else◌}
use Rattle.wire.specs.Lists.{padded, put, blocks}
use Rattle.keys.specs.Names.{application_name_most}
use Rattle.keys.specs.Key.{Key}
use Rattle.registry.specs.Names.{name_in, index_from}
use Rattle.registry.specs.Slots.{Entry, free, name_of, key_bytes, slot_bytes, slot_of, uses_in, used_slot, slot_size}
use Rattle.registry.specs.declared.Line.{Line}
use Rattle.registry.specs.declared.Slot.{Slot}

-- ---- sizes

-- applications, and the slots of each
abbrev pub line_count : ℕ
line_count = 8

abbrev pub slot_count : ℕ
slot_count = 8

-- a line: the name's length, the name and zeros, then the slots
abbrev pub line_head : ℕ
line_head = 1 + application_name_most

abbrev pub line_size : ℕ
line_size = line_head + slot_count * slot_size

abbrev pub registry_size : ℕ
registry_size = line_count * line_size

-- ---- what the bytes stand for

-- the bytes of each line
abbrev pub lines_in : List ℕ → List (List ℕ)
lines_in registry = blocks line_count line_size registry

-- the applications' names, empty where a line is unused
abbrev pub names_in : List ℕ → List (List ℕ)
names_in registry = map name_in (lines_in registry)

-- the bytes of each slot of a line
abbrev pub slots_in : List ℕ → List (List ℕ)
slots_in line = blocks slot_count slot_size (drop line_head line)

-- the application with this name; none has the empty name
unfoldable pub application_named : List ℕ → (name : List ℕ) → Option Line
application_named registry name =
    let number = index_from name (names_in registry) 0 in
    when ltb 0 (length name) && ltb number line_count then Some (record { 0 = number }) else None

-- the bytes of a line
abbrev pub line_at : List ℕ → Line → List ℕ
line_at registry line = take line_size (drop (line.0 * line_size) registry)

-- the slots of an application
unfoldable pub slots_of : List ℕ → Line → List Entry
slots_of registry line = map slot_of (slots_in (line_at registry line))

-- how often the key in each was used; 0 for a free one
unfoldable pub uses_of : List ℕ → Line → List ℕ
uses_of registry line = map uses_in (slots_in (line_at registry line))

-- the first slot with this name; the empty name is that of a free slot
unfoldable pub slot_named : (name : List ℕ) → List Entry → Option Slot
slot_named name slots =
    let number = index_from name (map name_of slots) 0 in
    when ltb number (length slots) then Some (record { 0 = number }) else None

-- ---- what an operation changes, of the slots of the application that asks

pub data Change : Type 0 where
  unchanged : Change
  fill : Slot → Key → Change
  clear : Slot → Change  -- the slot becomes free, all zero
  add_use : Slot → Change  -- the key was used once more

-- where a slot begins
abbrev pub place : Line → Slot → ℕ
place line slot = line.0 * line_size + (line_head + slot.0 * slot_size)

-- the bytes of a slot
abbrev pub slot_at : List ℕ → Line → Slot → List ℕ
slot_at registry line slot = take slot_size (drop (place line slot) registry)

unfoldable pub changed : List ℕ → Line → Change → List ℕ
changed registry line unchanged = registry
changed registry line (fill slot key) = put registry (place line slot) (key_bytes key)
changed registry line (clear slot) = put registry (place line slot) (slot_bytes free)
changed registry line (add_use slot) = put registry (place line slot) (used_slot (slot_at registry line slot))

-- ---- the registry of a roster: its names, and no keys

unfoldable pub line_of : (name : List ℕ) → List ℕ
line_of name = (length name ∷ padded application_name_most name) ++ replicate (slot_count * slot_size) 0

unfoldable pub registry_of : (names : List (List ℕ)) → List ℕ
registry_of names = padded registry_size (flatten (map line_of names))
