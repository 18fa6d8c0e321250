-- What the exported functions answer, by the leaves' definitions; where a leaf's `requires` does not hold, `refused` or
-- false, and nothing is written.
use Rattle.std.specs.Prelude.{ℕ, ◌≡◌, Bool, true, false, ◌&&◌, List, length, get_or, ltb, leb, eqb, Option, Some, None, Result, Ok, Err}
use Rattle.wire.specs.Choice.{when◌then◌else◌}
use Rattle.wire.specs.Lists.{over}
use Rattle.keys.specs.Key.{Key, data_most}
use Rattle.keys.specs.Names.{key_name_most}
use Rattle.registry.specs.Slots.{Entry, free, flag}
use Rattle.registry.specs.Registry.{line_count, slot_count, registry_size, application_named, slot_named, slots_of, changed, fill, clear}
use Rattle.registry.specs.WellFormed.{well_formed_registry}
use Rattle.registry.specs.code.Check.{bytes_in, export_in}
use Rattle.roster.specs.Roster.{fault_number}
use Rattle.connection.specs.declared.change.OpenRefusal.{OpenRefusal}
use Rattle.connection.specs.declared.change.OpenRefusal.TheVariants.{WrongSize}
use Rattle.registry.specs.declared.Line.{Line}
use Rattle.registry.specs.declared.Slot.{Slot}
use Rattle.roster.specs.declared.RosterFault.{RosterFault}

abbrev pub refused : ℕ
refused = 18446744073709551615

-- the largest field number
abbrev pub number_most : ℕ
number_most = 536870911

-- where it fits, r counts the bytes s, which were written over the front of d; else it is refused and d stays
pub record WroteIf (fits : Bool) (s d e : List ℕ) (r : ℕ) : Type 0 where
  pub count : r ≡ (when fits then length s else refused)
  pub bytes : e ≡ (when fits then over s d else d)

-- where it fits, d became s; else it stays
pub record ChangedIf (fits : Bool) (s d e : List ℕ) (r : Bool) : Type 0 where
  pub answer : r ≡ fits
  pub bytes : e ≡ (when fits then s else d)

-- ---- searches

abbrev pub line_number : Option Line → ℕ
line_number (Some line) = line.0
line_number None = line_count

abbrev pub line_found : (registry name : List ℕ) → ℕ
line_found registry name =
    when eqb (length registry) registry_size then line_number (application_named registry name) else refused

abbrev pub slot_number : Option Slot → ℕ
slot_number (Some slot) = slot.0
slot_number None = slot_count

abbrev pub slot_found : (registry : List ℕ) (line : ℕ) (name : List ℕ) → ℕ
slot_found registry line name =
    when eqb (length registry) registry_size && ltb line line_count then
    slot_number (slot_named name (slots_of registry (record { 0 = line })))
    else refused

-- ---- slots

abbrev pub in_range : (line slot : ℕ) → Bool
in_range line slot = ltb line line_count && ltb slot slot_count

abbrev pub is_clearable : (registry : List ℕ) (line slot : ℕ) → Bool
is_clearable registry line slot = eqb (length registry) registry_size && in_range line slot

abbrev pub cleared : (registry : List ℕ) (line slot : ℕ) → List ℕ
cleared registry line slot = changed registry (record { 0 = line }) (clear (record { 0 = slot }))

abbrev pub is_fillable : (registry : List ℕ) (line slot : ℕ) (name bytes : List ℕ) → Bool
is_fillable registry line slot name bytes =
    is_clearable registry line slot && (leb (length name) key_name_most && leb (length bytes) data_most)

abbrev pub filled : (registry : List ℕ) (line slot : ℕ) → Key → List ℕ
filled registry line slot key = changed registry (record { 0 = line }) (fill (record { 0 = slot }) key)

abbrev pub is_readable : (registry : List ℕ) (line slot : ℕ) → Bool
is_readable registry line slot = well_formed_registry registry && in_range line slot

abbrev pub entry_at : (registry : List ℕ) (line slot : ℕ) → Entry
entry_at registry line slot = get_or (slots_of registry (record { 0 = line })) slot free

abbrev pub data_at : (registry : List ℕ) (line slot : ℕ) → List ℕ
data_at registry line slot = bytes_in (entry_at registry line slot)

abbrev pub exportable : (registry : List ℕ) (line slot : ℕ) → ℕ
exportable registry line slot = when is_readable registry line slot then flag (export_in (entry_at registry line slot)) else refused

-- ---- rosters

-- R0 to R5, and 6 for a good file
abbrev pub loaded_number : Result (Unit {0}) RosterFault → ℕ
loaded_number (Ok tt) = 6
loaded_number (Err fault) = fault_number fault

-- ---- connections

abbrev pub is_fresh : Result (Unit {0}) OpenRefusal → Bool
is_fresh (Ok tt) = true
is_fresh (Err WrongSize) = false
