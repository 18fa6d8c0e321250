-- The journal's records (document 02, "Surviving a power cut"; docs/LAYOUT.md): tag, length of the value, value, and the CRC over
-- these.
use Rattle.std.specs.Prelude.{ℕ, ◌+◌, Bool, ◌&&◌, List, [], ◌∷◌, ◌++◌, length, take, drop, get_or, leb, ltb, eqb, Option, Some, None}
use Rattle.wire.specs.Choice.{when◌then◌else◌}
use Rattle.wire.specs.Lists.{every}
use Rattle.wire.specs.Numbers.{little_endian_of, field}
use Rattle.records.specs.Records.{Record, record_length}
use Rattle.keys.specs.Names.{key_name_most}
use Rattle.keys.specs.Key.{Key, data_most}
use Rattle.registry.specs.Slots.{flag}
use Rattle.registry.specs.declared.Line.{Line}
use Rattle.crc.specs.Crc.{crc32}

-- a served import or destroy, and the roster line of the application that asked for it
pub data Act : Type 0 where
  importing : Line → Key → Act
  destroying : Line → (name : List ℕ) → Act

-- ---- as bytes

-- import: line, bits (2), export allowed, verify allowed, the name's length, the name, and the data to the end;
-- destroy: line, and the name to the end
unfoldable pub value_of : Act → List ℕ
value_of (importing line key) =
    line.0
    ∷ (little_endian_of 2 key.bits
    ++ (flag key.export_allowed ∷ flag key.verify_allowed ∷ length key.name ∷ (key.name ++ key.bytes)))
value_of (destroying line name) = line.0 ∷ name

unfoldable pub tag_of : Act → ℕ
tag_of (importing line key) = 2
tag_of (destroying line name) = 3

-- what the CRC covers: tag, length and value
unfoldable pub covered : (tag : ℕ) (value : List ℕ) → List ℕ
covered tag value = tag ∷ (little_endian_of 2 (length value) ++ value)

unfoldable pub record_of : Act → List ℕ
record_of act =
    let front = covered (tag_of act) (value_of act) in
    front ++ little_endian_of 4 (crc32 front)

-- ---- from bytes

-- the record's length, that of the CRC behind it included
abbrev pub sealed_length : List ℕ → ℕ
sealed_length bytes = record_length bytes + 4

-- the bytes have a record whole: they say how long it is, and are as many
unfoldable pub is_whole : List ℕ → Bool
is_whole bytes = leb 3 (length bytes) && leb (sealed_length bytes) (length bytes)

abbrev pub line_in : (value : List ℕ) → Line
line_in value = record { 0 = get_or value 0 0 }

-- where the name of an import begins
abbrev pub name_at : ℕ
name_at = 6

abbrev pub key_in : (value : List ℕ) → Key
key_in value =
    let behind = name_at + get_or value 5 0 in
    record {
      name = take (get_or value 5 0) (drop name_at value);
      bytes = drop behind value;
      bits = field 1 2 value;
      export_allowed = eqb (get_or value 3 0) 1;
      verify_allowed = eqb (get_or value 4 0) 1;
    }

-- the bytes up to the name are there, bools are 0 or 1, and so is the name
abbrev pub import_tests : (value : List ℕ) → List Bool
import_tests value =
    leb name_at (length value)
    ∷ leb (get_or value 3 0) 1
    ∷ leb (get_or value 4 0) 1
    ∷ leb (name_at + get_or value 5 0) (length value)
    ∷ []

-- the longest value, of an import
abbrev pub value_most : ℕ
value_most = name_at + (key_name_most + data_most)

-- the longest record, its CRC included
abbrev pub record_most : ℕ
record_most = 3 + value_most + 4

-- what a record says, if it has the layout; no value is longer than that of the longest import
unfoldable pub act_in : Record → Option Act
act_in r =
    when ltb value_most (length r.value) then None
    else when eqb r.tag 2 then (when every (import_tests r.value) then Some (importing (line_in r.value) (key_in r.value)) else None)
    else when eqb r.tag 3 then (when leb 1 (length r.value) then Some (destroying (line_in r.value) (drop 1 r.value)) else None)
    else None
