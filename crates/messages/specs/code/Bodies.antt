-- How much room bodies ask for, and the part of Import's that is written by itself.
use Rattle.std.specs.Prelude.{ℕ, ◌+◌, ◌*◌, Bool, List, ◌++◌, length}
use Rattle.messages.specs.Message.{number, flag}
use Rattle.messages.specs.Format.{Format}

-- a number's field, and the tag and length of another
abbrev pub field_room : ℕ
field_room = 20

abbrev pub bytes_body_room : (bytes : List ℕ) → ℕ
bytes_body_room bytes = length bytes + field_room

-- bits, export allowed, verify allowed
unfoldable pub key_numbers : Format → (bits : ℕ) (exported verified : Bool) → List ℕ
key_numbers format bits exported verified =
    format.bytes_of 3 (number bits) ++ (format.bytes_of 4 (flag exported) ++ format.bytes_of 5 (flag verified))

abbrev pub key_numbers_room : ℕ
key_numbers_room = 3 * field_room

abbrev pub key_body_room : (name bytes : List ℕ) → ℕ
key_body_room name bytes = length name + length bytes + 5 * field_room

abbrev pub verify_body_room : (name hash signature : List ℕ) → ℕ
verify_body_room name hash signature = length name + length hash + length signature + 3 * field_room

abbrev pub list_body_room : (list : List ℕ) → ℕ
list_body_room list = 4 * length list + field_room

abbrev pub version_body_room : ℕ
version_body_room = 2 * field_room
