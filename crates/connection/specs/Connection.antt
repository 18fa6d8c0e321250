-- How a connection lies in its memory ("Roster, registry, connection, tally"): kind (1 byte), a number (8) and bytes, the
-- unused ones zero.
--   kind 0  open: how many bytes are held, and those bytes; a fresh connection is all zero
--   kind 1  skipping: how many bytes are to go, and the header
--   kind 2  closed
use Rattle.std.specs.Prelude.{ℕ, ◌+◌, Bool, ◌&&◌, List, [], ◌∷◌, ◌++◌, length, take, drop, get_or, eqb, Result, Ok, Err}
use Rattle.wire.specs.Choice.{when◌then◌else◌}
use Rattle.wire.specs.Lists.{same, padded}
use Rattle.wire.specs.Numbers.{little_endian_of, field}
use Rattle.wire.specs.Request.{header_length}
use Rattle.stream.specs.Frame.{header_most, content_most, auth_most}
use Rattle.stream.specs.Rules.{Connection, opened, skipping, closed}
use Rattle.stream.specs.Call.{well_formed}
use Rattle.connection.specs.declared.change.OpenRefusal.{OpenRefusal}
use Rattle.connection.specs.declared.change.OpenRefusal.TheVariants.{WrongSize}

-- the longest request that is not oversized
abbrev pub held_most : ℕ
held_most = 6 + header_most + content_most + auth_most

-- where the bytes begin, behind kind and number
abbrev pub bytes_at : ℕ
bytes_at = 9

abbrev pub connection_size : ℕ
connection_size = bytes_at + held_most

abbrev pub laid_out : (kind number : ℕ) (bytes : List ℕ) → List ℕ
laid_out kind number bytes = kind ∷ (little_endian_of 8 number ++ padded held_most bytes)

unfoldable pub connection_bytes : Connection → List ℕ
connection_bytes (opened held) = laid_out 0 (length held) held
connection_bytes (skipping header to_go) = laid_out 1 to_go header
connection_bytes closed = laid_out 2 0 []

unfoldable pub connection_of : (memory : List ℕ) → Connection
connection_of memory =
    let kind = get_or memory 0 0 in
    let number = field 1 8 memory in
    let bytes = drop bytes_at memory in
    when eqb kind 0 then opened (take number bytes)
    else when eqb kind 1 then skipping (take (header_length bytes) bytes) number
    else closed

-- of the one exact size, and the bytes of a well-formed connection; anything else is ill formed
unfoldable pub well_formed_connection : (memory : List ℕ) → Bool
well_formed_connection memory =
    eqb (length memory) connection_size
    && (well_formed (connection_of memory) && same (connection_bytes (connection_of memory)) memory)

pub record Opening : Type 0 where
  pub answer : Result (Unit {0}) OpenRefusal
  pub memory : List ℕ

-- memory of the exact size becomes a fresh connection, and any other stays as it came
unfoldable pub open_connection : (memory : List ℕ) → Opening
open_connection memory =
    when eqb (length memory) connection_size then record { answer = Ok tt; memory = connection_bytes (opened []) }
    else record { answer = Err WrongSize; memory = memory }
