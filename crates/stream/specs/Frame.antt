-- What the bytes not yet read begin with ("A whole stream under the rules").
use Rattle.std.specs.Prelude.{ℕ, ◌-◌, Bool, ◌&&◌, ◌||◌, not, List, length, take, leb, ltb, eqb}
use Rattle.wire.specs.Choice.{when◌then◌else◌}
use Rattle.wire.specs.Request.{magic_number, magic, header_size, content_length, auth_length, header_length, request_length}
-- the bounds of H, C and A
pub use Rattle.wire.specs.Request.{header_least, content_most}

abbrev pub header_most : ℕ
header_most = 64

abbrev pub auth_most : ℕ
auth_most = 256

-- of six bytes or more: magic and H are good
unfoldable pub legal_start : List ℕ → Bool
legal_start bytes = eqb (magic bytes) magic_number && (leb header_least (header_size bytes) && leb (header_size bytes) header_most)

-- of a whole header: C or A is too large
unfoldable pub oversized : List ℕ → Bool
oversized bytes = ltb content_most (content_length bytes) || ltb auth_most (auth_length bytes)

pub data Next : Type 0 where
  unfinished : Next  -- all of them are the beginning of a request
  bad_start : Next  -- six bytes with a wrong magic or H
  skipped : (header : List ℕ) (missing : ℕ) → Next  -- the beginning of an oversized request, so many bytes missing
  whole : (n : ℕ) → Next  -- a request of so many bytes

unfoldable pub next : List ℕ → Next
next bytes =
    when ltb (length bytes) 6 then unfinished
    else when not (legal_start bytes) then bad_start
    else when ltb (length bytes) (header_length bytes) then unfinished
    else when ltb (length bytes) (request_length bytes) then
    (when oversized bytes then skipped (take (header_length bytes) bytes) (request_length bytes - length bytes) else unfinished)
    else whole (request_length bytes)
