-- A body read field by field: the message, or where the tag of its first unreadable field starts ("Operations and their
-- fields", Reading).
use Rattle.std.specs.Prelude.{ℕ, List, length, Option, Some, None, Result, Ok, Err}
use Rattle.wire.specs.Scan.{Turn, on, out, scan_at}
use Rattle.fields.specs.code.Fields.{all_absent}
use Rattle.protobuf.specs.code.Message.{step_at}
use Rattle.fields.specs.declared.Schema.{Schema}
use Rattle.fields.specs.declared.Values.{Values}

abbrev pub turn_of : ℕ → Option (Values × ℕ) → Turn Values (Result Values ℕ)
turn_of at (Some (m, next)) = on m next
turn_of at None = out (Err at)

abbrev pub turn_at : Schema → List ℕ → ℕ → Values → Turn Values (Result Values ℕ)
turn_at k s at m = turn_of at (step_at k s at m)

-- the body from `at` on, on top of the message `m`
abbrev pub body_at : Schema → List ℕ → ℕ → Values → Result Values ℕ
body_at k s at m = scan_at (turn_at k s) Ok (length s) at m

abbrev pub body_of : Schema → List ℕ → Result Values ℕ
body_of k s = body_at k s 0 all_absent
