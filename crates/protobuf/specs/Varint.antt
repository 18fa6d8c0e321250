-- Varints of the Protocol Buffers encoding: seven bits a byte, the lowest first ("Operations and their fields", Reading).
use Rattle.std.specs.Prelude.{ℕ, zero, suc, ◌+◌, ◌-◌, ◌*◌, List, length, get_or, ltb, leb, Option, Some, None}
use Rattle.wire.specs.Choice.{when◌then◌else◌}

-- `low` seven bits below what the following bytes give
abbrev pub below : ℕ → Option (ℕ × ℕ) → Option (ℕ × ℕ)
below low (Some (v, next)) = Some (low + 128 * v, next)
below low None = None

-- the varint at `at`, with at most `more` bytes behind its first; where no more may follow, a byte above 1 is not read
unfoldable pub varint_of : (more : ℕ) → List ℕ → (at : ℕ) → Option (ℕ × ℕ)
varint_of zero s at =
    when ltb at (length s) then (when leb (get_or s at 0) 1 then Some (get_or s at 0, at + 1) else None) else None
varint_of (suc more) s at =
    when ltb at (length s) then
    (when ltb (get_or s at 0) 128 then Some (get_or s at 0, at + 1) else below (get_or s at 0 - 128) (varint_of more s (at + 1)))
    else None

-- up to ten bytes; longer-than-needed forms are read
abbrev pub varint_at : List ℕ → ℕ → Option (ℕ × ℕ)
varint_at s at = varint_of 9 s at
