use Rattle.std.proofs.Common.{◌≡◌, ◌++◌, length, drop, replicate}
use Rattle.wire.proofs.bytes.clear.Given as goal

abbrev pub invariant-loop-byte : goal.invariant-loop-byte
invariant-loop-byte l =
    (l.byte-items ≡ replicate l.byte-index 0 ++ drop l.byte-index l.initial.byte-items) × (length l.byte-items ≡ length l.initial.byte-items)
