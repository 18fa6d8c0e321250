use Rattle.std.proofs.Common.{◌≡◌, drop}
use Rattle.crc.specs.Crc.{register_after}
use Rattle.crc.proofs.take_bytes.Given as goal

abbrev pub invariant-loop-byte : goal.invariant-loop-byte
invariant-loop-byte l = register_after l.kept (drop l.byte-index l.bytes) ≡ register_after l.register l.bytes
