use Rattle.std.proofs.Common.{◌≡◌, ◌^◌, ◌<◌, take}
use Rattle.rsa_key.specs.Octets.{os2ip}
use Rattle.rsa_key.proofs.key.read_short.Given as goal

abbrev pub invariant-loop-b : goal.invariant-loop-b
invariant-loop-b l = (l.x ≡ os2ip (take l.b-index l.b-items)) × (l.x < 256 ^ l.b-index)
