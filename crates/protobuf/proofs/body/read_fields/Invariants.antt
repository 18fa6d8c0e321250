use Prim.Native.Nat.{◌-◌}
use mathlib.Core.Path.{◌≡◌}
use lib.ListN.{length}
use Rattle.fields.specs.code.Fields.{all_absent}
use Rattle.protobuf.specs.code.Body.{body_at}
use Rattle.protobuf.proofs.body.read_fields.Given as goal

abbrev pub invariant-loop-at : goal.invariant-loop-at
invariant-loop-at l = body_at l.schema l.body l.at l.values ≡ body_at l.schema l.body l.start all_absent

abbrev pub decreases-loop-at : goal.decreases-loop-at
decreases-loop-at l = length l.body - l.at
