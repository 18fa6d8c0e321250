use Rattle.std.proofs.Common.{◌≡◌, Bool, true, false, refl}
use native.Mathlib.Omega.{arith}
use mir.Val.{bool_byte}
use Rattle.wire.specs.Choice.{when◌then◌else◌}
use Rattle.messages.proofs.WriteLaws.{number_short}
use Rattle.messages.proofs.TaggedWriteLaws.{tagged_flag_short}
use Rattle.messages.proofs.format.write_flag.Goals as goal

one_if : (b : Bool) → bool_byte b ≡ (when b then 1 else 0)
one_if true = refl
one_if false = refl

pub returns-in-Protobuf : goal.returns-in-Protobuf
returns-in-Protobuf c =
    let w = rw (c.from.ensures, c.from-in-Protobuf.ensures, one_if c.args.value) at c.write_number_field.ensures in
    rw c.in-Protobuf.is (w, number_short _ _ w)

pub returns-in-Tagged : goal.returns-in-Tagged
returns-in-Tagged c = let w = c.write_tagged_flag.ensures in rw c.in-Tagged.is (w, omega (arith, tagged_flag_short _ c.args.value w))
