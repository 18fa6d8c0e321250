use mathlib.Core.Path.{◌≡◌, refl}
use mathlib.Core.Bool.{Bool, true, false}
use mir.Val.{bool_byte}
use Rattle.wire.specs.Numbers.{little_endian_of}
use Rattle.registry.specs.Slots.{flag}
use Rattle.journal.specs.code.Written.{import_head}
use Rattle.journal.proofs.write.import_head.Goals as goal

byte_of : (t : Bool) → bool_byte t ≡ flag t
byte_of true = refl
byte_of false = refl

pub returns : goal.returns
unfolding little_endian_of import_head
returns c =
    rw (c.from.ensures, c.from-2.ensures, byte_of c.args.exported, byte_of c.args.verified, c.bytes_of_u16-b.ensures, c.bytes_of_u16-n.ensures)
