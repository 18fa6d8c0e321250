use native.Mathlib.Omega.{arith}
use Rattle.wire.proofs.BufferLaws.{wrote_on}
use Rattle.messages.proofs.WriteLaws.{key_numbers_lem}
use Rattle.messages.proofs.write.write_key_numbers.Goals as goal

pub returns : goal.returns
returns c =
    rw key_numbers_lem (
      wrote_on (wrote_on c.write_number-first.ensures.0 c.write_flag-second.ensures.0) c.write_flag-third.ensures.0,
      omega (arith, c.write_number-first.ensures.1, c.write_flag-second.ensures.1, c.write_flag-third.ensures.1),
    )
