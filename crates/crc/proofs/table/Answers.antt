use mathlib.Core.Path.{refl}
use Rattle.crc.specs.Crc.{shift_bit, shift_bits, entries_from}
use Rattle.crc.proofs.table.Goals as goal

pub returns : goal.returns
unfolding entries_from shift_bits shift_bit
returns c = refl
