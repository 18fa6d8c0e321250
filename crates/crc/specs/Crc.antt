-- CRC-32 by the bitwise rule (document 02, "Surviving a power cut"): reflected polynomial, register begun at all ones and inverted at the end.
use Rattle.std.specs.Prelude.{ℕ, zero, suc, ◌/◌, ◌%◌, List, [], ◌∷◌, eqb}
use Rattle.std.specs.Int.Bits.{bit_xor}
use Rattle.wire.specs.Choice.{when◌then◌else◌}

abbrev pub polynomial : ℕ
polynomial = 0xEDB88320

abbrev pub all_ones : ℕ
all_ones = 0xFFFFFFFF

-- one bit: the register moves down by one, and where a 1 falls out the polynomial is added
unfoldable pub shift_bit : (register : ℕ) → ℕ
shift_bit register = when eqb (register % 2) 0 then register / 2 else bit_xor (register / 2) polynomial

unfoldable pub shift_bits : (n register : ℕ) → ℕ
shift_bits zero register = register
shift_bits (suc n) register = shift_bits n (shift_bit register)

-- one byte: it is added at the register's low end, and its eight bits are shifted out
unfoldable pub shift_byte : (register byte : ℕ) → ℕ
shift_byte register byte = shift_bits 8 (bit_xor register byte)

unfoldable pub register_after : (register : ℕ) (bytes : List ℕ) → ℕ
register_after register [] = register
register_after register (byte ∷ bytes) = register_after (shift_byte register byte) bytes

unfoldable pub crc32 : (bytes : List ℕ) → ℕ
crc32 bytes = bit_xor (register_after all_ones bytes) all_ones

-- the register after bytes and, behind them, their own CRC, the lowest byte first
abbrev pub residue : ℕ
residue = 0xDEBB20E3

-- ---- the table: what the eight bits of each byte make of a register that is otherwise zero

unfoldable pub entries_from : (n first : ℕ) → List ℕ
entries_from zero first = []
entries_from (suc n) first = shift_bits 8 first ∷ entries_from n (suc first)

abbrev pub table_entries : List ℕ
table_entries = entries_from 256 0
