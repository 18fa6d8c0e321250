-- Each entry of the table, from the rule of all.
use mathlib.Core.Path.{◌≡◌, sym, ap, ◌∙◌}
use mathlib.Core.List.{List}
use Prim.Native.Nat.{ℕ, zero, suc, ◌+◌, ◌/◌, ◌%◌, ◌<◌}
use native.Mathlib.Nat.{zero-add}
use native.Mathlib.Omega.{arith}
use lib.Bits.{bit_xor}
use lib.ListN.{get_or}
use Rattle.crc.proofs.CrcLaws.{byte_by_table}
use Rattle.crc.specs.Crc.{shift_bits, shift_byte, entries_from, table_entries}

entry : (n first k : ℕ) → k < n → get_or (entries_from n first) k 0 ≡ shift_bits 8 (first + k)
unfolding entries_from
entry zero first k h = absurd (omega arith)
entry (suc n) first zero h = ap (shift_bits 8) (let e : first ≡ first + 0 = omega arith in e)
entry (suc n) first (suc k) h = entry n (suc first) k (omega arith) ∙ ap (shift_bits 8) (let e : suc first + k ≡ first + suc k = omega arith in e)

pub table_entry : (k : ℕ) → k < 256 → get_or table_entries k 0 ≡ shift_bits 8 k
table_entry k h = entry 256 0 k h ∙ ap (shift_bits 8) (zero-add k)

-- the register after a byte, by the table
pub by_table : (entries : List ℕ) (register byte : ℕ) → entries ≡ table_entries → byte < 256
    → bit_xor (register / 256) (get_or entries (bit_xor register byte % 256) 0) ≡ shift_byte register byte
by_table entries r b e h =
    let low : ℕ = bit_xor r b % 256 in
    ap (λ (l : List ℕ). bit_xor (r / 256) (get_or l low 0)) e
    ∙ ap (bit_xor (r / 256)) (table_entry low (omega arith))
    ∙ sym (byte_by_table r b h)
