-- What bytes written into a connection's memory make of it.
use mathlib.Core.Path.{◌≡◌, sym, ap, ◌∙◌}
use Prim.Native.Nat.{ℕ, ◌+◌, ◌-◌, ◌≤◌}
use mathlib.Core.List.{List, ◌∷◌, ◌++◌, append_assoc, append-nil}
use native.Mathlib.Omega.{arith}
use borrow.Rule.Slice.PartMut.{put_mid}
use lib.ListN.{length, take, drop, replicate, length-append, length-take, drop_of_length-le}
use lib.Seq.{drop_at, drop-append-add, drop-append_seam}
use Rattle.wire.proofs.ListLaws.{drop_zeros}
use Rattle.wire.specs.Lists.{padded, over}
use Rattle.wire.specs.Numbers.{little_endian_of}
use Rattle.wire.proofs.BufferLaws.{onward}
use Rattle.wire.proofs.NumberLaws.{length_number}
use Rattle.connection.specs.Connection.{held_most, laid_out}

-- ---- the number

-- a number written over the eight bytes of another
pub number_put : (kind before n : ℕ) (held memory part : List ℕ) → memory ≡ laid_out kind before held
    → part ≡ over (little_endian_of 8 n) (take 8 (drop 1 memory)) → put_mid 1 8 memory part ≡ laid_out kind n held
number_put kind before n held memory part e p =
    let few : length (take 8 (drop 1 memory)) ≤ length (little_endian_of 8 n) = omega (arith, length-take 8 (drop 1 memory), length_number 8 n) in
    let all : part ≡ little_endian_of 8 n
    = p ∙ ap (λ (l : List ℕ). little_endian_of 8 n ++ l) (drop_of_length-le (take 8 (drop 1 memory)) few) ∙ append-nil (little_endian_of 8 n) in
    rw (all, e)
    (ap (λ (l : List ℕ). kind ∷ (little_endian_of 8 n ++ l)) (drop_at (little_endian_of 8 before) (padded held_most held) 8 (length_number 8 before)))

-- ---- bytes behind those that are held

module _ (kind n : ℕ) (held bytes : List ℕ) (fits : length held + length bytes ≤ held_most) where
  front : List ℕ
  front = kind ∷ (little_endian_of 8 n ++ held)

  zeros : List ℕ
  zeros = replicate (held_most - length held) 0

  front_size : length front ≡ 9 + length held
  unfolding front
  front_size = omega (arith, length-append (little_endian_of 8 n) held, length_number 8 n)

  front_laid : laid_out kind n held ≡ front ++ zeros
  unfolding front zeros
  front_laid = ap (λ (l : List ℕ). kind ∷ l) (sym (append_assoc (little_endian_of 8 n) held zeros))

  -- so many zeros stay behind the bytes
  zeros_left : drop (length (front ++ bytes)) (front ++ zeros) ≡ replicate (held_most - length (held ++ bytes)) 0
  unfolding zeros
  zeros_left =
      let k : held_most - length held - length bytes ≡ held_most - length (held ++ bytes) = omega (arith, length-append held bytes) in
      rw (length-append front bytes) (drop-append-add front zeros (length bytes) ∙ drop_zeros (length bytes) (held_most - length held) ∙ rw k)

  regrouped : (rest : List ℕ) → front ++ bytes ++ rest ≡ kind ∷ (little_endian_of 8 n ++ (held ++ bytes ++ rest))
  unfolding front
  regrouped rest =
      ap (λ (l : List ℕ). kind ∷ l) (append_assoc (little_endian_of 8 n ++ held) bytes rest ∙ append_assoc (little_endian_of 8 n) held (bytes ++ rest)
      ∙ ap (λ (l : List ℕ). little_endian_of 8 n ++ l) (sym (append_assoc held bytes rest)))

  bytes_over : over (front ++ bytes) (laid_out kind n held) ≡ laid_out kind n (held ++ bytes)
  bytes_over = rw (front_laid, zeros_left) (regrouped (replicate (held_most - length (held ++ bytes)) 0))

  pub bytes_put : (memory part : List ℕ) (at : ℕ) → memory ≡ laid_out kind n held → at ≡ 9 + length held
      → part ≡ over bytes (take (length memory - at) (drop at memory)) → put_mid at (length memory - at) memory part ≡ laid_out kind n (held ++ bytes)
  bytes_put memory part at e a p =
      let whole : memory ≡ over front (laid_out kind n held)
      = e ∙ front_laid ∙ sym (ap (λ (l : List ℕ). front ++ l) (ap (drop (length front)) front_laid ∙ drop-append_seam front zeros)) in
      onward front bytes (laid_out kind n held) memory part at (a ∙ sym front_size) whole p ∙ bytes_over
