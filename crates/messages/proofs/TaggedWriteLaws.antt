-- Laws of writing in format 2: the entries of a list, and the length of what is left of the buffer.
use Prim.Native.Nat.{ℕ, zero, suc, ◌+◌, ◌*◌, ◌≤◌, ◌<◌}
use native.Mathlib.Omega.{arith}
use native.Mathlib.Numerals.{add-one}
use mathlib.Core.Path.{◌≡◌, refl, sym, ap, ◌∙◌}
use mathlib.Core.Bool.{Bool}
use mathlib.Core.List.{List, [], ◌∷◌, ◌++◌, append-nil, append_assoc, flat_map}
use lib.ListN.{length, take, get_or, length-append, drop, length-drop}
use lib.Dec.{eqb}
use Rattle.wire.specs.Numbers.{little_endian_of}
use Rattle.wire.specs.code.Wrote.{Wrote}
use Rattle.wire.proofs.TestLaws.{either}
use Rattle.wire.proofs.NumberLaws.{length_number}
use Rattle.messages.specs.Message.{number, flag, numbers}
use Rattle.messages.specs.Tagged.{value_bytes, tagged_field}
use Rattle.messages.proofs.TaggedLaws.{list_length, tagged_field_lem, tagged_none}

-- one entry more
pub entries_more : (f : ℕ → List ℕ) (list : List ℕ) (i : ℕ) → i < length list → flat_map f (take (i + 1) list) ≡ flat_map f (take i list) ++ f (get_or list i 0)
unfolding flat_map
entries_more f [] i h = absurd (omega arith)
entries_more f (x ∷ list) zero h = append-nil (f x)
entries_more f (x ∷ list) (suc i) h =
    let ih : flat_map f (take (i + 1) list) ≡ flat_map f (take i list) ++ f (get_or list i 0) = entries_more f list i (omega arith) in
    rw add-one (ap (λ (l : List ℕ). f x ++ l) (rw add-one at ih) ∙ sym (append_assoc (f x) (flat_map f (take i list)) (f (get_or list i 0))))

pub length_wrote : {s d e : List ℕ} {r : ℕ} → Wrote s d e r → length s ≤ length d → length e ≡ length d
length_wrote {s} {d} w h = ap length w.bytes ∙ (let x : length (s ++ drop (length s) d) ≡ length d = omega (arith, length-append s (drop (length s) d), length-drop (length s) d) in x)

-- ---- how long a field is at most

pub tagged_within : (n : ℕ) (s : List ℕ) → length (tagged_field n s) ≤ length s + 3
tagged_within n [] = omega (arith, ap length (tagged_none n [] refl))
tagged_within n (b ∷ s) =
    let head : List ℕ = n ∷ little_endian_of 2 (length (b ∷ s)) in
    omega (arith, ap length (tagged_field_lem n (b ∷ s) (omega arith)), length-append head (b ∷ s), length_number 2 (length (b ∷ s)))

pub tagged_length : (n : ℕ) (s : List ℕ) → 1 ≤ length s → length (tagged_field n s) ≡ length s + 3
tagged_length n s h =
    let head : List ℕ = n ∷ little_endian_of 2 (length s) in
    omega (arith, ap length (tagged_field_lem n s h), length-append head s, length_number 2 (length s))

pub tagged_least : (n : ℕ) (s : List ℕ) → length s ≤ length (tagged_field n s)
tagged_least n [] = omega arith
tagged_least n (b ∷ s) = omega (arith, tagged_length n (b ∷ s) (omega arith))

pub one_most : (b : Bool) → length (value_bytes (flag b)) ≤ 1
one_most b = either (λ (l : List ℕ). length l ≤ 1) b (λ _. omega arith) (λ _. omega arith)

pub four_most : (v : ℕ) → length (value_bytes (number v)) ≤ 4
four_most v = either (λ (l : List ℕ). length l ≤ 4) (eqb v 0) (λ _. omega arith) (λ _. omega (arith, length_number 4 v))

module _ {d e : List ℕ} {r : ℕ} (n : ℕ) where
  pub tagged_short : (s : List ℕ) → Wrote (tagged_field n s) d e r → r ≤ length s + 3
  tagged_short s w = omega (arith, w.count, tagged_within n s)

  pub tagged_number_short : (v : ℕ) → Wrote (tagged_field n (value_bytes (number v))) d e r → r ≤ 7
  tagged_number_short v w = omega (arith, four_most v, tagged_short (value_bytes (number v)) w)

  pub tagged_flag_short : (b : Bool) → Wrote (tagged_field n (value_bytes (flag b))) d e r → r ≤ 4
  tagged_flag_short b w =
      let one : length (value_bytes (flag b)) ≤ 1 = either (λ (l : List ℕ). length l ≤ 1) b (λ _. omega arith) (λ _. omega arith) in
      omega (arith, tagged_short (value_bytes (flag b)) w)

  pub tagged_list_short : (list : List ℕ) → Wrote (tagged_field n (value_bytes (numbers list))) d e r → r ≤ 4 * length list + 3
  tagged_list_short list w = omega (arith, tagged_short (value_bytes (numbers list)) w, list_length list)
