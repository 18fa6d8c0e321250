-- Laws of what is written: how long it is, and what a writer of a varint has done after k bytes.
use Prim.Native.Nat.{ℕ, zero, suc, ◌+◌, ◌-◌, ◌*◌, ◌/◌, ◌%◌, ◌^◌, ◌≤◌, ◌<◌}
use native.Mathlib.Nat.{pow-suc}
use native.Mathlib.Numerals.{add-one}
use native.Mathlib.Omega.{arith}
use mathlib.Core.Path.{◌≡◌, refl, ap, sym, ◌∙◌}
use mathlib.Core.List.{List, [], ◌∷◌, ◌++◌}
use lib.ListN.{length, take, drop, set, length-append, length-set}
use lib.Seq.{take-suc-set, drop-set-lt, drop-drop, append_snoc, set_split, length-take-le}
use lib.Dec.{ltb}
use borrow.Author.Tests.{lt-ltb, le-ltb, eq-eqb, ne_eqb}
use Rattle.wire.specs.code.Wrote.{Wrote}
use Rattle.wire.proofs.BufferLaws.{wrote_none, wrote_on}
use Rattle.wire.proofs.TestLaws.{either}
use Rattle.protobuf.specs.Written.{varint_within, varint, number_field, bytes_field}

-- ---- a varint's bytes, by its first
pub ends : (more n : ℕ) → n < 128 → varint_within more n ≡ n ∷ []
unfolding varint_within
ends zero n h = refl
ends (suc more) n h = simp (lt-ltb n 128 h)

pub goes_on : (more n : ℕ) → 128 ≤ n → varint_within (suc more) n ≡ (n % 128 + 128) ∷ varint_within more (n / 128)
unfolding varint_within
goes_on more n h = simp (le-ltb n 128 h)

-- ---- its length
short_within : (more n : ℕ) → length (varint_within more n) ≤ suc more
unfolding varint_within
short_within zero n = omega arith
short_within (suc more) n =
    let one : 1 ≤ suc (suc more) = omega arith in
    let next : suc (length (varint_within more (n / 128))) ≤ suc (suc more) = omega (arith, short_within more (n / 128)) in
    either (λ (l : List ℕ). length l ≤ suc (suc more)) (ltb n 128) (λ _. one) (λ _. next)

pub varint_short : (n : ℕ) → length (varint n) ≤ 10
unfolding varint
varint_short n = short_within 9 n

pub wrote_short : (n : ℕ) {r : ℕ} {d e : List ℕ} → Wrote (varint n) d e r → r ≤ 10
wrote_short n w = omega (arith, w.count, varint_short n)

-- ---- what is left after k bytes: as many bytes behind the next one as `left k` are enough for a number that is `Small`
abbrev pub left : ℕ → ℕ
left k = 9 - k

abbrev pub Small : (k rest : ℕ) → Type 0
Small k rest = rest < 2 * 128 ^ left k

module _ (k rest : ℕ) (s : Small k rest) (h : 128 ≤ rest) where
  has_room : k < 9
  has_room = go (left k) refl s
    where
      go : (more : ℕ) → left k ≡ more → rest < 2 * 128 ^ more → k < 9
      go zero e l = absurd (omega arith)
      go (suc more) e l = omega arith

  one_less : left k ≡ suc (left (k + 1))
  one_less = let r = has_room in omega arith

  next_small : Small (k + 1) (rest / 128)
  next_small = let l : rest < 2 * 128 ^ suc (left (k + 1)) = rw one_less at s in omega (arith, pow-suc 128 (left (k + 1)))

  next_byte : varint_within (left k) rest ≡ (rest % 128 + 128) ∷ varint_within (left (k + 1)) (rest / 128)
  next_byte = rw one_less (goes_on (left (k + 1)) rest h)

-- ---- k bytes of the varint of n are counted
pub record Counted (n rest k : ℕ) : Type 0 where
  pub within : k ≤ 9
  pub small : Small k rest
  pub whole : k + length (varint_within (left k) rest) ≡ length (varint n)

pub counted_none : (n : ℕ) → n < 2 ^ 64 → Counted n n 0
unfolding varint
counted_none n h = record { within = omega arith; small = omega arith; whole = omega arith }

pub counted_more : {n rest k : ℕ} → Counted n rest k → 128 ≤ rest → Counted n (rest / 128) (k + 1)
counted_more {n} {rest} {k} c h = record {
  within = omega (arith, has_room k rest c.small h);
  small = next_small k rest c.small h;
  whole = omega (arith, c.whole, ap length (next_byte k rest c.small h));
}

pub counted_all : {n rest k : ℕ} → Counted n rest k → rest < 128 → k + 1 ≡ length (varint n)
counted_all {n} {rest} {k} c h = omega (arith, c.whole, ap length (ends (left k) rest h))

-- ---- k bytes of the varint of n stand at the front of e, which was d
pub record Begun (n : ℕ) (d e : List ℕ) (rest k : ℕ) : Type 0 where
  pub within : k ≤ 9
  pub small : Small k rest
  pub whole : take k e ++ varint_within (left k) rest ≡ varint n
  pub behind : drop k e ≡ drop k d
  pub long : length e ≡ length d

pub begun_none : (n : ℕ) (d : List ℕ) → n < 2 ^ 64 → Begun n d d n 0
unfolding varint
begun_none n d h = record { within = omega arith; small = omega arith; whole = refl; behind = refl; long = refl }

behind_next : (d e : List ℕ) (k : ℕ) → drop k e ≡ drop k d → drop (k + 1) e ≡ drop (k + 1) d
behind_next d e k h = sym (drop-drop 1 k e) ∙ ap (drop 1) h ∙ drop-drop 1 k d

pub begun_more : {n rest k : ℕ} {d e : List ℕ} → Begun n d e rest k → 10 ≤ length d → 128 ≤ rest → Begun n d (set e k (rest % 128 + 128)) (rest / 128) (k + 1)
begun_more {n} {rest} {k} {d} {e} b r h =
    let byte : ℕ = rest % 128 + 128 in
    let in_e : k < length e = omega arith in
    let front : take (k + 1) (set e k byte) ≡ take k e ++ (byte ∷ []) = rw add-one (take-suc-set e k byte in_e) in
    record {
      within = omega (arith, has_room k rest b.small h);
      small = next_small k rest b.small h;
      whole = rw (front, append_snoc) (rw (next_byte k rest b.small h) at b.whole);
      behind = drop-set-lt (k + 1) e k byte (omega arith) ∙ behind_next d e k b.behind;
      long = length-set e k byte ∙ b.long;
    }

pub begun_all : {n rest k : ℕ} {d e : List ℕ} → Begun n d e rest k → 10 ≤ length d → rest < 128 → Wrote (varint n) d (set e k rest) (k + 1)
begun_all {n} {rest} {k} {d} {e} b r h =
    let in_e : k < length e = omega arith in
    let front : take k e ++ (rest ∷ []) ≡ varint n = rw (ends (left k) rest h) at b.whole in
    let count : k + 1 ≡ length (varint n) = omega (arith, length-append (take k e) (rest ∷ []), length-take-le k e (omega arith), ap length front) in
    record {
      count = count;
      bytes =
          set_split e k rest in_e
          ∙ sym (append_snoc (take k e) rest (drop (suc k) e))
          ∙ ap (λ (l : List ℕ). l ++ drop (suc k) e) front
          ∙ ap (λ (l : List ℕ). varint n ++ l) (rw add-one at (behind_next d e k b.behind))
          ∙ ap (λ (m : ℕ). varint n ++ drop m d) (rw add-one at count);
    }

-- ---- fields, and how long they are
pub number_field_none : (number value : ℕ) → value ≡ 0 → number_field number value ≡ []
unfolding number_field
number_field_none number value e = simp (eq-eqb value 0 e)

pub number_field_lem : (number value : ℕ) → (value ≡ 0 → ⊥) → number_field number value ≡ varint (8 * number) ++ varint value
unfolding number_field
number_field_lem number value e = simp (ne_eqb value 0 e)

pub bytes_field_none : (number : ℕ) (bytes : List ℕ) → length bytes < 1 → bytes_field number bytes ≡ []
unfolding bytes_field
bytes_field_none number [] h = refl
bytes_field_none number (b ∷ bytes) h = absurd (omega arith)

pub bytes_field_lem : (number : ℕ) (bytes : List ℕ) → 1 ≤ length bytes → bytes_field number bytes ≡ varint (8 * number + 2) ++ (varint (length bytes) ++ bytes)
unfolding bytes_field
bytes_field_lem number [] h = absurd (omega arith)
bytes_field_lem number (b ∷ bytes) h = refl

pub bytes-field-length :
    (number : ℕ) (bytes : List ℕ) → 1 ≤ length bytes
    → length (bytes_field number bytes) ≡ length (varint (8 * number + 2)) + length (varint (length bytes)) + length bytes
bytes-field-length number bytes h =
    let tag : List ℕ = varint (8 * number + 2) in
    let size : List ℕ = varint (length bytes) in
    omega (arith, ap length (bytes_field_lem number bytes h), length-append tag (size ++ bytes), length-append size bytes)

pub ruleset counts = (counted_none, counted_all)

pub ruleset writes = (wrote_none, wrote_on, wrote_short, number_field_none, number_field_lem, bytes_field_none, bytes_field_lem, bytes-field-length)
