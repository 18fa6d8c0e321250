-- Laws of a number's decimal digits: what is left of them after some were found from the last on.
use mathlib.Core.Path.{◌≡◌, refl, sym, ap, ◌∙◌}
use mathlib.Core.Bool.{Bool, true, false}
use mathlib.Core.List.{List, [], ◌∷◌}
use Prim.Native.Nat.{ℕ, zero, suc, ◌+◌, ◌-◌, ◌*◌, ◌/◌, ◌%◌, ◌^◌, ◌≤◌, ◌<◌}
use native.Mathlib.Nat.{pow-suc}
use native.Mathlib.Omega.{arith}
use borrow.Author.Tests.{lt-ltb, le-ltb, ltb-true, ltb-false}
use lib.ListN.{length, take, drop, set, length-set, length-drop}
use lib.Seq.{drop-cons, drop-length, drop-set-lt, get_or-set_same, take_all}
use lib.Dec.{ltb}
use Rattle.billing.specs.Bill.{digits_before, decimal}
use Rattle.billing.specs.Outcome.{digits_most}

-- ---- the digits, by the last

last_digit : (fuel n : ℕ) (tail : List ℕ) → n < 10 → digits_before (suc fuel) n tail ≡ (0x30 + n) ∷ tail
unfolding digits_before
last_digit fuel n tail h = simp (lt-ltb n 10 h)

more_digits : (fuel n : ℕ) (tail : List ℕ) → 10 ≤ n → digits_before (suc fuel) n tail ≡ digits_before fuel (n / 10) ((0x30 + n % 10) ∷ tail)
unfolding digits_before
more_digits fuel n tail h = simp (le-ltb n 10 h)

-- more fuel than digits changes nothing
fuel_enough : (f g n : ℕ) (tail : List ℕ) → n < f → n < g → digits_before f n tail ≡ digits_before g n tail
fuel_enough zero g n tail h k = absurd (omega arith)
fuel_enough (suc f) zero n tail h k = absurd (omega arith)
fuel_enough (suc f) (suc g) n tail h k = go (ltb n 10) refl (λ l. fuel_enough f g (n / 10) ((0x30 + n % 10) ∷ tail) (omega arith) (omega arith))
  where
    go : (t : Bool) → ltb n 10 ≡ t
        → (10 ≤ n → digits_before f (n / 10) ((0x30 + n % 10) ∷ tail) ≡ digits_before g (n / 10) ((0x30 + n % 10) ∷ tail))
        → digits_before (suc f) n tail ≡ digits_before (suc g) n tail
    go true e next =
        let s : n < 10 = ltb-true n 10 e in
        last_digit f n tail s ∙ sym (last_digit g n tail s)
    go false e next =
        let s : 10 ≤ n = ltb-false n 10 e in
        more_digits f n tail s ∙ next s ∙ sym (more_digits g n tail s)

-- ---- the digits of n stand in `digits` from `from` on, but those of `rest`
pub record Found (n : ℕ) (digits : List ℕ) (from rest : ℕ) : Type 0 where
  pub within : from ≤ digits_most
  pub room : 1 ≤ from
  pub small : rest < 10 ^ from
  pub long : length digits ≡ digits_most
  pub whole : digits_before (suc rest) rest (drop from digits) ≡ decimal n

pub found_none : (n : ℕ) (digits : List ℕ) → n < 2 ^ 64 → length digits ≡ digits_most → Found n digits digits_most n
unfolding decimal
found_none n digits h l =
    let none : drop digits_most digits ≡ [] = ap (λ (k : ℕ). drop k digits) (sym l) ∙ drop-length digits in
    record {
      within = omega arith;
      room = omega arith;
      small = omega arith;
      long = l;
      whole = ap (digits_before (suc n) n) none;
    }

-- one digit more in front of those found
drop_set : (l : List ℕ) (i : ℕ) (a : ℕ) → i < length l → drop i (set l i a) ≡ a ∷ drop (suc i) l
drop_set l i a h =
    drop-cons (set l i a) i 0 (rw (length-set l i a) h)
    ∙ ap (λ (x : ℕ). x ∷ drop (suc i) (set l i a)) (get_or-set_same l i a 0 h)
    ∙ ap (λ (r : List ℕ). a ∷ r) (drop-set-lt (suc i) l i a (omega arith))

module _ {n : ℕ} {digits : List ℕ} {from rest : ℕ} (f : Found n digits from rest) where
  one_more : from ≡ suc (from - 1)
  one_more = omega (arith, f.room)

  front : (a : ℕ) → drop (from - 1) (set digits (from - 1) a) ≡ a ∷ drop from digits
  front a =
      drop_set digits (from - 1) a (omega (arith, f.room, f.within, f.long))
      ∙ ap (λ (k : ℕ). a ∷ drop k digits) (sym one_more)

  smaller : rest < 10 * 10 ^ (from - 1)
  smaller = go (from - 1) one_more
    where
      go : (m : ℕ) → from ≡ suc m → rest < 10 * 10 ^ m
      go m e = let s : rest < 10 ^ suc m = rw e at f.small in omega (arith, pow-suc 10 m)

  found_room : 10 ≤ rest → 2 ≤ from
  found_room h = go (from - 1) refl
    where
      go : (m : ℕ) → from - 1 ≡ m → 2 ≤ from
      go zero e = let s : rest < 10 * 10 ^ 0 = rw e at smaller in absurd (omega arith)
      go (suc m) e = omega arith

  pub found_more : 10 ≤ rest → Found n (set digits (from - 1) (0x30 + rest % 10)) (from - 1) (rest / 10)
  found_more h =
      let digit : ℕ = 0x30 + rest % 10 in
      record {
        within = omega (arith, f.within);
        room = omega (arith, found_room h);
        small = omega (arith, smaller);
        long = length-set digits (from - 1) digit ∙ f.long;
        whole =
            ap (digits_before (suc (rest / 10)) (rest / 10)) (front digit)
            ∙ fuel_enough (suc (rest / 10)) rest (rest / 10) (digit ∷ drop from digits) (omega arith) (omega arith)
            ∙ sym (more_digits rest rest (drop from digits) h)
            ∙ f.whole;
      }

  -- the last digit found is the first; the digits as the part of the array that is lent
  pub found_all : rest < 10 → take (digits_most - (from - 1)) (drop (from - 1) (set digits (from - 1) (0x30 + rest))) ≡ decimal n
  found_all h =
      let found : List ℕ = set digits (from - 1) (0x30 + rest) in
      take_all (digits_most - (from - 1)) (drop (from - 1) found) (omega (arith, length-drop (from - 1) found, length-set digits (from - 1) (0x30 + rest), f.long))
      ∙ front (0x30 + rest)
      ∙ sym (last_digit rest rest (drop from digits) h)
      ∙ f.whole

  pub found_short : rest < 10 → length (decimal n) ≤ digits_most
  found_short h =
      let e : length (decimal n) ≡ suc (length (drop from digits))
      = sym (ap length f.whole) ∙ ap length (last_digit rest rest (drop from digits) h) in
      omega (arith, length-drop from digits, f.long, f.room)
