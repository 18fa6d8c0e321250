-- A slice's chunks of one size are its blocks.
use Rattle.std.proofs.Common.{◌≡◌, refl, sym, ap, ◌∙◌, ℕ, zero, suc, ◌+◌, ◌*◌, ◌<◌, ◌≤◌, List, [], ◌∷◌, ◌++◌, length, take, drop, Bool, ◌&&◌, arith}
use Rattle.std.specs.Iterator.{AlwaysYields}
use Rattle.std.specs.List.{list_all}
use Rattle.std.specs.Slice.Iter.{chunks_exact_rest, chunks_exact_size, chunks_exact_steps}
use Rattle.std.proofs.lemmas.Iterator.{YieldsList}
use Rattle.std.proofs.lemmas.List.{take-take, drop-take}
use native.Mathlib.Nat.{zero-mul}
use lib.ListN.{length-append, length-drop}
use lib.Seq.{take_at, drop_at}
use Rattle.wire.specs.Lists.{all, blocks}
use Rattle.wire.proofs.BlockLaws.{skip}

chunks_run : (n size : ℕ) (s : List ℕ) (it : _) → 0 < size → length s ≡ n * size → chunks_exact_rest it ≡ s → chunks_exact_size it ≡ size
    → AlwaysYields chunks_exact_steps (λ x. x.now) it (blocks n size s)
chunks_run zero size s it h e r z = λ x j g.
    let cut : length (chunks_exact_rest it) ≡ length x.now + length (chunks_exact_rest j) = ap length g.1.0 ∙ length-append x.now (chunks_exact_rest j) in
    omega (arith, zero-mul size, ap length r, cut, g.1.1)
chunks_run (suc n) size s it h e r z = (
  λ j g. omega (arith, skip size n, ap length r, g.1.0),
  λ x j g.
      let cut : s ≡ x.now ++ chunks_exact_rest j = sym r ∙ g.1.0 in
      let long : length x.now ≡ size = g.1.1 ∙ z in
      let first : x.now ≡ take size s = sym (take_at x.now (chunks_exact_rest j) size long) ∙ ap (take size) (sym cut) in
      let rest : chunks_exact_rest j ≡ drop size s = sym (drop_at x.now (chunks_exact_rest j) size long) ∙ ap (drop size) (sym cut) in
      (first, chunks_run n size (drop size s) j h (omega (arith, length-drop size s, skip size n)) rest (g.0 ∙ z)),
)

pub chunks_yield : (n size : ℕ) (s : List ℕ) {it : _} → 0 < size → length s ≡ n * size → chunks_exact_rest it ≡ s → chunks_exact_size it ≡ size
    → YieldsList chunks_exact_steps (λ x. x.now) it (blocks n size s)
chunks_yield n size s {it} h e r z = record { runs = chunks_run n size s it h e r z }

-- the first block, and those behind it
pub blocks_step : (n size : ℕ) (s : List ℕ) → 0 < size → length s ≡ n * size → size ≤ length s
    → (m : ℕ) × (length (drop size s) ≡ m * size) × (blocks n size s ≡ take size s ∷ blocks m size (drop size s))
blocks_step zero size s h e g = absurd (omega (arith, zero-mul size))
blocks_step (suc n) size s h e g = (n, omega (arith, length-drop size s, skip size n), refl)

pub blocks_none : (n size : ℕ) (s : List ℕ) → length s ≡ n * size → length s < size → blocks n size s ≡ []
blocks_none zero size s e g = refl
blocks_none (suc n) size s e g = absurd (omega (arith, skip size n))

-- the blocks of the part that they take
pub blocks_lent : {A : Type 0} (n size : ℕ) (s : List A) → blocks n size (take (n * size) s) ≡ blocks n size s
blocks_lent zero size s = refl
blocks_lent {A} (suc n) size s =
    let first : take size (take (suc n * size) s) ≡ take size s = take-take size (suc n * size) s (omega (arith, skip size n)) in
    let rest : drop size (take (suc n * size) s) ≡ take (n * size) (drop size s) = ap (λ (k : ℕ). drop size (take k s)) (skip size n) ∙ drop-take size (n * size) s in
    ap (λ (b : List A). b ∷ blocks n size (drop size (take (suc n * size) s))) first
    ∙ ap (λ (l : List A). take size s ∷ blocks n size l) rest
    ∙ ap (λ (bs : List (List A)). take size s ∷ bs) (blocks_lent n size (drop size s))

-- std's test of each element is this repository's
pub all_listed : {A : Type 0} (p : A → Bool) (l : List A) → list_all p l ≡ all p l
all_listed p [] = refl
all_listed p (x ∷ l) = ap (λ (t : Bool). p x && t) (all_listed p l)
