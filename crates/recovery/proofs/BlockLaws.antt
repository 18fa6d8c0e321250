-- Blocks of one size, each changed by itself.
use mathlib.Core.Path.{◌≡◌, sym, ap, ◌∙◌}
use mathlib.Core.List.{List, [], ◌∷◌, map, flatten}
use Prim.Native.Nat.{ℕ, zero, suc, ◌+◌, ◌*◌, ◌≤◌, ◌<◌}
use native.Mathlib.Omega.{arith}
use lib.ListN.{length, get_or, set, length-map}
use Rattle.wire.specs.Lists.{put, blocks}
use Rattle.wire.proofs.ListLaws.{map_set, map_at}
use Rattle.wire.proofs.PutLaws.{length_put}
use Rattle.wire.proofs.BlockLaws.{skip, Sized, length_flatten, length_blocks, sized_blocks, flatten_blocks, blocks_flatten, blocks_put}

module _ (f : List ℕ → List ℕ) (size : ℕ) (keeps : (b : List ℕ) → length b ≡ size → length (f b) ≡ size) where
  sized_map : (bs : List (List ℕ)) → Sized size bs → Sized size (map f bs)
  sized_map [] s = tt
  sized_map (b ∷ bs) s = (keeps b s.0, sized_map bs s.1)

  module _ (n : ℕ) where
    abbrev pub changed_blocks : List ℕ → List ℕ
    changed_blocks l = flatten (map f (blocks n size l))

    module _ (l : List ℕ) (e : length l ≡ n * size) where
      sized_changed : Sized size (map f (blocks n size l))
      sized_changed = sized_map (blocks n size l) (sized_blocks size n l e)

      many : length (map f (blocks n size l)) ≡ n
      many = length-map (blocks n size l) f ∙ length_blocks size n l

      pub length_changed : length (changed_blocks l) ≡ n * size
      length_changed = length_flatten size (map f (blocks n size l)) sized_changed ∙ ap (λ (k : ℕ). k * size) many

      pub blocks_changed : blocks n size (changed_blocks l) ≡ map f (blocks n size l)
      blocks_changed =
          ap (λ (k : ℕ). blocks k size (changed_blocks l)) (sym many) ∙ blocks_flatten size (map f (blocks n size l)) sized_changed

      -- v is put into block i, and makes v' of what it becomes
      pub changed_put : (i at : ℕ) (v v' : List ℕ) → i < n → at + length v ≤ size → length v' ≡ length v
          → (let b : List ℕ = get_or (blocks n size l) i [] in f (put b at v) ≡ put (f b) at v')
          → changed_blocks (put l (i * size + at) v) ≡ put (changed_blocks l) (i * size + at) v'
      changed_put i at v v' h fits same c =
          let bs : List (List ℕ) = blocks n size l in
          let b : List ℕ = get_or bs i [] in
          let long : length (put (changed_blocks l) (i * size + at) v') ≡ n * size
          = length_put (changed_blocks l) (i * size + at) v' (within i at v' h (omega arith)) ∙ length_changed in
          let there : get_or (map f bs) i [] ≡ f b = map_at f bs i [] [] (let x : i < length bs = omega (arith, length_blocks size n l) in x) in
          ap (λ (x : List (List ℕ)). flatten (map f x)) (blocks_put size n l i at v e h fits)
          ∙ ap flatten (map_set f bs i (put b at v) ∙ ap (set (map f bs) i) (c ∙ ap (λ (x : List ℕ). put x at v') (sym there)))
          ∙ ap (λ (x : List (List ℕ)). flatten (set x i (put (get_or x i []) at v'))) (sym blocks_changed)
          ∙ ap flatten (sym (blocks_put size n (changed_blocks l) i at v' length_changed h (omega arith)))
          ∙ flatten_blocks size n (put (changed_blocks l) (i * size + at) v') long
        where
          below : (m i : ℕ) → i < m → i * size + size ≤ m * size
          below zero i h = absurd (omega arith)
          below (suc m) zero h = omega (arith, skip size m)
          below (suc m) (suc i) h = omega (arith, skip size m, skip size i, below m i (omega arith))

          within : (i at : ℕ) (v : List ℕ) → i < n → at + length v ≤ size → (i * size + at) + length v ≤ length (changed_blocks l)
          within i at v h fits = omega (arith, below n i h, length_changed)

      -- blocks that stay
      pub changed_none : map f (blocks n size l) ≡ blocks n size l → changed_blocks l ≡ l
      changed_none c = ap flatten c ∙ flatten_blocks size n l e
