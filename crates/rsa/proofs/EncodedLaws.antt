-- The parts of an encoded message, put together.
use Rattle.std.proofs.Common.{◌≡◌, ℕ, suc, ◌+◌, ◌-◌, ◌≤◌, List, [], ◌∷◌, ◌++◌, length, drop, set, replicate, sym, ap, ◌∙◌, append_assoc, arith, length-append, length-drop, take_at, drop_at, ◌<◌}
use Rattle.std.proofs.lemmas.List.{length-replicate, replicate-append-replicate, append-nil}
use Rattle.std.proofs.Math.Seq.{set-append_seam}
use Rattle.bignum.proofs.Values.{past}
use borrow.Rule.Slice.PartMut.{put_mid}
use Rattle.rsa.specs.Signature.{encoded, digest_prefix}
use lib.ListN.{get_or, get_or-append, get_or-replicate}
use lib.Seq.{get_or_at, get_or-append-add}

-- a part is written behind what stands
put_at : (P T v : List ℕ) (at k : ℕ) → length P ≡ at → put_mid at k (P ++ T) v ≡ (P ++ v) ++ drop k T
put_at P T v at k e = rw (take_at P T at e, drop_at P T at e) (sym (append_assoc P v (drop k T)))

-- padding, over all of it, of which the last 51 bytes are written over
module _ (n : ℕ) (x : ℕ) where
  abbrev padding : List ℕ
  padding = replicate n x

  abbrev others : List ℕ
  others = replicate 51 x

  abbrev front : List ℕ
  front = 0 ∷ 1 ∷ (padding ++ (0 ∷ []))

  filled : (size : ℕ) → size ≡ suc (suc (n + suc 51)) → replicate size x ≡ x ∷ x ∷ (padding ++ (x ∷ others))
  filled size e = rw e (ap (λ (l : List ℕ). x ∷ x ∷ l) (sym (replicate-append-replicate n (suc 51) x)))

  fronted : (size at : ℕ) → size ≡ suc (suc (n + suc 51)) → at ≡ suc (suc n) → set (set (set (replicate size x) 0 0) 1 1) at 0 ≡ front ++ others
  fronted size at e z =
      let l : length padding ≡ n = length-replicate n x in
      let s : set (padding ++ (x ∷ others)) n 0 ≡ padding ++ (0 ∷ others) = rw l at (set-append_seam padding x others 0) in
      rw (filled size e, z) (ap (λ (l : List ℕ). 0 ∷ 1 ∷ l) (s ∙ sym (append_assoc padding (0 ∷ []) others)))

  long : length front ≡ n + 3
  long =
      let l : length (padding ++ (0 ∷ [])) ≡ length padding + 1 = length-append padding (0 ∷ []) in
      let p : length padding ≡ n = length-replicate n x in
      omega arith

-- the bytes of an encoded message, one by one, and how many there are

abbrev filling : ℕ → List ℕ
filling n = replicate n 255

length_filling : (n : ℕ) → length (filling n) ≡ n
length_filling n = let z : ℕ = 255 in length-replicate n z

get_d_filling : (n i : ℕ) → i < n → get_or (filling n) i 0 ≡ 255
get_d_filling n i h = let z : ℕ = 255 in get_or-replicate n i z 0 h

module _ (size : ℕ) (hash : List ℕ) (room : 62 ≤ size) where
  from_two : (k : ℕ) → get_or (encoded size hash) (2 + k) 0 ≡ get_or (filling (size - 54) ++ (0 ∷ (digest_prefix ++ hash))) k 0
  from_two k =
      let e : 2 + k ≡ suc (suc k) = omega arith in
      rw e

  behind : (j : ℕ) → get_or (encoded size hash) (2 + (size - 54 + suc j)) 0 ≡ get_or (digest_prefix ++ hash) j 0
  behind j =
      from_two (size - 54 + suc j)
      ∙ ap (λ (n : ℕ). get_or (filling (size - 54) ++ (0 ∷ (digest_prefix ++ hash))) (n + suc j) 0) (sym (length_filling (size - 54)))
      ∙ get_or-append-add (filling (size - 54)) (0 ∷ (digest_prefix ++ hash)) (suc j) 0

  pub encoded_fill : (i : ℕ) → 2 ≤ i → i < size - 52 → get_or (encoded size hash) i 0 ≡ 255
  encoded_fill i h l =
      let e : i ≡ 2 + (i - 2) = omega arith in
      let b : i - 2 < length (filling (size - 54)) = rw (length_filling (size - 54)) (omega arith) in
      ap (λ (k : ℕ). get_or (encoded size hash) k 0) e ∙ from_two (i - 2)
      ∙ get_or-append (filling (size - 54)) (0 ∷ (digest_prefix ++ hash)) 0 (i - 2) b ∙ get_d_filling (size - 54) (i - 2) (omega arith)

  pub encoded_zero : (i : ℕ) → i ≡ size - 52 → get_or (encoded size hash) i 0 ≡ 0
  encoded_zero i h =
      let e : i ≡ 2 + (size - 54) = omega arith in
      ap (λ (k : ℕ). get_or (encoded size hash) k 0) e ∙ from_two (size - 54)
      ∙ get_or_at (filling (size - 54)) 0 (digest_prefix ++ hash) 0 (size - 54) (length_filling (size - 54))

  pub encoded_prefix : (i : ℕ) → size - 52 < i → i - (size - 52) - 1 < 19 → get_or (encoded size hash) i 0 ≡ get_or digest_prefix (i - (size - 52) - 1) 0
  encoded_prefix i h l =
      let e : i ≡ 2 + (size - 54 + suc (i - (size - 52) - 1)) = omega arith in
      ap (λ (k : ℕ). get_or (encoded size hash) k 0) e ∙ behind (i - (size - 52) - 1) ∙ get_or-append digest_prefix hash 0 (i - (size - 52) - 1) l

  pub encoded_hash : (i : ℕ) → size - 52 < i → 19 ≤ i - (size - 52) - 1 → get_or (encoded size hash) i 0 ≡ get_or hash (i - (size - 52) - 1 - 19) 0
  encoded_hash i h l =
      let e : i ≡ 2 + (size - 54 + suc (19 + (i - (size - 52) - 1 - 19))) = omega arith in
      ap (λ (k : ℕ). get_or (encoded size hash) k 0) e ∙ behind (19 + (i - (size - 52) - 1 - 19)) ∙ get_or-append-add digest_prefix hash (i - (size - 52) - 1 - 19) 0

  pub length_encoded : length hash ≡ 32 → length (encoded size hash) ≡ size
  length_encoded e =
      let l : length (filling (size - 54) ++ (0 ∷ (digest_prefix ++ hash))) ≡ size - 54 + length (0 ∷ (digest_prefix ++ hash)) = length-append (filling (size - 54)) (0 ∷ (digest_prefix ++ hash)) ∙ rw (length_filling (size - 54)) in
      let p : length (digest_prefix ++ hash) ≡ 19 + length hash = length-append digest_prefix hash in
      omega arith

-- what was written is the encoded message
pub written : (size : ℕ) (hash : List ℕ) → 62 ≤ size → length hash ≡ 32 → (s x : List ℕ) → s ≡ set (set (set (replicate size 255) 0 0) 1 1) (size - 52) 0
    → x ≡ put_mid (size - 52 + 1) (size - 52 + 20 - (size - 52 + 1)) s digest_prefix → put_mid (size - 52 + 20) (length x - (size - 52 + 20)) x hash ≡ encoded size hash
written size hash room hashed s x of_s of_x =
    let n : ℕ = size - 54 in
    let ff : ℕ = 255 in
    let T : List ℕ = replicate 51 ff in
    let P : List ℕ = front n ff in
    let lp : length P ≡ n + 3 = long n ff in
    let lt : length T ≡ 51 = length-replicate 51 ff in
    let e : s ≡ P ++ T = of_s ∙ fronted n ff size (size - 52) (omega arith) (omega arith) in
    let k : size - 52 + 20 - (size - 52 + 1) ≡ 19 = omega arith in
    let f : x ≡ (P ++ digest_prefix) ++ drop 19 T = of_x ∙ rw (e, k) (put_at P T digest_prefix (size - 52 + 1) 19 (omega arith)) in
    let lq : length (P ++ digest_prefix) ≡ size - 52 + 20 = length-append P digest_prefix ∙ omega arith in
    let lx : length x ≡ size = ap (λ (l : List ℕ). length l) f ∙ length-append (P ++ digest_prefix) (drop 19 T) ∙ rw (length-drop 19 T) (omega arith) in
    let m : length x - (size - 52 + 20) ≡ 32 = omega arith in
    let none : drop 32 (drop 19 T) ≡ [] = past 32 (drop 19 T) (rw (length-drop 19 T) (omega arith)) in
    rw (m, f) (put_at (P ++ digest_prefix) (drop 19 T) hash (size - 52 + 20) 32 lq ∙ rw none (append-nil ((P ++ digest_prefix) ++ hash)))
    ∙ append_assoc P digest_prefix hash
    ∙ ap (λ (l : List ℕ). 0 ∷ 1 ∷ l) (append_assoc (replicate n ff) (0 ∷ []) (digest_prefix ++ hash))
