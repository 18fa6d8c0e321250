-- A buffer that is written from the front, part by part: its length is n, and its first a bytes are p.
use mathlib.Core.Path.{◌≡◌, refl, sym, ap, ◌∙◌, subst}
use mathlib.Core.List.{List, [], ◌∷◌, ◌++◌, append_assoc}
use Prim.Native.Nat.{ℕ, ◌+◌, ◌-◌, ◌≤◌, ◌<◌}
use native.Mathlib.Numerals.{add-one}
use native.Mathlib.Omega.{arith}
use lib.ListN.{length, take, drop, set, replicate, length-set, length-append, length-drop}
use lib.Seq.{take-suc-set, take_at, take_all, length-take-le}
use borrow.Rule.Slice.PartMut.{put_mid}
use Rattle.wire.specs.Lists.{padded}
use Rattle.wire.specs.Numbers.{little_endian_of}
use Rattle.wire.proofs.ListLaws.{length_part, length_padded}
use Rattle.wire.proofs.NumberLaws.{length_number}
use Rattle.keys.specs.Key.{Key, data_most}
use Rattle.keys.specs.Names.{key_name_most}
use Rattle.registry.specs.Slots.{data_length_at, data_at, bits_at, export_at, verify_at, uses_at, slot_size, flag, key_bytes}

pub record Written (n : ℕ) (s p : List ℕ) (a : ℕ) : Type 0 where
  pub long : length s ≡ n
  pub front : take a s ≡ p

pub start : (n : ℕ) (s : List ℕ) → length s ≡ n → Written n s [] 0
start n s e = record { long = e; front = refl }

module _ {n : ℕ} {s p : List ℕ} {a : ℕ} (w : Written n s p a) where
  -- one byte more
  put_byte : (x : ℕ) → a < n → Written n (set s a x) (p ++ (x ∷ [])) (a + 1)
  put_byte x h =
      let b : a < length s = omega (arith, w.long) in
      record { long = length-set s a x ∙ w.long; front = rw add-one (take-suc-set s a x b ∙ ap (λ (q : List ℕ). q ++ (x ∷ [])) w.front) }

  -- a part more, as it comes back from a loan
  put_part : (k : ℕ) (v : List ℕ) → a + k ≤ n → length v ≡ k → Written n (put_mid a k s v) (p ++ v) (a + k)
  put_part k v h e =
      let b : a ≤ length s = omega (arith, w.long) in
      let t : length (take a s) ≡ a = length-take-le a s b in
      let l : length (take a s ++ v) ≡ a + k = length-append (take a s) v ∙ ap (λ (m : ℕ). m + length v) t ∙ ap (λ (m : ℕ). a + m) e in
      let r : length (drop k (drop a s)) ≡ n - (a + k) = length-drop k (drop a s) ∙ ap (λ (m : ℕ). m - k) (length-drop a s) ∙ (let x : length s - a - k ≡ n - (a + k) = omega (arith, w.long) in x) in
      record {
        long = ap length (sym (append_assoc (take a s) v (drop k (drop a s)))) ∙ length-append (take a s ++ v) (drop k (drop a s)) ∙ (let x : length (take a s ++ v) + length (drop k (drop a s)) ≡ n = omega arith in x);
        front = ap (take (a + k)) (sym (append_assoc (take a s) v (drop k (drop a s)))) ∙ take_at (take a s ++ v) (drop k (drop a s)) (a + k) l ∙ ap (λ (q : List ℕ). q ++ v) w.front;
      }

-- the whole
pub whole : {n : ℕ} {s p : List ℕ} → Written n s p n → s ≡ p
whole {n} {s} w = sym (take_all n s (let x : length s ≤ n = omega (arith, w.long) in x)) ∙ w.front

module _ {n : ℕ} {s p : List ℕ} {a : ℕ} (w : Written n s p a) where
  -- a byte and a part that are known by an equation
  pub put_byte_of : {x : ℕ} (y : ℕ) → x ≡ y → a < n → Written n (set s a x) (p ++ (y ∷ [])) (a + 1)
  put_byte_of {x} y e h = subst (λ (z : ℕ). Written n (set s a x) (p ++ (z ∷ [])) (a + 1)) e (put_byte w x h)

  pub put_part_of : (k : ℕ) {v : List ℕ} (f : List ℕ) → v ≡ f → length f ≡ k → a + k ≤ n → Written n (put_mid a k s v) (p ++ f) (a + k)
  put_part_of k {v} f e l h = subst (λ (z : List ℕ). Written n (put_mid a k s v) (p ++ z) (a + k)) e (put_part w k v h (ap length e ∙ l))

  -- the part that is lent has as many bytes as were asked
  pub part_length : (k : ℕ) → a + k ≤ n → length (take k (drop a s)) ≡ k
  part_length k h = length_part s a k (omega (arith, w.long))

  -- a part that is padded with zeros, and a number
  put_padded : (k : ℕ) (x : List ℕ) {v : List ℕ} → v ≡ padded (length (take k (drop a s))) x → length x ≤ k → a + k ≤ n → Written n (put_mid a k s v) (p ++ padded k x) (a + k)
  put_padded k x e l h = put_part_of k (padded k x) (e ∙ ap (λ (m : ℕ). padded m x) (part_length k h)) (length_padded k x l) h

  put_number : (k x : ℕ) {v : List ℕ} → v ≡ little_endian_of k x → a + k ≤ n → Written n (put_mid a k s v) (p ++ little_endian_of k x) (a + k)
  put_number k x e h = put_part_of k (little_endian_of k x) e (length_number k x) h

-- ---- a key that is written into a slot, field by field

module _ (key : Key) (slot : List ℕ) (long : length slot ≡ slot_size) (hn : length key.name ≤ key_name_most) (hd : length key.bytes ≤ data_most) where
  abbrev s1 : List ℕ
  s1 = set slot 0 (length key.name)

  w1 : Written slot_size s1 (length key.name ∷ []) 1
  w1 = put_byte_of (start slot_size slot long) (length key.name) refl (omega arith)

  module _ (name : List ℕ) (e2 : name ≡ padded (length (take key_name_most (drop 1 s1))) key.name) where
    abbrev s2 : List ℕ
    s2 = put_mid 1 key_name_most s1 name

    w2 : Written slot_size s2 ((length key.name ∷ []) ++ padded key_name_most key.name) data_length_at
    w2 = put_padded w1 key_name_most key.name e2 hn (omega arith)

    module _ (size : List ℕ) (e3 : size ≡ little_endian_of 2 (length key.bytes)) where
      abbrev s3 : List ℕ
      s3 = put_mid data_length_at 2 s2 size

      w3 : Written slot_size s3 (((length key.name ∷ []) ++ padded key_name_most key.name) ++ little_endian_of 2 (length key.bytes)) data_at
      w3 = put_number w2 2 (length key.bytes) e3 (omega arith)

      module _ (bytes : List ℕ) (e4 : bytes ≡ padded (length (take data_most (drop data_at s3))) key.bytes) where
        abbrev s4 : List ℕ
        s4 = put_mid data_at data_most s3 bytes

        abbrev pub to_data : List ℕ
        to_data = (((length key.name ∷ []) ++ padded key_name_most key.name) ++ little_endian_of 2 (length key.bytes)) ++ padded data_most key.bytes

        w4 : Written slot_size s4 to_data bits_at
        w4 = put_padded w3 data_most key.bytes e4 hd (omega arith)

        module _ (bits : List ℕ) (e5 : bits ≡ little_endian_of 2 key.bits) where
          abbrev s5 : List ℕ
          s5 = put_mid bits_at 2 s4 bits

          w5 : Written slot_size s5 (to_data ++ little_endian_of 2 key.bits) export_at
          w5 = put_number w4 2 key.bits e5 (omega arith)

          module _ (exported verified : ℕ) (e6 : exported ≡ flag key.export_allowed) (e7 : verified ≡ flag key.verify_allowed) where
            abbrev s7 : List ℕ
            s7 = set (set s5 export_at exported) verify_at verified

            w6 : Written slot_size (set s5 export_at exported) ((to_data ++ little_endian_of 2 key.bits) ++ (flag key.export_allowed ∷ [])) verify_at
            w6 = put_byte_of w5 (flag key.export_allowed) e6 (omega arith)

            w7 : Written slot_size s7 (((to_data ++ little_endian_of 2 key.bits) ++ (flag key.export_allowed ∷ [])) ++ (flag key.verify_allowed ∷ [])) uses_at
            w7 = put_byte_of w6 (flag key.verify_allowed) e7 (omega arith)

            pub key_written : (uses : List ℕ) → uses ≡ replicate (length (take 4 (drop uses_at s7))) 0 → put_mid uses_at 4 s7 uses ≡ key_bytes key
            unfolding key_bytes little_endian_of
            key_written uses e = whole (put_part_of w7 4 (little_endian_of 4 0) (e ∙ ap (λ (k : ℕ). replicate k 0) (part_length w7 4 (omega arith))) refl (omega arith))
