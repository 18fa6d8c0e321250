-- Laws of text written into a buffer: one text behind another, and what is left to write in a loop.
use mathlib.Core.Path.{◌≡◌, refl, sym, ap, ◌∙◌}
use mathlib.Core.List.{List, [], ◌++◌, append_assoc, append-nil}
use Prim.Native.Nat.{ℕ, ◌+◌, ◌-◌, ◌≤◌}
use native.Mathlib.Nat.{zero-add, add-zero}
use native.Mathlib.Omega.{arith}
use borrow.Rule.Slice.PartMut.{put_mid}
use lib.ListN.{length, take, drop, length-append, take-append-drop, length-drop, drop_of_length-le}
use lib.Seq.{take_at, drop_at, drop-drop, length-take-le}
use Rattle.wire.specs.Lists.{put}
use Rattle.wire.specs.code.Wrote.{Wrote}
use Rattle.wire.proofs.BufferLaws.{lent}
use Rattle.wire.proofs.PutLaws.{length_put}
use Rattle.billing.specs.code.Text.{Placed}

-- ---- bytes put one behind the other

put_none : (d : List ℕ) (at : ℕ) → put d at [] ≡ d
put_none d at = rw (append-nil, add-zero) (take-append-drop at d)

put_on : (a b d : List ℕ) (at : ℕ) → at + length a ≤ length d → put (put d at a) (at + length a) b ≡ put d at (a ++ b)
put_on a b d at h =
    let t : length (take at d) ≡ at = length-take-le at d (let x : at ≤ length d = omega arith in x) in
    let f : length (take at d ++ a) ≡ at + length a = length-append (take at d) a ∙ ap (λ (n : ℕ). n + length a) t in
    let behind : drop (at + length a + length b) (put d at a) ≡ drop (at + length (a ++ b)) d
    = sym (drop-drop (length b) (at + length a) (put d at a))
    ∙ ap (drop (length b)) (drop_at (take at d ++ a) (drop (at + length a) d) (at + length a) f)
    ∙ drop-drop (length b) (at + length a) d
    ∙ ap (λ (n : ℕ). drop n d) (let x : at + length a + length b ≡ at + length (a ++ b) = omega (arith, length-append a b) in x) in
    rw (take_at (take at d ++ a) (drop (at + length a) d) (at + length a) f, behind)
    (ap (λ (l : List ℕ). l ++ drop (at + length (a ++ b)) d) (append_assoc (take at d) a b))

-- ---- text placed

placed_long : {a d e : List ℕ} {at r : ℕ} → Placed a d e at r → length e ≡ length d
placed_long {a} {d} {e} {at} {r} p = ap length p.bytes ∙ length_put d at a (let x : at + length a ≤ length d = omega (arith, p.ends, p.fits) in x)

pub placed_none : (d : List ℕ) (at : ℕ) → at ≤ length d → Placed [] d d at at
placed_none d at h = record { ends = sym (add-zero at); fits = h; bytes = sym (put_none d at) }

-- b behind a
pub placed_on : {a b d e f : List ℕ} {at r s : ℕ} → Placed a d e at r → Placed b e f r s → Placed (a ++ b) d f at s
placed_on {a} {b} {d} {e} {f} {at} {r} {s} p q = record {
  ends = omega (arith, p.ends, q.ends, length-append a b);
  fits = omega (arith, q.fits, placed_long p);
  bytes =
      q.bytes
      ∙ ap (λ (l : List ℕ). put l r b) p.bytes
      ∙ ap (λ (n : ℕ). put (put d at a) n b) p.ends
      ∙ put_on a b d at (let x : at + length a ≤ length d = omega (arith, p.ends, p.fits) in x);
}

-- at the front
pub placed_front : {a d e : List ℕ} {r : ℕ} → Placed a d e 0 r → Wrote a d e r
placed_front {a} {d} {e} {r} p = record { count = p.ends ∙ zero-add (length a); bytes = simp zero-add at p.bytes }

-- a was written over the front of the part that is lent on as `&mut d[at..]`
pub placed_part : (a d m : List ℕ) (at k : ℕ) → at + length a ≤ length d → Wrote a (take (length d - at) (drop at d)) m k
    → Placed a d (put_mid at (length d - at) d m) at (at + k)
placed_part a d m at k h w =
    let none : drop (length d - at) (drop at d) ≡ []
    = drop_of_length-le (drop at d) (let x : length (drop at d) ≤ length d - at = omega (arith, length-drop at d) in x) in
    record {
      ends = ap (λ (n : ℕ). at + n) w.count;
      fits = omega (arith, w.count);
      bytes =
          rw (none, w.bytes, lent, append-nil, drop-drop) (sym (append_assoc (take at d) a (drop (at + length a) d)));
    }

-- ---- text placed in a loop: where `rest` is placed from r on in e, `text` is placed from `at` on in d
pub record Leaves (text d : List ℕ) (at : ℕ) (rest e : List ℕ) (r : ℕ) : Type 0 where
  pub ends : r + length rest ≡ at + length text
  pub fits : r ≤ length d
  pub long : length e ≡ length d
  pub bytes : put e r rest ≡ put d at text

pub leaves_all : (text d : List ℕ) (at : ℕ) → at ≤ length d → Leaves text d at text d at
leaves_all text d at h = record { ends = refl; fits = h; long = refl; bytes = refl }

pub leaves_rest : {text d a rest e f : List ℕ} {at r s : ℕ} → Leaves text d at (a ++ rest) e r → Placed a e f r s → Leaves text d at rest f s
leaves_rest {text} {d} {a} {rest} {e} {f} {at} {r} {s} l p = record {
  ends = omega (arith, l.ends, p.ends, length-append a rest);
  fits = omega (arith, p.fits, l.long);
  long = placed_long p ∙ l.long;
  bytes =
      ap (λ (x : List ℕ). put x s rest) p.bytes
      ∙ ap (λ (n : ℕ). put (put e r a) n rest) p.ends
      ∙ put_on a rest e r (let x : r + length a ≤ length e = omega (arith, p.ends, p.fits) in x)
      ∙ l.bytes;
}

pub leaves_none : {text d e : List ℕ} {at r : ℕ} → Leaves text d at [] e r → Placed text d e at r
leaves_none {text} {d} {e} {at} {r} l = record {
  ends = sym (add-zero r) ∙ l.ends;
  fits = l.fits;
  bytes = sym (put_none e r) ∙ l.bytes;
}
