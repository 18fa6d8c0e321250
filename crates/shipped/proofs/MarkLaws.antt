-- Laws of marks: a name whose mark is not among those of the names is new, and one mark more.
use mathlib.Core.Path.{◌≡◌, refl, sym, ap, ◌∙◌}
use mathlib.Core.Bool.{Bool, true, false}
use mathlib.Core.List.{List, [], ◌∷◌, ◌++◌, map, map-append}
use Prim.Native.Nat.{ℕ, ◌+◌, ◌<◌}
use native.Mathlib.Numerals.{add-one}
use native.Mathlib.Omega.{arith}
use lib.ListN.{length, set, length-append, length-set}
use lib.Seq.{take-suc-set}
use Rattle.wire.specs.Lists.{all, same}
use Rattle.wire.proofs.TestLaws.{and_left, and_right}
use Rattle.wire.proofs.ListLaws.{all_take, same_true}
use Rattle.keys.specs.Names.{is_new}
use Rattle.keys.specs.code.Marks.{differs_from}
use Rattle.keys.proofs.MarkLaws.{differs}
use Rattle.shipped.specs.Shipped.{ListedKey, names_of, listed_most}
use Rattle.shipped.specs.code.Marks.{mark_of, Marked}

-- names that are the same have the same mark
marks_apart : (x y : List ℕ) → differs_from (mark_of x) (mark_of y) ≡ true → same x y ≡ false
marks_apart x y e = go (same x y) refl
  where
    go : (t : Bool) → same x y ≡ t → t ≡ false
    go false q = refl
    go true q = absurd (differs (mark_of x) (mark_of y) e (ap mark_of (same_true x y q)))

marks_new : (x : List ℕ) (ys : List (List ℕ)) → all (differs_from (mark_of x)) (map mark_of ys) ≡ true → is_new x ys ≡ true
marks_new x [] e = refl
marks_new x (y ∷ ys) e =
    rw (marks_apart x y (and_left (differs_from (mark_of x) (mark_of y)) _ e)) (marks_new x ys (and_right (differs_from (mark_of x) (mark_of y)) _ e))

module _ (keys : List ListedKey) (marks : List ℕ) (m : Marked keys marks) where
  pub unmarked_new : (name : List ℕ) → all (differs_from (mark_of name)) marks ≡ true → is_new name (names_of keys) ≡ true
  unmarked_new name e =
      marks_new name (names_of keys) (ap (all (differs_from (mark_of name))) (sym m.first) ∙ all_take (differs_from (mark_of name)) (length keys) marks e)

  pub marked_more : (key : ListedKey) (i mark : ℕ) → i ≡ length keys → i < listed_most → mark ≡ mark_of key.name → Marked (keys ++ (key ∷ [])) (set marks i mark)
  marked_more key i mark e h q =
      let size : length (keys ++ (key ∷ [])) ≡ length keys + 1 = length-append keys (key ∷ []) in
      let there : length keys < length marks = omega (arith, e, h, m.room) in
      let names : names_of (keys ++ (key ∷ [])) ≡ names_of keys ++ (key.name ∷ []) = map-append (λ (k : ListedKey). k.name) keys (key ∷ []) in
      record {
        room = length-set marks i mark ∙ m.room;
        first = rw (e, q, size, add-one, take-suc-set marks (length keys) (mark_of key.name) there, m.first, names, map-append mark_of (names_of keys) (key.name ∷ []));
      }

-- before the first key
pub marked_none : (keys : List ListedKey) (marks : List ℕ) → keys ≡ [] → length marks ≡ listed_most → Marked keys marks
marked_none keys marks e h = record { room = h; first = rw (e) refl }
