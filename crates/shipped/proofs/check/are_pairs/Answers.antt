use Rattle.std.proofs.Common.{◌≡◌, refl, sym, ap, ap₂, ◌∙◌, ℕ, ◌+◌, ◌≤◌, ◌<◌, true, not, Some, List, [], ◌∷◌, ◌++◌, length, take, drop, set, arith}
use mathlib.Core.Path.{subst}
use lib.ListN.{length-drop, length-append}
use lib.Seq.{drop-drop}
use Rattle.wire.proofs.TestLaws.{not_across}
use Rattle.wire.proofs.BufferLaws.{lent}
use Rattle.keys.specs.Names.{is_new}
use Rattle.records.specs.Records.{value_in, is_whole}
use Rattle.shipped.specs.Shipped.{ListedKey, names_of, listed_most, whole, list_of, keys_in}
use Rattle.shipped.specs.code.Pairs.{is_pair, pair_size, pair_length, key_in}
use Rattle.shipped.specs.code.Marks.{mark_of, Marked}
use Rattle.shipped.proofs.PairLaws.{read_pairs, pair_told, pair_not, pair_long, pair_room, pair_whole, pairs_none, pairs_over, pairs_repeated, pairs_on}
use Rattle.shipped.proofs.ListLaws.{good_list, list_good, list_keys, list_bad, pairs_end, before_more}
use Rattle.shipped.proofs.MarkLaws.{marked_none, marked_more}
use Rattle.shipped.proofs.check.are_pairs.Goals as goal
use Rattle.shipped.proofs.check.are_pairs.Goals.{In-Some, In-loop-at}

abbrev bytes : In-loop-at → List ℕ
bytes c = drop c.loop-at.at c.args.list.now

abbrev keys : In-loop-at → List ListedKey
keys c = keys_in (take c.loop-at.at c.args.list.now)

some_bytes : (c : In-loop-at) → 0 < length (bytes c)
some_bytes c = omega (arith, c.loop-at-test.true, length-drop c.loop-at.at c.args.list.now)

-- what the rest gives, the whole gives
reads : (c : In-loop-at) → read_pairs (bytes c) (whole (keys c)) ≡ list_of c.args.list.now
reads c = c.loop-at.invariant.1.1.0

-- the pair that was read
pair : (c : In-Some) → (is_pair (drop c.loop-at.at c.args.list.now) ≡ true) × (c.in-Some.n ≡ pair_size (drop c.loop-at.at c.args.list.now))
pair c = pair_told (drop c.loop-at.at c.args.list.now) (sym c.in-Some.is ∙ c.pair_length.ensures ∙ ap pair_length (lent c.loop-at.at c.args.list.now))

within : (c : In-Some) → c.loop-at.at + c.in-Some.n ≤ length c.args.list.now
within c = omega (arith, (pair c).1, pair_room (drop c.loop-at.at c.args.list.now) (pair c).0, length-drop c.loop-at.at c.args.list.now)

pub loop-at-init : goal.loop-at-init
unfolding list_of
loop-at-init c =
    let empty : list_of [] ≡ Some [] = pairs_end [] [] (omega arith) in
    let none : keys_in [] ≡ [] = list_keys [] [] empty in (
      omega arith,
      (
        list_good [] [] empty,
        (ap (λ (ks : List ListedKey). read_pairs c.args.list.now (whole ks)) none, (sym (ap length none), marked_none (keys_in []) _ none refl)),
      ),
    )

pub returns-in_default : goal.returns-in_default
returns-in_default c =
    let w = (goal.at.returns-in_default c).In-loop-at in
    let none = pair_not (bytes w) (sym c.in_default.is ∙ c.pair_length.ensures ∙ ap pair_length (lent c.loop-at.at c.args.list.now)) in
    sym (list_bad c.args.list.now (sym (reads w) ∙ pairs_none (keys w) (bytes w) (some_bytes w) none))

pub returns-then-count-ge-LISTED_MOST : goal.returns-then-count-ge-LISTED_MOST
returns-then-count-ge-LISTED_MOST c =
    let w = (goal.at.returns-then-count-ge-LISTED_MOST c).In-loop-at in
    let w' = (goal.at.returns-then-count-ge-LISTED_MOST c).In-Some in
    let full : listed_most ≤ length (keys w) = omega (arith, c.if-count-ge-LISTED_MOST.true, c.loop-at.invariant.1.1.1.0) in
    sym (list_bad c.args.list.now (sym (reads w) ∙ pairs_over (keys w) (bytes w) (pair w').0 full))

pub value_in-name-requires : goal.value_in-name-requires
value_in-name-requires c =
    let w = (goal.at.value_in-name-requires c).In-Some in
    ap is_whole (lent c.loop-at.at c.args.list.now) ∙ pair_whole (drop c.loop-at.at c.args.list.now) (pair w).0

pub slice_bounds-is_repeated-end : goal.slice_bounds-is_repeated-end
slice_bounds-is_repeated-end c = sym c.loop-at.invariant.1.1.1.1.room

pub is_repeated-requires : goal.is_repeated-requires
is_repeated-requires c =
    let inv = c.loop-at.invariant in
    (inv.0, inv.1.0, inv.1.1.1.1, c.mark_of-mark.ensures)

pub returns-then-is_repeated : goal.returns-then-is_repeated
returns-then-is_repeated c =
    let w = (goal.at.returns-then-is_repeated c).In-loop-at in
    let w' = (goal.at.returns-then-is_repeated c).In-Some in
    let name = c.value_in-name.ensures ∙ ap value_in (lent c.loop-at.at c.args.list.now) in
    let old = not_across _ _ (sym (c.is_repeated.ensures ∙ ap (λ (v : List ℕ). not (is_new v (names_of (keys w)))) name)) ∙ ap not c.if-is_repeated.true in
    sym (list_bad c.args.list.now (sym (reads w) ∙ pairs_repeated (keys w) (bytes w) (pair w').0 old))

pub overflow_add-at : goal.overflow_add-at
overflow_add-at c =
    let w = (goal.at.overflow_add-at c).In-Some in
    omega (arith, within w)

pub loop-at-smaller : goal.loop-at-smaller
loop-at-smaller c =
    let w = (goal.at.loop-at-smaller c).In-Some in
    omega (arith, within w, (pair w).1, pair_long (drop c.loop-at.at c.args.list.now) (pair w).0)

pub loop-at-preserved : goal.loop-at-preserved
loop-at-preserved c =
    let w = (goal.at.loop-at-preserved c).In-loop-at in
    let w' = (goal.at.loop-at-preserved c).In-Some in
    let list : List ℕ = c.args.list.now in
    let at : ℕ = c.loop-at.at in
    let n : ℕ = c.in-Some.n in
    let b : List ℕ = drop at list in
    let ks : List ListedKey = keys w in
    let key : ListedKey = key_in b in
    let x : List ℕ = take (at + n) list in
    let there : is_pair b ≡ true = (pair w').0 in
    let long : n ≡ pair_size b = (pair w').1 in
    let few : length ks < listed_most = omega (arith, c.if-count-ge-LISTED_MOST.false, c.loop-at.invariant.1.1.1.0) in
    let name : c.value_in-name.result.now ≡ value_in b = c.value_in-name.ensures ∙ ap value_in (lent at list) in
    let fresh : is_new (value_in b) (names_of ks) ≡ true = not_across _ _ (sym (c.is_repeated.ensures ∙ ap (λ (v : List ℕ). not (is_new v (names_of ks))) name)) ∙ ap not c.if-is_repeated.false in
    let more : list_of x ≡ Some (ks ++ (key ∷ [])) =
    ap (λ (k : ℕ). list_of (take (at + k) list)) long ∙ before_more ks list at few (good_list (take at list) c.loop-at.invariant.1.0) there fresh in
    let all : keys_in x ≡ ks ++ (key ∷ []) = list_keys x (ks ++ (key ∷ [])) more in
    let rest : drop (at + n) list ≡ drop (pair_size b) b = ap (λ (k : ℕ). drop (at + k) list) long ∙ sym (drop-drop (pair_size b) at list) in
    let inv = c.loop-at.invariant.1.1.1 in
    let marked : Marked (keys_in x) (set c.loop-at.marks c.loop-at.count c.mark_of-mark.result) =
    subst (λ (l : List ListedKey). Marked l (set c.loop-at.marks c.loop-at.count c.mark_of-mark.result)) (sym all)
    (marked_more ks c.loop-at.marks inv.1 key c.loop-at.count c.mark_of-mark.result inv.0 c.if-count-ge-LISTED_MOST.false (c.mark_of-mark.ensures ∙ ap mark_of name)) in (
      within w',
      (
        list_good x (ks ++ (key ∷ [])) more,
        (
          ap₂ (λ (l : List ℕ) (k : List ListedKey). read_pairs l (whole k)) rest all ∙ sym (pairs_on ks b there few fresh) ∙ reads w,
          (omega (arith, ap length all, length-append ks (key ∷ []), inv.0), marked),
        ),
      ),
    )

pub returns : goal.returns
returns c =
    let s = c.args.list.now in
    let l = c.loop-at in
    let end : length (drop l.at s) ≤ 0 = omega (arith, c.loop-at-test.false, length-drop l.at s) in
    sym (list_good s (keys_in (take l.at s)) (sym l.invariant.1.1.0 ∙ pairs_end (keys_in (take l.at s)) (drop l.at s) end))
