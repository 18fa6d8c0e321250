use Rattle.std.proofs.Common.{◌≡◌, refl, sym, ap, ap₂, ◌∙◌, ℕ, ◌+◌, ◌-◌, ◌≤◌, ◌<◌, true, Some, List, [], ◌∷◌, ◌++◌, length, take, drop, arith}
use lib.ListN.{length-drop}
use lib.Seq.{drop-drop}
use Rattle.wire.specs.Lists.{same}
use Rattle.wire.proofs.BufferLaws.{lent}
use Rattle.keys.specs.Names.{is_new}
use Rattle.records.specs.Records.{record_length, value_in, is_whole}
use Rattle.records.proofs.RecordLaws.{whole_room}
use Rattle.shipped.specs.Shipped.{ListedKey, names_of, whole, list_of, keys_in, listed_named}
use Rattle.shipped.specs.code.Pairs.{behind, is_pair, pair_size, key_in, data_found, data_of, place_end}
use Rattle.shipped.proofs.PairLaws.{read_pairs, pair_long, pair_room, pair_whole, behind_whole}
use Rattle.shipped.proofs.ListLaws.{good_list, pairs_end, next_pair, next_on, begins, named_here, named_none, some_same, new_more, data_there, data_end}
use Rattle.shipped.proofs.find.find_listed.Goals as goal
use Rattle.shipped.proofs.find.find_listed.Goals.{In-loop-at}

-- the pair at a place that is not the end, what gives the keys behind it, and the lengths of its two records as they are read
module _ (list : List ℕ) (at : ℕ) where
  abbrev bytes : List ℕ
  bytes = drop at list

  abbrev part : List ℕ
  part = take (length list - at) bytes

  module _ (keys : List ListedKey) (reads : read_pairs bytes (whole keys) ≡ Some (keys_in list)) (more : at < length list) where
    pair : is_pair bytes ≡ true
    pair = next_pair keys (keys_in list) bytes reads (omega (arith, length-drop at list))

    rest : read_pairs (drop (pair_size bytes) bytes) (whole (keys ++ (key_in bytes ∷ []))) ≡ Some (keys_in list)
    rest = next_on keys (keys_in list) bytes reads (omega (arith, length-drop at list))

    within : at + pair_size bytes ≤ length list
    within = omega (arith, pair_room bytes pair, length-drop at list)

  module _ {n : ℕ} (e : n ≡ record_length part) where
    first : n ≡ record_length bytes
    first = e ∙ ap record_length (lent at list)

    second : {m : ℕ} → m ≡ record_length (take (length part - n) (drop n part)) → m ≡ record_length (behind bytes)
    second f = f ∙ ap record_length (lent n part) ∙ ap₂ (λ (k : ℕ) (l : List ℕ). record_length (drop k l)) first (lent at list)

pair_at : (c : In-loop-at) → is_pair (drop c.loop-at.at c.args.list.now) ≡ true
pair_at c = pair c.args.list.now c.loop-at.at c.loop-at.invariant.1.0 c.loop-at.invariant.1.1.0 c.loop-at-test.true

within_at : (c : In-loop-at) → c.loop-at.at + pair_size (drop c.loop-at.at c.args.list.now) ≤ length c.args.list.now
within_at c = within c.args.list.now c.loop-at.at c.loop-at.invariant.1.0 c.loop-at.invariant.1.1.0 c.loop-at-test.true

pub loop-at-init : goal.loop-at-init
unfolding list_of
loop-at-init c = (omega arith, ([], (good_list c.args.list.now c.requires, refl)))

pub record_length-n-requires : goal.record_length-n-requires
record_length-n-requires c =
    let w = (goal.at.record_length-n-requires c).In-loop-at in
    let list : List ℕ = c.args.list.now in
    omega (arith, whole_room (drop c.loop-at.at list) (pair_whole (drop c.loop-at.at list) (pair_at w)), ap length (lent c.loop-at.at list))

pub overflow_add-start : goal.overflow_add-start
overflow_add-start c =
    let w = (goal.at.overflow_add-start c).In-loop-at in
    omega (arith, first c.args.list.now c.loop-at.at c.record_length-n.ensures, within_at w, pair_long (drop c.loop-at.at c.args.list.now) (pair_at w))

pub overflow_add-start-in-loop-at : goal.overflow_add-start-in-loop-at
overflow_add-start-in-loop-at c =
    let w = (goal.at.overflow_add-start-in-loop-at c).In-loop-at in
    omega (arith, first c.args.list.now c.loop-at.at c.record_length-n.ensures, within_at w, pair_long (drop c.loop-at.at c.args.list.now) (pair_at w))

pub slice_bounds-record_length-count : goal.slice_bounds-record_length-count
slice_bounds-record_length-count c =
    let w = (goal.at.slice_bounds-record_length-count c).In-loop-at in
    let list : List ℕ = c.args.list.now in
    omega (arith, first list c.loop-at.at c.record_length-n.ensures, whole_room (drop c.loop-at.at list) (pair_whole (drop c.loop-at.at list) (pair_at w)), ap length (lent c.loop-at.at list))

pub slice_bounds-record_length-start : goal.slice_bounds-record_length-start
slice_bounds-record_length-start c =
    let w = (goal.at.slice_bounds-record_length-start c).In-loop-at in
    let list : List ℕ = c.args.list.now in
    omega (arith, first list c.loop-at.at c.record_length-n.ensures, whole_room (drop c.loop-at.at list) (pair_whole (drop c.loop-at.at list) (pair_at w)), ap length (lent c.loop-at.at list))

pub record_length-len-requires : goal.record_length-len-requires
record_length-len-requires c =
    let w = (goal.at.record_length-len-requires c).In-loop-at in
    let list : List ℕ = c.args.list.now in
    let at : ℕ = c.loop-at.at in
    let n = c.record_length-n.result in
    omega (
      arith,
      whole_room (behind (drop at list)) (behind_whole (drop at list) (pair_at w)),
      ap length (lent n (part list at) ∙ ap₂ (λ (k : ℕ) (l : List ℕ). drop k l) (first list at c.record_length-n.ensures) (lent at list)),
    )

pub overflow_sub-len : goal.overflow_sub-len
overflow_sub-len c = omega (arith, second c.args.list.now c.loop-at.at c.record_length-n.ensures c.record_length-len.ensures)

pub value_in-requires : goal.value_in-requires
value_in-requires c =
    let w = (goal.at.value_in-requires c).In-loop-at in
    ap is_whole (lent c.loop-at.at c.args.list.now) ∙ pair_whole (drop c.loop-at.at c.args.list.now) (pair_at w)

pub returns-then-equal : goal.returns-then-equal
unfolding data_found data_of place_end
returns-then-equal c =
    let w = (goal.at.returns-then-equal c).In-loop-at in
    let list : List ℕ = c.args.list.now in
    let name : List ℕ = c.args.name.now in
    let at : ℕ = c.loop-at.at in
    let inv = c.loop-at.invariant.1 in
    let b : List ℕ = drop at list in
    let key : ListedKey = key_in b in
    let n = first list at c.record_length-n.ensures in
    let m = second list at c.record_length-n.ensures c.record_length-len.ensures in
    let compared = sym (c.equal.ensures ∙ ap (same name) (c.value_in.ensures ∙ ap value_in (lent at list))) in
    let front = begins (inv.0 ++ (key ∷ [])) (keys_in list) (drop (pair_size b) b) (rest list at inv.0 inv.1.0 c.loop-at-test.true) in
    let found : listed_named name (keys_in list) ≡ Some key =
    ap (listed_named name) front.1 ∙ named_here name inv.0 front.0 key inv.1.1 (compared ∙ c.if-equal.true) in
    record {
      bytes = ap Some (data_there list at _ _ n m) ∙ sym (ap data_of found);
      within = omega (arith, data_end list at _ _ n m (pair_at w), within_at w);
    }

pub overflow_add-at : goal.overflow_add-at
overflow_add-at c =
    let w = (goal.at.overflow_add-at c).In-loop-at in
    let list : List ℕ = c.args.list.now in
    let at : ℕ = c.loop-at.at in
    let end = data_end list at _ _ (first list at c.record_length-n.ensures) (second list at c.record_length-n.ensures c.record_length-len.ensures) (pair_at w) in
    omega (arith, end, within_at w)

pub loop-at-smaller : goal.loop-at-smaller
loop-at-smaller c =
    let w = (goal.at.loop-at-smaller c).In-loop-at in
    let list : List ℕ = c.args.list.now in
    let at : ℕ = c.loop-at.at in
    let end = data_end list at _ _ (first list at c.record_length-n.ensures) (second list at c.record_length-n.ensures c.record_length-len.ensures) (pair_at w) in
    omega (arith, end, within_at w, pair_long (drop at list) (pair_at w))

pub loop-at-preserved : goal.loop-at-preserved
loop-at-preserved c =
    let w = (goal.at.loop-at-preserved c).In-loop-at in
    let list : List ℕ = c.args.list.now in
    let name : List ℕ = c.args.name.now in
    let at : ℕ = c.loop-at.at in
    let inv = c.loop-at.invariant.1 in
    let b : List ℕ = drop at list in
    let keys : List ListedKey = inv.0 ++ (key_in b ∷ []) in
    let end = data_end list at _ _ (first list at c.record_length-n.ensures) (second list at c.record_length-n.ensures c.record_length-len.ensures) (pair_at w) in
    let compared = sym (c.equal.ensures ∙ ap (same name) (c.value_in.ensures ∙ ap value_in (lent at list))) in (
      omega (arith, end, within_at w),
      (
        keys,
        (
          ap (λ (l : List ℕ). read_pairs l (whole keys)) (ap (λ (k : ℕ). drop k list) end ∙ sym (drop-drop (pair_size b) at list)) ∙ rest list at inv.0 inv.1.0 c.loop-at-test.true,
          new_more name inv.0 (key_in b) inv.1.1 (compared ∙ c.if-equal.false),
        ),
      ),
    )

pub returns : goal.returns
unfolding data_found data_of place_end
returns c =
    let s = c.args in
    let l = c.loop-at in
    let all : keys_in s.list.now ≡ l.invariant.1.0
    = some_same (sym l.invariant.1.1.0 ∙ pairs_end l.invariant.1.0 (drop l.at s.list.now) (omega (arith, c.loop-at-test.false, length-drop l.at s.list.now))) in
    let none_named = named_none s.name.now (keys_in s.list.now) (ap (λ (ks : List ListedKey). is_new s.name.now (names_of ks)) all ∙ l.invariant.1.1.1) in
    record {
      bytes = sym (ap data_of none_named);
      within = omega arith;
    }
