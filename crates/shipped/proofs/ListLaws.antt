-- Laws of the list: a good one is read pair by pair, the part before a pair is a list too, and the search by name.
use Rattle.std.proofs.Common.{Option, Some, None, is_some}
use mathlib.Core.Path.{◌≡◌, refl, sym, ap, ap₂, ◌∙◌, subst}
use mathlib.Core.Bool.{Bool, true, false, true≢false, not, ◌&&◌}
use mathlib.Core.List.{List, [], ◌∷◌, ◌++◌, append_assoc, append-nil, map-append}
use Prim.Native.Nat.{ℕ, ◌+◌, ◌-◌, ◌≤◌, ◌<◌}
use native.Mathlib.Omega.{arith}
use native.Mathlib.Decide.{dec_lt}
use borrow.Author.Tests.{not-true}
use lib.ListN.{length, take, drop, length-drop, take-append-drop}
use lib.Seq.{drop-drop, take-add, length-take-le}
use Rattle.wire.specs.Choice.{when◌then◌else◌}
use Rattle.wire.specs.Lists.{same, every}
use Rattle.wire.specs.Numbers.{field}
use Rattle.wire.proofs.TestLaws.{some≢none, and_left, and_right}
use Rattle.wire.proofs.ListLaws.{all_append}
use Rattle.keys.specs.Names.{is_new}
use Rattle.records.specs.Records.{Record, record_length, value_in, next, stop}
use Rattle.records.proofs.RecordLaws.{StepHas, records_empty, records_have, records_append}
use Rattle.shipped.specs.Shipped.{ListedKey, names_of, listed_most, Pairs, whole, named, name_tests, data_tests, pair_step, pairs_done, list_of, well_formed_list, keys_in, listed_named}
use Rattle.shipped.specs.code.Pairs.{behind, is_pair, pair_size, key_in, data_found, data_of, Finds}
use Rattle.shipped.proofs.PairLaws.{read_pairs, pair_long, pair_room, pairs_none, pairs_over, pairs_repeated, pairs_on, front_pair, front_key, front_long}
use Rattle.wire.specs.declared.span.Span.{Span}

-- ---- a good list and a bad one

module _ (list : List ℕ) where
  pub good_list : well_formed_list list ≡ true → list_of list ≡ Some (keys_in list)
  unfolding well_formed_list keys_in
  good_list e = go (list_of list) refl e
    where
      go : (o : Option (List ListedKey)) → list_of list ≡ o → is_some o ≡ true → o ≡ Some (keys_in list)
      go (Some keys) q t = rw (keys_in, q)
      go None q t = absurd (true≢false (sym t))

  pub list_good : (keys : List ListedKey) → list_of list ≡ Some keys → well_formed_list list ≡ true
  unfolding well_formed_list
  list_good keys e = rw e

  pub list_keys : (keys : List ListedKey) → list_of list ≡ Some keys → keys_in list ≡ keys
  unfolding keys_in
  list_keys keys e = rw (keys_in, e)

  pub list_bad : list_of list ≡ None → well_formed_list list ≡ false
  unfolding well_formed_list
  list_bad e = rw e

pub pairs_end : (keys : List ListedKey) (bytes : List ℕ) → length bytes ≤ 0 → read_pairs bytes (whole keys) ≡ Some keys
unfolding pairs_done
pairs_end keys [] h = records_empty None pair_step pairs_done (whole keys)
pairs_end keys (b ∷ bytes) h = absurd (omega arith)

-- ---- the part before a pair is a list

told : (keys : List ListedKey) (state : Pairs) → pairs_done state ≡ Some keys → state ≡ whole keys
unfolding pairs_done
told keys (whole ks) e = cc
told keys (named ks name) e = absurd (some≢none keys (sym e))

goes : (keys : List ListedKey) (state : Pairs) (r : Record) → pair_step state r ≡ stop (Some keys) → ⊥
unfolding pair_step
goes keys (whole ks) r e = go (every (name_tests ks r)) e
  where
    go : (t : Bool) → (when t then next (named ks r.value) else stop None) ≡ stop (Some keys) → ⊥
    go true q = true≢false cc
    go false q = true≢false cc
goes keys (named ks n) r e = go (every (data_tests r)) e
  where
    go : (t : Bool) → (when t then next (whole (ks ++ (record { name = n; bytes = r.value } ∷ []))) else stop None) ≡ stop (Some keys) → ⊥
    go true q = true≢false cc
    go false q = true≢false cc

list_append : (keys : List ListedKey) (x y : List ℕ) → list_of x ≡ Some keys → list_of (x ++ y) ≡ read_pairs y (whole keys)
unfolding list_of
list_append keys x y e =
    records_append None pair_step pairs_done (Some keys) (whole keys) (λ q. some≢none keys (sym q)) (told keys) (goes keys) x y (whole []) e

-- one pair more
module _ (keys : List ListedKey) (list : List ℕ) (at : ℕ) (few : length keys < listed_most) (before : list_of (take at list) ≡ Some keys)
    (pair : is_pair (drop at list) ≡ true) (fresh : is_new (value_in (drop at list)) (names_of keys) ≡ true) where
  abbrev n : ℕ
  n = pair_size (drop at list)

  abbrev x : List ℕ
  x = take n (drop at list)

  long : length x ≡ n
  long = length-take-le n (drop at list) (pair_room (drop at list) pair)

  parts : x ++ drop n (drop at list) ≡ drop at list
  parts = take-append-drop n (drop at list)

  here : is_pair (x ++ drop n (drop at list)) ≡ true
  here = ap is_pair parts ∙ pair

  all : pair_size (x ++ drop n (drop at list)) ≡ length x
  all = ap pair_size parts ∙ sym long

  key : key_in x ≡ key_in (drop at list)
  key = front_key x (drop n (drop at list)) here all ∙ ap key_in parts

  pub before_more : list_of (take (at + pair_size (drop at list)) list) ≡ Some (keys ++ (key_in (drop at list) ∷ []))
  before_more =
      let name : value_in x ≡ value_in (drop at list) = ap (λ (k : ListedKey). k.name) key in
      ap list_of (take-add at n list)
      ∙ list_append keys (take at list) x before
      ∙ pairs_on keys x (front_pair x (drop n (drop at list)) here all) few (ap (λ (v : List ℕ). is_new v (names_of keys)) name ∙ fresh)
      ∙ ap (λ (k : ListedKey). read_pairs (drop (pair_size x) x) (whole (keys ++ (k ∷ [])))) key
      ∙ pairs_end (keys ++ (key_in (drop at list) ∷ [])) (drop (pair_size x) x)
      (omega (arith, front_long x (drop n (drop at list)) here all, length-drop (pair_size x) x))

-- ---- a good list from some pair on

module _ (keys more : List ListedKey) (bytes : List ℕ) (e : read_pairs bytes (whole keys) ≡ Some more) (h : 0 < length bytes) where
  pub next_pair : is_pair bytes ≡ true
  next_pair = go (is_pair bytes) refl
    where
      go : (t : Bool) → is_pair bytes ≡ t → t ≡ true
      go true p = refl
      go false p = absurd (some≢none more (sym e ∙ pairs_none keys bytes h p))

  next_few : length keys < listed_most
  next_few =
      elim (dec_lt (length keys) listed_most) [
        | yes l ↦ l
        | no l ↦ absurd (some≢none more (sym e ∙ pairs_over keys bytes next_pair (omega arith)))
      ]

  next_new : is_new (value_in bytes) (names_of keys) ≡ true
  next_new = go (is_new (value_in bytes) (names_of keys)) refl
    where
      go : (t : Bool) → is_new (value_in bytes) (names_of keys) ≡ t → t ≡ true
      go true p = refl
      go false p = absurd (some≢none more (sym e ∙ pairs_repeated keys bytes next_pair p))

  pub next_on : read_pairs (drop (pair_size bytes) bytes) (whole (keys ++ (key_in bytes ∷ []))) ≡ Some more
  next_on = sym (pairs_on keys bytes next_pair next_few next_new) ∙ e

-- the keys that were read stay at the front
abbrev Begins : List ListedKey → List ListedKey → Type 0
Begins keys all = (more : List ListedKey) × (all ≡ keys ++ more)

abbrev PairsBegin : List ListedKey → Pairs → Type 0
PairsBegin keys (whole ks) = Begins keys ks
PairsBegin keys (named ks name) = Begins keys ks

abbrev AllBegin : List ListedKey → Option (List ListedKey) → Type 0
AllBegin keys (Some all) = Begins keys all
AllBegin keys None = Unit {0}

begins_more : (keys ks : List ListedKey) (k : ListedKey) → Begins keys ks → Begins keys (ks ++ (k ∷ []))
begins_more keys ks k b = (b.0 ++ (k ∷ []), ap (λ (l : List ListedKey). l ++ (k ∷ [])) b.1 ∙ append_assoc keys b.0 (k ∷ []))

step_begins : (keys : List ListedKey) (state : Pairs) (r : Record) → PairsBegin keys state → StepHas (PairsBegin keys) (AllBegin keys) (pair_step state r)
unfolding pair_step
step_begins keys (whole ks) r b = go (every (name_tests ks r))
  where
    go : (t : Bool) → StepHas (PairsBegin keys) (AllBegin keys) (when t then next (named ks r.value) else stop None)
    go true = b
    go false = tt
step_begins keys (named ks n) r b = go (every (data_tests r))
  where
    go : (t : Bool) → StepHas (PairsBegin keys) (AllBegin keys) (when t then next (whole (ks ++ (record { name = n; bytes = r.value } ∷ []))) else stop None)
    go true = begins_more keys ks (record { name = n; bytes = r.value }) b
    go false = tt

done_begins : (keys : List ListedKey) (state : Pairs) → PairsBegin keys state → AllBegin keys (pairs_done state)
unfolding pairs_done
done_begins keys (whole ks) b = b
done_begins keys (named ks n) b = tt

pub begins : (keys all : List ListedKey) (bytes : List ℕ) → read_pairs bytes (whole keys) ≡ Some all → (more : List ListedKey) × (all ≡ keys ++ more)
begins keys all bytes e =
    subst (AllBegin keys) e
    (records_have None pair_step pairs_done (PairsBegin keys) (AllBegin keys) tt (done_begins keys) (step_begins keys) bytes (whole keys) ([], sym (append-nil keys)))

-- ---- the search by name

pub new_named : (name : List ℕ) (keys : List ListedKey) → is_new name (names_of keys) ≡ not (is_some (listed_named name keys))
unfolding listed_named
new_named name [] = refl
new_named name (key ∷ keys) = go (same name key.name) (new_named name keys)
  where
    go : (t : Bool) → is_new name (names_of keys) ≡ not (is_some (listed_named name keys))
        → not t && is_new name (names_of keys) ≡ not (is_some (when t then Some key else listed_named name keys))
    go true e = refl
    go false e = e

pub named_behind : (name : List ℕ) (keys more : List ListedKey) → is_new name (names_of keys) ≡ true → listed_named name (keys ++ more) ≡ listed_named name more
unfolding listed_named
named_behind name [] more e = refl
named_behind name (key ∷ keys) more e =
    rw (not-true (same name key.name) (and_left (not (same name key.name)) _ e)) (named_behind name keys more (and_right (not (same name key.name)) _ e))

pub named_none : (name : List ℕ) (keys : List ListedKey) → is_new name (names_of keys) ≡ true → listed_named name keys ≡ None
unfolding listed_named
named_none name keys e = ap (listed_named name) (sym (append-nil keys)) ∙ named_behind name keys [] e

pub some_same : {a b : List ListedKey} → Some a ≡ Some b → a ≡ b
some_same e = cc

pub named_here : (name : List ℕ) (keys more : List ListedKey) (key : ListedKey) → is_new name (names_of keys) ≡ true → same name key.name ≡ true
    → listed_named name ((keys ++ (key ∷ [])) ++ more) ≡ Some key
unfolding listed_named
named_here name keys more key e t = ap (listed_named name) (append_assoc keys (key ∷ []) more) ∙ named_behind name keys (key ∷ more) e ∙ rw t

pub new_more : (name : List ℕ) (keys : List ListedKey) (key : ListedKey) → is_new name (names_of keys) ≡ true → same name key.name ≡ false
    → is_new name (names_of (keys ++ (key ∷ []))) ≡ true
new_more name keys key e t =
    ap (is_new name) (map-append (λ (k : ListedKey). k.name) keys (key ∷ []))
    ∙ all_append (λ (y : List ℕ). not (same name y)) (names_of keys) (key.name ∷ []) e (rw t)

-- where the data of a pair lies in the list
module _ (list : List ℕ) (at n m : ℕ) (first : n ≡ record_length (drop at list)) (second : m ≡ record_length (behind (drop at list))) where
  pub data_there : take (m - 3) (drop (at + n + 3) list) ≡ (key_in (drop at list)).bytes
  data_there =
      let size : m - 3 ≡ field 1 2 (behind (drop at list)) = omega (arith, second) in
      let place : at + n + 3 ≡ at + (record_length (drop at list) + 3) = omega (arith, first) in
      ap₂ (λ (k a : ℕ). take k (drop a list)) size place
      ∙ ap (take (field 1 2 (behind (drop at list)))) (sym (drop-drop 3 (record_length (drop at list)) (drop at list) ∙ drop-drop (record_length (drop at list) + 3) at list))

  pub data_end : is_pair (drop at list) ≡ true → at + n + 3 + (m - 3) ≡ at + pair_size (drop at list)
  data_end e = omega (arith, first, second, pair_long (drop at list) e)

-- a search finds something where the name is not new
pub finds_some : (list name : List ℕ) (found : Option Span) → Finds list name found → is_some found ≡ not (is_new name (names_of (keys_in list)))
unfolding data_found data_of
finds_some list name found f = placed found ∙ ap is_some f.bytes ∙ sym (some_data (listed_named name (keys_in list))) ∙ sym (ap not (new_named name (keys_in list)) ∙ twice _)
  where
    placed : (o : Option Span) → is_some o ≡ is_some (data_found list o)
    placed (Some span) = refl
    placed None = refl

    some_data : (o : Option ListedKey) → is_some o ≡ is_some (data_of o)
    some_data (Some key) = refl
    some_data None = refl

    twice : (t : Bool) → not (not t) ≡ t
    twice true = refl
    twice false = refl
