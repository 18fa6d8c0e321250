-- The data of every key in a list is legal.
use Rattle.std.proofs.Common.{Option, Some, None}
use mathlib.Core.Path.{◌≡◌, refl, sym, subst}
use mathlib.Core.Bool.{Bool, true, false}
use mathlib.Core.List.{List, [], ◌∷◌, ◌++◌}
use Prim.Native.Nat.{ℕ}
use Rattle.wire.specs.Choice.{when◌then◌else◌}
use Rattle.wire.specs.Lists.{all, same, every}
use Rattle.wire.proofs.TestLaws.{some≢none, and_left, and_right, every_at}
use Rattle.wire.proofs.ListLaws.{all_append}
use Rattle.keys.specs.Key.{legal_data}
use Rattle.records.specs.Records.{Record, next, stop}
use Rattle.records.proofs.RecordLaws.{StepHas, records_have}
use Rattle.shipped.specs.Shipped.{ListedKey, Pairs, whole, named, name_tests, data_tests, pair_step, pairs_done, list_of, keys_in, listed_named}

abbrev is_legal : ListedKey → Bool
is_legal key = legal_data key.bytes

abbrev PairsLegal : Pairs → Type 0
PairsLegal (whole keys) = all is_legal keys ≡ true
PairsLegal (named keys name) = all is_legal keys ≡ true

abbrev AllLegal : Option (List ListedKey) → Type 0
AllLegal (Some keys) = all is_legal keys ≡ true
AllLegal None = Unit {0}

step_legal : (state : Pairs) (r : Record) → PairsLegal state → StepHas PairsLegal AllLegal (pair_step state r)
unfolding pair_step
step_legal (whole keys) r l = go (every (name_tests keys r))
  where
    go : (t : Bool) → StepHas PairsLegal AllLegal (when t then next (named keys r.value) else stop None)
    go true = l
    go false = tt
step_legal (named keys n) r l = go (every (data_tests r)) refl
  where
    go : (t : Bool) → every (data_tests r) ≡ t
        → StepHas PairsLegal AllLegal (when t then next (whole (keys ++ (record { name = n; bytes = r.value } ∷ []))) else stop None)
    go true e = all_append is_legal keys (record { name = n; bytes = r.value } ∷ []) l (rw (every_at (data_tests r) 1 e))
    go false e = tt

done_legal : (state : Pairs) → PairsLegal state → AllLegal (pairs_done state)
unfolding pairs_done
done_legal (whole keys) l = l
done_legal (named keys n) l = tt

keys_legal : (list : List ℕ) → all is_legal (keys_in list) ≡ true
unfolding keys_in list_of
keys_legal list =
    go (list_of list) refl (records_have None pair_step pairs_done PairsLegal AllLegal tt done_legal step_legal list (whole []) refl)
  where
    go : (o : Option (List ListedKey)) → list_of list ≡ o → AllLegal o → all is_legal (keys_in list) ≡ true
    go (Some keys) q l = rw (keys_in, q) l
    go None q l = rw (keys_in, q)

named_legal : (name : List ℕ) (keys : List ListedKey) (key : ListedKey) → all is_legal keys ≡ true → listed_named name keys ≡ Some key → legal_data key.bytes ≡ true
unfolding listed_named
named_legal name [] key l e = absurd (some≢none key (sym e))
named_legal name (k ∷ keys) key l e = go (λ q. named_legal name keys key (and_right (is_legal k) _ l) q) (same name k.name) e
  where
    go : (listed_named name keys ≡ Some key → legal_data key.bytes ≡ true) → (t : Bool)
        → (when t then Some k else listed_named name keys) ≡ Some key → legal_data key.bytes ≡ true
    go rest true q =
        let w : k ≡ key = cc in
        subst (λ (x : ListedKey). is_legal x ≡ true) w (and_left (is_legal k) _ l)
    go rest false q = rest q

-- also of the one that a search finds
pub listed_legal : (list name : List ℕ) (key : ListedKey) → listed_named name (keys_in list) ≡ Some key → legal_data key.bytes ≡ true
listed_legal list name key e = named_legal name (keys_in list) key (keys_legal list) e
