-- Requests judged one after the other, whatever the judgement may be; and when others' requests can be left out.
use mathlib.Core.Path.{◌≡◌, refl, sym, ap, ap₂, ◌∙◌, subst}
use Prim.Native.Nat.{ℕ}
use mathlib.Core.Logic.{◌⊎◌, inl, inr}
use mathlib.Core.Bool.{Bool, true, false}
use mathlib.Core.List.{List, [], ◌∷◌, map}
use Rattle.wire.specs.Choice.{when◌then◌else◌}
use Rattle.stream.specs.Rules.{Verdict, Judgement}
use Rattle.stream.specs.Parts.{verdict_on}
use Rattle.stream.proofs.PartsLaws.{counts_from, registry_from}
use Rattle.isolation.specs.History.{Exchange, requests, responses, those}

-- the requests that pass a test
unfoldable pub only : (List ℕ → Bool) → List (List ℕ) → List (List ℕ)
only p [] = []
only p (q ∷ qs) = when p q then q ∷ only p qs else only p qs

pub only_those : (p : List ℕ → Bool) (xs : List Exchange) → requests (those p xs) ≡ only p (requests xs)
unfolding only those
only_those p [] = refl
only_those p (x ∷ xs) = go (p x.request) refl (only_those p xs)
  where
    go : (t : Bool) → p x.request ≡ t → requests (those p xs) ≡ only p (requests xs) → requests (those p (x ∷ xs)) ≡ only p (requests (x ∷ xs))
    go true e ih = rw (e, those, only) (ap (λ (l : List (List ℕ)). x.request ∷ l) ih)
    go false e ih = rw (e, those, only) ih

-- exchanges but for their connections
abbrev pub unplaced : List Exchange → List Exchange
unplaced xs = map (λ x. record { connection = 0; request = x.request; response = x.response }) xs

pub those_unplaced : (p : List ℕ → Bool) (xs : List Exchange) → responses (those p (unplaced xs)) ≡ responses (those p xs)
unfolding those
those_unplaced p [] = refl
those_unplaced p (x ∷ xs) = go (p x.request) refl (those_unplaced p xs)
  where
    go : (t : Bool) → p x.request ≡ t → responses (those p (unplaced xs)) ≡ responses (those p xs)
        → responses (those p (unplaced (x ∷ xs))) ≡ responses (those p (x ∷ xs))
    go true e ih = rw (e, those) (ap (λ (l : List (List ℕ)). x.response ∷ l) ih)
    go false e ih = rw (e, those) ih

module _ {Reg Count : Type 0} (J : Judgement Reg Count (List ℕ)) where
  -- each request with its response, judged on what the one before it left, whatever its connection
  unfoldable pub replay : Reg → Count → (requests : List (List ℕ)) → List Exchange
  replay r c [] = []
  replay r c (q ∷ qs) =
      let v = verdict_on J r c q in
      record { connection = 0; request = q; response = v.response } ∷ replay v.registry v.counts qs

  -- what a view shows of registry and counts is moved by the requests that are own alone, and they are answered by the view alone
  pub record Projection {View : Type 0} (Good : Reg → Count → Type 0) (is_own : List ℕ → Bool) (view : Reg → Count → View) : Type 0 where
    pub kept : (r : Reg) (c : Count) (q : List ℕ) → Good r c → Good (verdict_on J r c q).registry (verdict_on J r c q).counts
    pub others : (r : Reg) (c : Count) (q : List ℕ) → Good r c → is_own q ≡ false
        → view (verdict_on J r c q).registry (verdict_on J r c q).counts ≡ view r c
    pub own_answer : (r r' : Reg) (c c' : Count) (q : List ℕ) → Good r c → Good r' c' → is_own q ≡ true → view r c ≡ view r' c'
        → (verdict_on J r c q).response ≡ (verdict_on J r' c' q).response
    pub own_view : (r r' : Reg) (c c' : Count) (q : List ℕ) → Good r c → Good r' c' → is_own q ≡ true → view r c ≡ view r' c'
        → view (verdict_on J r c q).registry (verdict_on J r c q).counts ≡ view (verdict_on J r' c' q).registry (verdict_on J r' c' q).counts

  module _ {View : Type 0} (Good : Reg → Count → Type 0) (is_own : List ℕ → Bool) (view : Reg → Count → View) (P : Projection Good is_own view) where
    abbrev answers_to : Reg → Count → (requests : List (List ℕ)) → List (List ℕ)
    answers_to r c qs = responses (those is_own (replay r c qs))

    abbrev view_after : Reg → Count → (requests : List (List ℕ)) → View
    view_after r c qs = view (registry_from J r c qs) (counts_from J r c qs)

    -- what is the owner's, after requests on r and c, and after others on r' and c'
    pub record Agree (r : Reg) (c : Count) (qs : List (List ℕ)) (r' : Reg) (c' : Count) (qs' : List (List ℕ)) : Type 0 where
      pub answers : answers_to r c qs ≡ answers_to r' c' qs'
      pub views : view_after r c qs ≡ view_after r' c' qs'

    -- with the others' requests left out
    purged : (qs : List (List ℕ)) (r r' : Reg) (c c' : Count) → Good r c → Good r' c' → view r c ≡ view r' c'
        → Agree r c qs r' c' (only is_own qs)
    unfolding replay registry_from counts_from only those
    purged [] r r' c c' g g' e = record { answers = refl; views = e }
    purged (q ∷ qs) r r' c c' g g' e = go (is_own q) refl (purged qs)
      where
        v : Verdict Reg Count (List ℕ)
        v = verdict_on J r c q

        v' : Verdict Reg Count (List ℕ)
        v' = verdict_on J r' c' q

        go : (t : Bool) → is_own q ≡ t
            → ((r r' : Reg) (c c' : Count) → Good r c → Good r' c' → view r c ≡ view r' c' → Agree r c qs r' c' (only is_own qs))
            → Agree r c (q ∷ qs) r' c' (only is_own (q ∷ qs))
        go true o ih =
            let a = ih v.registry v'.registry v.counts v'.counts (P.kept r c q g) (P.kept r' c' q g') (P.own_view r r' c c' q g g' o e) in
            rw (o, only) (record {
              answers = rw (o, those) (ap₂ (λ (x : List ℕ) (l : List (List ℕ)). x ∷ l) (P.own_answer r r' c c' q g g' o e) a.answers);
              views = a.views;
            })
        go false o ih =
            let a = ih v.registry r' v.counts c' (P.kept r c q g) g' (P.others r c q g o ∙ e) in
            rw (o, only) (record { answers = rw (o, those) a.answers; views = a.views })

    nothing : (r r' : Reg) (c c' : Count) → view r c ≡ view r' c' → Agree r c [] r' c' []
    unfolding replay registry_from counts_from those
    nothing r r' c c' e = record { answers = refl; views = e }

    joined : {r r' r'' : Reg} {c c' c'' : Count} {qs qs' qs'' : List (List ℕ)}
        → Agree r c qs r' c' qs' → Agree r' c' qs' r'' c'' qs'' → Agree r c qs r'' c'' qs''
    joined a b = record { answers = a.answers ∙ b.answers; views = a.views ∙ b.views }

    back : {r r' : Reg} {c c' : Count} {qs qs' : List (List ℕ)} → Agree r c qs r' c' qs' → Agree r' c' qs' r c qs
    back a = record { answers = sym a.answers; views = sym a.views }

    -- on a good registry and counts, or where nothing was asked
    own_only : (qs : List (List ℕ)) (r : Reg) (c : Count) → Good r c ⊎ (qs ≡ []) → Agree r c qs r c (only is_own qs)
    own_only qs r c (inl g) = purged qs r r c c g g refl
    own_only qs r c (inr n) = unfold only in rw n (nothing r r c c refl)

    own_same : (qs : List (List ℕ)) (r r' : Reg) (c c' : Count) → Good r c → Good r' c' → view r c ≡ view r' c' → Agree r c (only is_own qs) r' c' (only is_own qs)
    own_same qs r r' c c' g g' e = joined (back (purged qs r r c c g g refl)) (purged qs r r' c c' g g' e)

    none_own : (qs qs' : List (List ℕ)) → only is_own qs ≡ only is_own qs' → qs ≡ [] → only is_own qs' ≡ []
    unfolding only
    none_own qs qs' same n = sym same ∙ ap (only is_own) n

    -- whatever the others' requests were
    pub agree : (qs qs' : List (List ℕ)) → only is_own qs ≡ only is_own qs' → (r r' : Reg) (c c' : Count)
        → Good r c ⊎ (qs ≡ []) → Good r' c' ⊎ (qs' ≡ []) → view r c ≡ view r' c' → Agree r c qs r' c' qs'
    agree qs qs' same r r' c c' g g' e =
        joined (own_only qs r c g) (joined (between g g') (subst (λ (l : List (List ℕ)). Agree r' c' l r' c' qs') (sym same) (back (own_only qs' r' c' g'))))
      where
        empty : only is_own qs ≡ [] → Agree r c (only is_own qs) r' c' (only is_own qs)
        empty n = subst (λ (l : List (List ℕ)). Agree r c l r' c' l) (sym n) (nothing r r' c c' e)

        between : Good r c ⊎ (qs ≡ []) → Good r' c' ⊎ (qs' ≡ []) → Agree r c (only is_own qs) r' c' (only is_own qs)
        between (inl g) (inl g') = own_same qs r r' c c' g g' e
        between (inl g) (inr n') = empty (none_own qs' qs (sym same) n')
        between (inr n) k = empty (none_own qs qs refl n)
