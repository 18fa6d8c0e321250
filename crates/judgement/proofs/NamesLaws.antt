-- No request changes the applications' names.
use mathlib.Core.Path.{◌≡◌, refl, ◌∙◌}
use mathlib.Core.Bool.{true}
use mathlib.Core.List.{List}
use Prim.Native.Nat.{ℕ}
use lib.ListN.{length, take}
use Rattle.stream.specs.Rules.{Outcome, Progress, answer, finish, start, rules}
use Rattle.stream.proofs.AccountingLaws.{by_requests}
use Rattle.registry.specs.Registry.{names_in}
use Rattle.registry.specs.WellFormed.{well_formed_registry}
use Rattle.judgement.specs.Counts.{Counts}
use Rattle.judgement.specs.Judgement.{refused_early, judgement}
use Rattle.judgement.proofs.JudgementLaws.{judge_good_lem, judge_names}

SameNames : ℕ → Progress (List ℕ) Counts (List ℕ) → List ℕ → Outcome (List ℕ) Counts (List ℕ) → Type 0
SameNames taken p s o = well_formed_registry p.registry ≡ true → names_in o.state.registry ≡ names_in p.registry

-- the registry that the rules leave has the names of the one that they start from
pub rules_names : (list registry : List ℕ) → well_formed_registry registry ≡ true → (stream : List ℕ)
    → names_in (rules (judgement list) registry stream).state.registry ≡ names_in registry
unfolding SameNames rules start finish answer judgement refused_early
rules_names list registry w stream = by_requests (judgement list) SameNames
    (λ taken p s u g. refl)
    (λ taken p s h g. refl)
    (λ taken p s k g. refl)
    (λ taken p s n o h k rest g. rest (judge_good_lem list p.registry p.counts (take n s) g) ∙ judge_names list p.registry p.counts (take n s) g)
    (length stream) (start (judgement list) registry) stream w
