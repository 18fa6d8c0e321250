-- THE VERDICT: captured responses against those that the rules give, one by one (document 02, "The auditor").
use Rattle.std.specs.Prelude.{ℕ, suc, List, [], ◌∷◌, length, drop, eqb, ltb}
use Rattle.wire.specs.Choice.{when◌then◌else◌}
use Rattle.stream.specs.Rules.{rules}
use Rattle.judgement.specs.Judgement.{judgement}
use Rattle.audit.specs.declared.Verdict.{Verdict}
use Rattle.audit.specs.declared.Verdict.TheVariants.{Accepted, Wrong}

-- how many first bytes are alike
unfoldable pub alike : (xs ys : List ℕ) → ℕ
alike [] ys = 0
alike (x ∷ xs) [] = 0
alike (x ∷ xs) (y ∷ ys) = when eqb x y then suc (alike xs ys) else 0

-- `number` is the first response's; one that ends early is wrong at its first missing byte, and a stream that runs on at byte 0 of
-- one response more
unfoldable pub compared : (number : ℕ) (responses : List (List ℕ)) (captured : List ℕ) → Verdict
compared number [] [] = Accepted
compared number [] (byte ∷ captured) = Wrong number 0
compared number (response ∷ responses) captured =
    let n = alike response captured in
    when ltb n (length response) then Wrong number n else compared (suc number) responses (drop n captured)

-- from a start registry, with a list of keys that we ship
unfoldable pub audit : (list registry requests captured : List ℕ) → Verdict
audit list registry requests captured = compared 1 (rules (judgement list) registry requests).responses captured
