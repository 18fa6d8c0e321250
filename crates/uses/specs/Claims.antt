-- What is claimed of the counts of an application's keys (document 02, "Use per key"): types, no proof.
use Rattle.std.specs.Prelude.{◌≡◌, ℕ, ◌+◌, ◌<◌, true, List, ltb}
use Rattle.wire.specs.Lists.{all}
use Rattle.registry.specs.Slots.{uses_most}
use Rattle.registry.specs.Registry.{line_count, uses_of}
use Rattle.registry.specs.WellFormed.{well_formed_registry}
use Rattle.registry.specs.declared.Line.{Line}
use Rattle.reading.specs.Calls.{taken_stream}
use Rattle.stream.specs.Rules.{rules}
use Rattle.stream.specs.Parts.{parts_of}
use Rattle.judgement.specs.Counts.{sum}
use Rattle.judgement.specs.Judgement.{judgement}
use Rattle.service.specs.Call.{fresh, Call}
use Rattle.service.specs.Contract.{Ran}
use Rattle.service.specs.Claims.{Runs, answers_in, left_after}
use Rattle.uses.specs.Uses.{is_use, destroys_key, count_if}

-- the registry `after` these requests: if the application of this line destroys no key and none of its counts is at the most
-- afterwards, then their sum is that before and the number of requests that use a key of its own
abbrev pub AddsUp : (list registry : List ℕ) → Line → (after : List ℕ) (requests : List (List ℕ)) → Type 0
AddsUp list registry line after requests =
    count_if (destroys_key list line) list registry requests ≡ 0
    → all (λ n. ltb n uses_most) (uses_of after line) ≡ true
    → sum (uses_of after line) ≡ sum (uses_of registry line) + count_if (is_use list line) list registry requests

-- any stream under the rules
abbrev pub UsesAddUp : Type 0
UsesAddUp = (list registry : List ℕ) → well_formed_registry registry ≡ true → (line : Line) → line.0 < line_count → (stream : List ℕ)
    → AddsUp list registry line (rules (judgement list) registry stream).state.registry (parts_of stream).answered

-- any calls of the code from a fresh connection and zero counters: the registry that they left, and the joined stream of taken
-- bytes
abbrev pub UsesOfCalls : Type 0
UsesOfCalls = (list registry : List ℕ) → well_formed_registry registry ≡ true → (line : Line) → line.0 < line_count
    → (calls : List Call) (runs : List Ran) → Runs list (fresh registry) calls runs
    → AddsUp list registry line (left_after (fresh registry) runs).registry (parts_of (taken_stream calls (answers_in runs))).answered
