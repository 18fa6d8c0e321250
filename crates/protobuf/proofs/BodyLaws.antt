-- The plain equations of `body_at`, by what the step at hand is; and the spans of a message lie within the body.
use Rattle.std.proofs.Common.{Option, Some, None, Ok, Err}
use Prim.Native.Nat.{ℕ, ◌≤◌, ◌<◌}
use native.Mathlib.Omega.{arith}
use mathlib.Core.Path.{◌≡◌}
use mathlib.Core.List.{List}
use lib.ListN.{length}
use Rattle.fields.specs.code.Fields.{all_absent, ValuesIn, BodyIn}
use Rattle.protobuf.specs.code.Message.{step_at}
use Rattle.protobuf.specs.code.Body.{turn_of, turn_at, body_at, body_of}
use Rattle.fields.specs.declared.Schema.{Schema}
use Rattle.fields.specs.declared.Values.{Values}
use Rattle.protobuf.proofs.FieldLaws.{Ahead}
use Rattle.protobuf.proofs.StepLaws.{StepAhead, StepIn, step_ahead, step_in}
use Rattle.wire.proofs.ScanLaws.{TurnAhead, TurnHas, scan_end, scan_on, scan-has}

turn_of_ahead : (n at : ℕ) (t : Option (Values × ℕ)) → StepAhead n at t → TurnAhead at (turn_of at t)
turn_of_ahead n at (Some (m, next)) h = h.behind
turn_of_ahead n at None h = tt

module _ (k : Schema) (s : List ℕ) where
  turn_ahead : (at : ℕ) (m : Values) → TurnAhead at (turn_at k s at m)
  turn_ahead at m = turn_of_ahead (length s) at (step_at k s at m) (step_ahead k s at m)

  pub read_end : (at : ℕ) (m : Values) → length s ≤ at → body_at k s at m ≡ Ok m
  read_end at m h = scan_end (turn_at k s) Ok (length s) at m h

  pub goes_on : (at : ℕ) (m m' : Values) (next : ℕ) → at < length s → step_at k s at m ≡ Some (m', next) → body_at k s at m ≡ body_at k s next m'
  goes_on at m m' next h e = rw e at (scan_on (turn_at k s) Ok (length s) turn_ahead at m h)

  pub goes_ahead : (at : ℕ) (m m' : Values) (next : ℕ) → step_at k s at m ≡ Some (m', next) → Ahead (length s) at next
  goes_ahead at m m' next e = rw e at (step_ahead k s at m)

  pub refuses : (at : ℕ) (m : Values) → at < length s → step_at k s at m ≡ None → body_at k s at m ≡ Err at
  refuses at m h e = rw e at (scan_on (turn_at k s) Ok (length s) turn_ahead at m h)

-- ---- the spans of a message lie within the body

turn_of_in : (n at : ℕ) (t : Option (Values × ℕ)) → at ≤ n → StepAhead n at t → StepIn n t → TurnHas (λ p m. (p ≤ n) × ValuesIn n m) (BodyIn n) (turn_of at t)
turn_of_in n at (Some (m, next)) l a h = (a.within, h)
turn_of_in n at None l a h = l

pub body_in : (k : Schema) (s : List ℕ) → BodyIn (length s) (body_of k s)
body_in k s =
    let n = length s in
    scan-has (turn_at k s) Ok n (λ p m. (p ≤ n) × ValuesIn n m) (BodyIn n) (λ _ m h. h.1)
    (λ at m h. turn_of_in n at (step_at k s at m) h.0 (step_ahead k s at m) (step_in k s at m h.1)) 0 all_absent (omega arith, omega arith)

pub ruleset reads = (goes_on, goes_ahead, refuses, read_end)
