-- What is claimed of the bill: what any calls leave, and cases that are computed from the rules. Types, no proof.
use Rattle.std.specs.Prelude.{◌≡◌, ℕ, ◌+◌, length, Some}
use mathlib.Core.List.{List, [], ◌∷◌, flatten}
use Rattle.reading.specs.Calls.{taken_stream}
use Rattle.stream.specs.Rules.{Outcome, held_bytes, rules}
use Rattle.stream.specs.Parts.{parts_of}
use Rattle.registry.specs.Slots.{Entry}
use Rattle.registry.specs.Registry.{slots_of, registry_of}
use Rattle.roster.specs.Roster.{Roster, applications, faulty, roster_of}
use Rattle.judgement.specs.Counts.{Counts}
use Rattle.judgement.specs.Judgement.{judgement}
use Rattle.service.specs.Call.{Memory, state_in, fresh, Call}
use Rattle.service.specs.Contract.{Ran}
use Rattle.service.specs.Claims.{Runs, answers_in, left_after}
use Rattle.billing.specs.Bill.{requests_on, bill_for, bill}
use Rattle.billing.specs.Outcome.{bill_in}

-- ---- any calls

-- the bill of what calls left in memory, for a roster file with these names and the joined stream of taken bytes
pub record BillOf (list file : List ℕ) (names : List (List ℕ)) (stream : List ℕ) (m : Memory) : Type 0 where
  -- its text is document 01's
  pub text : bill_in m ≡ bill_for list (roster_of file) stream
  -- the bytes on it are those of answered requests, those dropped and those held: every byte of the stream, once
  pub bytes : (state_in m).totals.taken ≡ length (flatten (parts_of stream).answered) + (state_in m).totals.dropped + held_bytes (state_in m).connection
  -- the requests on it are the answered ones, each once
  pub requests : requests_on names (state_in m) ≡ length (parts_of stream).answered

-- any calls of the code, all lent this list, from a fresh connection, zero counters and the registry of a good roster file
abbrev pub BillOfCalls : Type 0
BillOfCalls = (list file : List ℕ) (names : List (List ℕ)) → roster_of file ≡ applications names
    → (calls : List Call) (runs : List Ran) → Runs list (fresh (registry_of names)) calls runs
    → BillOf list file names (taken_stream calls (answers_in runs)) (left_after (fresh (registry_of names)) runs)

-- ---- a case: a roster, a stream and a list of keys that we ship, and what it shows: the responses, the slots of application 0
-- afterwards, and the bill

pub record Shown : Type 0 where
  pub responses : List (List ℕ)
  pub slots : List Entry
  pub bill : List ℕ

pub record Case : Type 0 where
  pub roster : List ℕ
  pub stream : List ℕ
  pub list : List ℕ  -- of the keys that we ship
  pub shown : Shown

unfoldable pub shown_by : Outcome (List ℕ) Counts (List ℕ) → (bill : List ℕ) → Shown
shown_by o bill = record { responses = o.responses; slots = slots_of o.state.registry (record { 0 = 0 }); bill = bill }

unfoldable pub start_of : Roster → List ℕ
start_of (applications names) = registry_of names
start_of (faulty fault) = []

-- by the rules on the whole stream
unfoldable pub shown_for : (roster stream list : List ℕ) → Shown
shown_for roster stream list = shown_by (rules (judgement list) (start_of (roster_of roster)) stream) (bill (Some roster) (Some stream) (Some list))

-- all cases of a table hold
abbrev pub AllHold : List Case → Type 0
AllHold [] = Unit {0}
AllHold (c ∷ cs) = (shown_for c.roster c.stream c.list ≡ c.shown) × AllHold cs
