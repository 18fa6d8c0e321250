-- What is claimed of a service that goes on with what its journal gives back: types, no proof. Each is for any cut of the journal
-- into chunks, and about whatever code meets the contracts of the call and of the journal's reader.
use Rattle.std.specs.Prelude.{◌≡◌, ℕ, ◌≤◌, true, length, take, eqb, Ok}
use mathlib.Core.List.{List, [], ◌++◌, flatten}
use Rattle.wire.specs.Choice.{when◌then◌else◌}
use Rattle.reading.specs.Calls.{taken_stream}
use Rattle.registry.specs.WellFormed.{well_formed_registry}
use Rattle.roster.specs.Roster.{load_roster}
use Rattle.stream.specs.Rules.{rules}
use Rattle.stream.specs.Handed.{responses_in, joined_records}
use Rattle.stream.specs.Parts.{parts_of}
use Rattle.judgement.specs.Judgement.{judgement}
use Rattle.journal.specs.declared.read.Said.TheVariants.{Waiting, AtBorder}
use Rattle.journal.specs.Compact.{file_most}
use Rattle.journal.specs.Claims.{read_back, to_its_end, ReadsAs, are_bytes}
use Rattle.service.specs.Call.{Call, fresh}
use Rattle.service.specs.Contract.{Ran}
use Rattle.service.specs.Claims.{Runs, answers_in, left_after}
use Rattle.recovery.specs.Unused.{never_used, unused}

-- ---- A START: the journal so far, read to its end from a well-formed registry, gives the one that the service begins with; its
-- use counts are 0

pub record Start (first journal registry : List ℕ) : Type 0 where
  pub well_formed_lem : well_formed_registry first ≡ true
  pub bytes : are_bytes journal ≡ true
  pub read : read_back first journal ≡ to_its_end journal registry
  pub idle : never_used registry ≡ true

-- the first one: a roster's registry, and no journal yet
abbrev pub FirstStart : Type 0
FirstStart = (roster memory : List ℕ) → (load_roster roster memory).answer ≡ Ok tt
    → (let registry : List ℕ = (load_roster roster memory).registry in Start registry [] registry)

-- ---- RESTORE: any calls of the code, refused ones among them, from a fresh connection and zero counters. Their records, behind
-- the journal so far, give back the registry that they left, with use counts 0: the next start

abbrev pub Restores : Type 0
Restores = (list first journal registry : List ℕ) → Start first journal registry → (calls : List Call) (runs : List Ran) → Runs list (fresh registry) calls runs
    → are_bytes (taken_stream calls (answers_in runs)) ≡ true
    → (let after : List ℕ = journal ++ joined_records (answers_in runs) in
    let left : List ℕ = unused (left_after (fresh registry) runs).registry in
    length after ≤ file_most → ReadsAs first after (to_its_end after left) × Start first after left)

-- ---- NOTHING ACKNOWLEDGED IS LOST: a host puts each record on disk before it sends the response. The responses of the first
-- `sent` calls were sent, so that their records are on disk; n bytes of all records are left there

module _ (list first journal registry : List ℕ) (calls : List Call) (runs : List Ran) where
  abbrev pub answered_requests : List (List ℕ)
  answered_requests = (parts_of (taken_stream calls (answers_in runs))).answered

  -- the registry of the rules after so many of them, with use counts 0
  abbrev pub left_by : (count : ℕ) → List ℕ
  left_by count = unused (rules (judgement list) registry (flatten (take count answered_requests))).state.registry

  abbrev pub on_disk : (n : ℕ) → List ℕ
  on_disk n = journal ++ take n (joined_records (answers_in runs))

  pub record Survives (sent n : ℕ) : Type 0 where
    -- some number of the answered requests, which includes each whose response was sent
    pub count : ℕ
    pub sent_among : length (responses_in (take sent (answers_in runs))) ≤ count
    pub most : count ≤ length answered_requests
    -- reading what is left gives the registry after these, and the bytes up to and with their records
    pub kept : ℕ
    pub reads : ReadsAs first (on_disk n) (record { said = when eqb kept (length (on_disk n)) then AtBorder else Waiting; taken = length (on_disk n); kept = kept; registry = left_by count })
    -- and with the record that was cut dropped it is the next start
    pub again : Start first (take kept (on_disk n)) (left_by count)

abbrev pub Durable : Type 0
Durable = (list first journal registry : List ℕ) → Start first journal registry → (calls : List Call) (runs : List Ran) → Runs list (fresh registry) calls runs
    → are_bytes (taken_stream calls (answers_in runs)) ≡ true
    → (sent n : ℕ) → length (joined_records (take sent (answers_in runs))) ≤ n → length (on_disk list first journal registry calls runs n) ≤ file_most
    → Survives list first journal registry calls runs sent n
