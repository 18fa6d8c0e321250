-- What a program keeps while it reads a stream.
use Rattle.std.specs.Prelude.{ℕ, ◌+◌, ◌/◌, ◌≤◌, ◌≡◌, Bool, true, List, ◌++◌, length, Option, Some, None}
use Rattle.stream.specs.Rules.{rules}
use Rattle.registry.specs.WellFormed.{well_formed_registry}
use Rattle.shipped.specs.Shipped.{well_formed_list}
use Rattle.judgement.specs.Judgement.{judgement}
use Rattle.counters.specs.Counters.{counter_most}
use Rattle.service.specs.Call.{Memory, memory_of, chunk_most}
use Rattle.counters.specs.declared.Counters.{Counters}
use Rattle.starting.specs.declared.feed.Taken.{Taken}
use Rattle.starting.specs.declared.files.Input.{Input}
use Rattle.starting.specs.declared.files.Input.TheVariants.{Bytes, End, Failed}

-- what reading into a buffer of so many bytes gives: some of them, or none
unfoldable pub ReadWithin : (most : ℕ) → Input → Type 0
ReadWithin most (Bytes n) = (1 ≤ n) × (n ≤ most)
ReadWithin most End = Unit {0}
ReadWithin most Failed = Unit {0}

-- how much of a file was kept
unfoldable pub KeptWithin : (most : ℕ) → Option ℕ → Type 0
KeptWithin most (Some n) = n ≤ most
KeptWithin most None = Unit {0}

-- so many chunks have at most as many bytes as a counter may count
abbrev pub turns_most : ℕ
turns_most = counter_most / chunk_most

-- what the rules leave in memory after a stream, with this list of keys
abbrev pub left_by : (list registry stream : List ℕ) → Memory
left_by list registry stream = memory_of (rules (judgement list) registry stream).state

-- memory that the rules leave after some stream, from a good registry and with a good list, and so many bytes more are below the
-- counters' limit
pub record Follows (list : List ℕ) (more : ℕ) (m : Memory) : Type 0 where
  pub registry : List ℕ
  pub stream : List ℕ
  pub good : well_formed_registry registry ≡ true
  pub listed : well_formed_list list ≡ true
  pub short : length stream + more ≤ counter_most
  pub memory : m ≡ left_by list registry stream

-- bytes were taken: from what the rules leave after a stream to what they leave after it and the bytes
unfoldable pub Takes : (list bytes : List ℕ) (before after : Memory) → Type 0
Takes list bytes before after =
    (registry stream : List ℕ) → well_formed_registry registry ≡ true → well_formed_list list ≡ true → length stream + length bytes ≤ counter_most
    → before ≡ left_by list registry stream → after ≡ left_by list registry (stream ++ bytes)

-- what the rules leave after some stream of at most so many bytes
pub record After (list registry : List ℕ) (most : ℕ) (m : Memory) : Type 0 where
  pub stream : List ℕ
  pub short : length stream ≤ most
  pub memory : m ≡ left_by list registry stream

abbrev pub taken_with : Counters → (is_whole : Bool) → Taken
taken_with counters is_whole = record { counters = counters; is_whole = is_whole }
