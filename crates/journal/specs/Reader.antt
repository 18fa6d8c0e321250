-- THE JOURNAL'S READER: record by record, each judged once it is whole; it ends with the first that is refused.
use Rattle.std.specs.Prelude.{ℕ, ◌+◌, List, [], ◌∷◌, ◌++◌, length, Option, Some, None, is_some}
use Rattle.wire.specs.Choice.{when◌then◌else◌}
use Rattle.reading.specs.Reader.{Step, Reader, Reading, read}
use Rattle.journal.specs.Record.{is_whole}
use Rattle.journal.specs.declared.Fault.{Fault}
use Rattle.journal.specs.Replay.{Judged, good, bad, judge_record}

pub record Kept : Type 0 where
  pub registry : List ℕ  -- after the whole records
  pub kept : ℕ  -- the bytes that these take
  pub held : List ℕ  -- the beginning of the next
  pub fault : Option Fault

-- no record was refused
abbrev pub reading : (registry : List ℕ) (kept : ℕ) (held : List ℕ) → Kept
reading registry kept held = record { registry = registry; kept = kept; held = held; fault = None }

abbrev pub stopped : (registry : List ℕ) (kept : ℕ) → Fault → Kept
stopped registry kept fault = record { registry = registry; kept = kept; held = []; fault = Some fault }

-- a whole record, judged
unfoldable pub after_record : (registry : List ℕ) (kept : ℕ) (bytes : List ℕ) → Judged → Step Kept Fault
after_record registry kept bytes (good after) = record { kept = reading after (kept + length bytes) []; event = None }
after_record registry kept bytes (bad fault) = record { kept = stopped registry kept fault; event = Some fault }

-- these bytes are held now
unfoldable pub after_byte : Kept → (bytes : List ℕ) → Step Kept Fault
after_byte s bytes =
    when is_whole bytes then after_record s.registry s.kept bytes (judge_record s.registry bytes)
    else record { kept = reading s.registry s.kept bytes; event = None }

abbrev pub journal : Reader Kept Fault
journal = record { byte = λ s b. after_byte s (s.held ++ (b ∷ [])); ended = λ s. is_some s.fault }

-- what a file gives that nobody cuts, from this registry
abbrev pub read_journal : (registry file : List ℕ) → Reading Kept Fault
read_journal registry file = read journal (reading registry 0 []) file
