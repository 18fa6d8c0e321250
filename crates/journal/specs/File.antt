-- A journal file: records, one behind the other, and those that are whole in its first bytes.
use Rattle.std.specs.Prelude.{ℕ, ◌-◌, Bool, List, [], ◌∷◌, length, leb, eqb, Option, Some, None}
use Rattle.wire.specs.Choice.{when◌then◌else◌}
use Rattle.journal.specs.Record.{sealed_length}
use Rattle.journal.specs.Replay.{good, bad, judge_record}

-- the bytes are one record, as long as they say
unfoldable pub is_record : List ℕ → Bool
is_record bytes = eqb (sealed_length bytes) (length bytes)

-- the registry after records, one after the other, none of which is refused
unfoldable pub after_all : (registry : List ℕ) (records : List (List ℕ)) → Option (List ℕ)
after_all registry [] = Some registry
after_all registry (bytes ∷ records) = elim (judge_record registry bytes) [
  | good after ↦ after_all after records
  | bad fault ↦ None
]

-- the records that end within the first n bytes of the file
unfoldable pub whole_in : (n : ℕ) (records : List (List ℕ)) → List (List ℕ)
whole_in n [] = []
whole_in n (bytes ∷ records) = when leb (length bytes) n then bytes ∷ whole_in (n - length bytes) records else []
