-- What the program prints: the bill of three files. No contract can say which bytes a file has, so that those of a file that was
-- opened are some bytes.
use Rattle.std.specs.Prelude.{ℕ, ◌≤◌, ◌≡◌, List, length, take, ℤ, Option}
use Rattle.wire.specs.Choice.{when◌then◌else◌}
use Rattle.service.specs.Call.{Memory}
use Rattle.billing.specs.Bill.{bill}
use Rattle.billing.specs.Outcome.{bill_in}
use Rattle.starting.specs.Start.{Source, MayGive, is_good, line_of}

-- by what became of the three files, and what the stream left in memory
unfoldable pub printed : Source → Memory → List ℕ
printed source m = when is_good source then bill_in m else line_of source

-- the first n bytes are the bill of what the three files give
pub record Prints (rosterFile streamFile listFile : Option ℤ) (out : List ℕ) (n : ℕ) : Type 0 where
  pub roster : Option (List ℕ)
  pub stream : Option (List ℕ)
  pub list : Option (List ℕ)
  pub roster_given : MayGive rosterFile roster
  pub stream_given : MayGive streamFile stream
  pub list_given : MayGive listFile list
  pub fits : n ≤ length out
  pub text : take n out ≡ bill roster stream list
