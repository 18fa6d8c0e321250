-- A list of calls by the definition, for proofs. No part of the reading copy.
use Rattle.std.specs.Prelude.{ℕ, List}
use Rattle.reading.specs.code.Calls.{calls_on}
use Rattle.stream.specs.Call.{reader}
use Rattle.journal.specs.Journalling.{journalling}
use Rattle.service.specs.Call.{Memory, layout, Call, CallsOutcome, refusal_of}

unfoldable pub calls_outcome : (list : List ℕ) → Memory → List Call → CallsOutcome
calls_outcome list m calls = calls_on (reader (journalling list)) layout (refusal_of list) m calls
