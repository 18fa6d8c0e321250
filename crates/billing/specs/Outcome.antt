-- What writing a bill comes to, for any memory and any buffer.
use Rattle.std.specs.Prelude.{ℕ, ◌+◌, ◌*◌, Bool, not, List, [], ◌∷◌, length, ltb, Option, Some, None, Result, Ok, Err}
use Rattle.wire.specs.Choice.{first_of}
use Rattle.wire.specs.Lists.{over}
use Rattle.keys.specs.Names.{application_name_most}
use Rattle.connection.specs.Connection.{well_formed_connection}
use Rattle.registry.specs.Registry.{line_count, slot_count, names_in}
use Rattle.registry.specs.WellFormed.{well_formed_registry}
use Rattle.judgement.specs.Status.{refused_count}
use Rattle.service.specs.Call.{Memory, state_in}
use Rattle.billing.specs.Bill.{bill_of}
use Rattle.billing.specs.declared.BillRefusal.{BillRefusal}
use Rattle.billing.specs.declared.BillRefusal.TheVariants.{BufferTooSmall, ConnectionIllFormed, RegistryIllFormed}

-- a number of 64 bits has at most so many digits
abbrev pub digits_most : ℕ
digits_most = 20

-- "dropped" and "refused", the longest words
abbrev pub word_most : ℕ
word_most = 7

-- a word and a number
abbrev pub count_line_most : ℕ
count_line_most = word_most + (1 + digits_most) + 1

-- "refused" and two numbers
abbrev pub refused_line_most : ℕ
refused_line_most = word_most + (1 + digits_most) + (1 + digits_most) + 1

-- "line", a number, a name and a number
abbrev pub application_line_most : ℕ
application_line_most = 4 + (1 + digits_most) + (1 + application_name_most) + (1 + digits_most) + 1

-- "key" and three numbers
abbrev pub key_line_most : ℕ
key_line_most = 3 + (1 + digits_most) + (1 + digits_most) + (1 + digits_most) + 1

-- bytes that no bill needs: the least buffer is the 6,336 bytes that callers were told
abbrev pub bill_spare : ℕ
bill_spare = 86

-- a buffer of so many bytes has room for every bill: four lines of totals, a line for each status, and for each application its
-- line and those of its keys
abbrev pub bill_most : ℕ
bill_most = bill_spare + 4 * count_line_most + refused_count * refused_line_most + line_count * (application_line_most + slot_count * key_line_most)

-- the names of the used lines, which come first
unfoldable pub used_names : (names : List (List ℕ)) → List (List ℕ)
used_names [] = []
used_names ([] ∷ names) = []
used_names ((b ∷ name) ∷ names) = (b ∷ name) ∷ used_names names

-- the bill of what is kept in memory
unfoldable pub bill_in : Memory → List ℕ
bill_in m = bill_of (used_names (names_in m.registry)) (state_in m)

-- in the order of the calls' refusals C1, C3, C4
unfoldable pub refusal_tests : (out : List ℕ) → Memory → List (Bool × BillRefusal)
refusal_tests out m =
    (ltb (length out) bill_most, BufferTooSmall)
    ∷ (not (well_formed_connection m.connection), ConnectionIllFormed)
    ∷ (not (well_formed_registry m.registry), RegistryIllFormed)
    ∷ []

pub record BillOutcome : Type 0 where
  pub answer : Result ℕ BillRefusal
  pub out : List ℕ

unfoldable pub outcome_of : (out : List ℕ) → Memory → Option BillRefusal → BillOutcome
outcome_of out m None = record { answer = Ok (length (bill_in m)); out = over (bill_in m) out }
outcome_of out m (Some refusal) = record { answer = Err refusal; out = out }

-- the bill over the front of the buffer, or the first refusal that applies and the buffer as it came
unfoldable pub bill_outcome : (out : List ℕ) → Memory → BillOutcome
bill_outcome out m = outcome_of out m (first_of (refusal_tests out m))
