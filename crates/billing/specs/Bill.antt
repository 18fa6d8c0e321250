-- "The bill"; document 02, "Keys we ship", "Use per key": its text for a roster file, a captured stream and the list of keys that
-- we ship.
use Rattle.std.specs.Prelude.{ℕ, zero, suc, ◌+◌, ◌/◌, ◌%◌, Bool, false, not, List, [], ◌∷◌, ◌++◌, length, take, get_or, ltb, eqb, Option, Some, None}
use Rattle.wire.specs.Choice.{when◌then◌else◌}
use Rattle.stream.specs.Rules.{held_bytes, State, rules}
use Rattle.registry.specs.Slots.{Entry, free, held}
use Rattle.registry.specs.Registry.{slots_of, uses_of, registry_of}
use Rattle.roster.specs.Roster.{fault_number, Roster, applications, faulty, roster_of}
use Rattle.roster.specs.declared.RosterFault.{RosterFault}
use Rattle.shipped.specs.Shipped.{well_formed_list}
use Rattle.judgement.specs.Status.{status_number, refused_statuses}
use Rattle.judgement.specs.Counts.{Counts, sum}
use Rattle.judgement.specs.Judgement.{judgement}
use Rattle.judgement.specs.declared.Status.{Status}
use Rattle.billing.specs.Ascii.{ascii}

-- ---- words and numbers

-- a number's digits in front of `tail`; `fuel` is more than the digits
unfoldable pub digits_before : (fuel n : ℕ) (tail : List ℕ) → List ℕ
digits_before zero n tail = tail
digits_before (suc fuel) n tail =
    when ltb n 10 then (0x30 + n) ∷ tail else digits_before fuel (n / 10) ((0x30 + n % 10) ∷ tail)

unfoldable pub decimal : ℕ → List ℕ
decimal n = digits_before (suc n) n []

-- words with a space between two, and the line's end
unfoldable pub text_line : (word : List ℕ) (words : List (List ℕ)) → List ℕ
text_line word [] = word ++ (0x0A ∷ [])
text_line word (w ∷ words) = word ++ (0x20 ∷ text_line w words)

-- ---- the lines

-- each used line: number, name, served
unfoldable pub application_lines : (number : ℕ) (names : List (List ℕ)) (served : List ℕ) → List ℕ
application_lines number [] served = []
application_lines number (name ∷ names) served =
    text_line (ascii "line") (decimal number ∷ name ∷ decimal (get_or served number 0) ∷ []) ++ application_lines (suc number) names served

-- a used slot: its line's number, its own, and how often its key was used
unfoldable pub key_line : (line slot : ℕ) → Entry → (uses : ℕ) → List ℕ
key_line line slot free uses = []
key_line line slot (held key) uses = text_line (ascii "key") (decimal line ∷ decimal slot ∷ decimal uses ∷ [])

-- the slots of a line, ascending
unfoldable pub slot_lines : (line slot : ℕ) (slots : List Entry) (uses : List ℕ) → List ℕ
slot_lines line slot [] uses = []
slot_lines line slot (entry ∷ slots) uses = key_line line slot entry (get_or uses slot 0) ++ slot_lines line (suc slot) slots uses

-- of each used line
unfoldable pub key_lines : (number : ℕ) (names : List (List ℕ)) (registry : List ℕ) → List ℕ
key_lines number [] registry = []
key_lines number (name ∷ names) registry =
    slot_lines number 0 (slots_of registry (record { 0 = number })) (uses_of registry (record { 0 = number })) ++ key_lines (suc number) names registry

-- each status with its count, where that isn't 0
unfoldable pub refused_lines : List Status → (refused : List ℕ) → List ℕ
refused_lines [] refused = []
refused_lines (s ∷ statuses) [] = []
refused_lines (s ∷ statuses) (n ∷ refused) =
    when eqb n 0 then refused_lines statuses refused
    else text_line (ascii "refused") (decimal (status_number s) ∷ decimal n ∷ []) ++ refused_lines statuses refused

unfoldable pub bill_of : (names : List (List ℕ)) → State (List ℕ) Counts → List ℕ
bill_of names s =
    text_line (ascii "taken") (decimal s.totals.taken ∷ [])
    ++ (application_lines 0 names s.totals.counts.served
    ++ (key_lines 0 names s.registry
    ++ (text_line (ascii "open") (decimal s.totals.counts.unauthenticated ∷ [])
    ++ (refused_lines refused_statuses s.totals.counts.refused
    ++ (text_line (ascii "dropped") (decimal s.totals.dropped ∷ [])
    ++ text_line (ascii "held") (decimal (held_bytes s.connection) ∷ []))))))

-- all requests on the bill: on the roster's lines, the one of auth type 0, and those of statuses
unfoldable pub requests_on : (names : List (List ℕ)) → State (List ℕ) Counts → ℕ
requests_on names s =
    sum (take (length names) s.totals.counts.served) + s.totals.counts.unauthenticated + sum s.totals.counts.refused

-- what is printed for a refused roster, as `roster R3`, for a bad list, and where a file can't be read
unfoldable pub refused_roster : RosterFault → List ℕ
refused_roster fault = ascii "roster R" ++ text_line (decimal (fault_number fault)) []

unfoldable pub refused_list : List ℕ
refused_list = text_line (ascii "list C6") []

unfoldable pub no_file : List ℕ
no_file = text_line (ascii "no file") []

-- the start has the roster's names and no keys, and the list of keys that we ship is the same for all of the stream; a refused
-- roster prints one line only
unfoldable pub bill_for : (list : List ℕ) → Roster → (stream : List ℕ) → List ℕ
bill_for list (applications names) stream = bill_of names (rules (judgement list) (registry_of names) stream).state
bill_for list (faulty fault) stream = refused_roster fault

-- a bad list, the roster being good
unfoldable pub is_list_refused : Roster → (list : List ℕ) → Bool
is_list_refused (applications names) list = not (well_formed_list list)
is_list_refused (faulty fault) list = false

-- `none` is a file that can't be read
unfoldable pub bill : (roster stream list : Option (List ℕ)) → List ℕ
bill None stream list = no_file
bill (Some roster) None list = no_file
bill (Some roster) (Some stream) None = no_file
bill (Some roster) (Some stream) (Some list) =
    when is_list_refused (roster_of roster) list then refused_list else bill_for list (roster_of roster) stream
