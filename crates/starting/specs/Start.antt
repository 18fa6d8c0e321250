-- What the files that a program starts from come to, and the line that is printed where there is no start: document 02, "Keys we
-- ship".
use Rattle.std.specs.Prelude.{ℕ, ◌≡◌, Bool, true, false, List, [], ℤ, is_ok, Option, Some, None, Result, Ok, Err}
use Rattle.roster.specs.Roster.{Roster, applications, faulty, roster_of}
use Rattle.shipped.specs.Shipped.{well_formed_list}
use Rattle.billing.specs.Bill.{refused_roster, refused_list, no_file}
use Rattle.starting.specs.declared.start.StartRefusal.{StartRefusal}
use Rattle.starting.specs.declared.start.StartRefusal.TheVariants.{Faulty, BadList, Unreadable}

-- what reading a file may give: some bytes, or `none` where it can't be read, as where it is missing
unfoldable pub MayGive : Option ℤ → Option (List ℕ) → Type 0
MayGive (Some fd) bytes = Unit {0}
MayGive None bytes = bytes ≡ None

unfoldable pub is_read : Option (List ℕ) → Bool
is_read None = false
is_read (Some bytes) = true

-- ---- the first that applies: a file that can't be read, the roster's fault, a bad list

-- a start, or why there is none
abbrev pub Source : Type 0
Source = Result (Unit {0}) StartRefusal

unfoldable pub roster_source : Roster → Source
roster_source (applications names) = Ok tt
roster_source (faulty fault) = Err (Faulty fault)

unfoldable pub roster_start : (roster : Option (List ℕ)) → Source
roster_start None = Err Unreadable
roster_start (Some file) = roster_source (roster_of file)

unfoldable pub list_checked : (isListGood : Bool) → Source
list_checked true = Ok tt
list_checked false = Err BadList

-- a bad list is refused after a good roster only
unfoldable pub with_list : Source → (isListGood : Bool) → Source
with_list (Ok tt) isListGood = list_checked isListGood
with_list (Err refusal) isListGood = Err refusal

unfoldable pub start_of : (roster list : Option (List ℕ)) → Source
start_of roster None = Err Unreadable
start_of roster (Some list) = with_list (roster_start roster) (well_formed_list list)

-- one file more that has to be readable, as a stream: by whether it could be read to its end
unfoldable pub with_file : Source → (is_whole : Bool) → Source
with_file source true = source
with_file source false = Err Unreadable

abbrev pub is_good : Source → Bool
is_good source = is_ok source

-- ---- the line that says why there is no start; a good one has none

unfoldable pub line_of : Source → List ℕ
line_of (Err Unreadable) = no_file
line_of (Err (Faulty fault)) = refused_roster fault
line_of (Err BadList) = refused_list
line_of (Ok tt) = []
