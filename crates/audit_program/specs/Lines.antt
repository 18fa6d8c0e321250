-- The lines that the program prints beside those of the bill.
use Rattle.std.specs.Prelude.{ℕ, List, [], ◌∷◌, ◌++◌}
use Rattle.billing.specs.Ascii.{ascii}
use Rattle.billing.specs.Bill.{decimal}
use Rattle.journal.specs.declared.Fault.{Fault}
use Rattle.journal.specs.Replay.{fault_number}
use Rattle.audit.specs.declared.Verdict.{Verdict}
use Rattle.audit.specs.declared.Verdict.TheVariants.{Accepted, Wrong}

abbrev pub newline : List ℕ
newline = 0x0A ∷ []

-- `wrong K B`
unfoldable pub wrong_line : (number byte : ℕ) → List ℕ
wrong_line number byte = ascii "wrong" ++ ((0x20 ∷ decimal number) ++ ((0x20 ∷ decimal byte) ++ newline))

unfoldable pub verdict_line : Verdict → List ℕ
verdict_line Accepted = ascii "accepted" ++ newline
verdict_line (Wrong number byte) = wrong_line number byte

-- `journal J2`, say
unfoldable pub journal_line : Fault → List ℕ
journal_line fault = ascii "journal J" ++ (decimal (fault_number fault) ++ newline)
