use Rattle.std.proofs.Common.{rules}
use mathlib.Core.Path.{◌≡◌, refl}
use Prim.Native.Nat.{◌+◌}
use denote.Enum.Declared.{tag_of}
use Rattle.journal.specs.declared.Fault.{Fault}
use Rattle.journal.specs.declared.Fault.TheVariants.{WrongCrc, WrongLayout, NotAllowed}
use Rattle.journal.specs.contracts.Fault.{the_type}
use Rattle.journal.specs.Replay.{fault_number}
use Rattle.journal.proofs.U8FromFault.from.Goals as goal

numbered : (fault : Fault) → tag_of the_type fault + 1 ≡ fault_number fault
unfolding fault_number
numbered WrongCrc = refl
numbered WrongLayout = refl
numbered NotAllowed = refl

pub returns : goal.returns
returns c = let number = numbered c.args.fault in search rules
