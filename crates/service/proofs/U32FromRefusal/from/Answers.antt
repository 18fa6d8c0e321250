use Rattle.std.proofs.Common.{rules}
use mathlib.Core.Path.{◌≡◌, refl}
use Prim.Native.Nat.{◌+◌}
use denote.Enum.Declared.{tag_of}
use Rattle.service.specs.declared.Refusal.{Refusal}
use Rattle.service.specs.declared.Refusal.TheVariants.{ResponseBufferTooSmall, ChunkTooLong, ConnectionIllFormed, RegistryIllFormed, CounterTooHigh, ListIllFormed, JournalBufferTooSmall}
use Rattle.service.specs.contracts.Refusal.{the_type}
use Rattle.service.specs.Refusals.{refusal_number}
use Rattle.service.proofs.U32FromRefusal.from.Goals as goal

numbered : (refusal : Refusal) → tag_of the_type refusal + 1 ≡ refusal_number refusal
unfolding refusal_number
numbered ResponseBufferTooSmall = refl
numbered ChunkTooLong = refl
numbered ConnectionIllFormed = refl
numbered RegistryIllFormed = refl
numbered CounterTooHigh = refl
numbered ListIllFormed = refl
numbered JournalBufferTooSmall = refl

pub returns : goal.returns
returns c = let number = numbered c.args.refusal in search rules
