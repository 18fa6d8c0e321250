-- The number of each refused call: C1 to C5 of "When a call is not taken", C6 and C7 of document 02.
use Rattle.std.specs.Prelude.{ℕ}
use Rattle.service.specs.declared.Refusal.{Refusal}
use Rattle.service.specs.declared.Refusal.TheVariants.{ResponseBufferTooSmall, ChunkTooLong, ConnectionIllFormed, RegistryIllFormed, CounterTooHigh, ListIllFormed, JournalBufferTooSmall}

unfoldable pub refusal_number : Refusal → ℕ
refusal_number ResponseBufferTooSmall = 1
refusal_number ChunkTooLong = 2
refusal_number ConnectionIllFormed = 3
refusal_number RegistryIllFormed = 4
refusal_number CounterTooHigh = 5
refusal_number ListIllFormed = 6
refusal_number JournalBufferTooSmall = 7
