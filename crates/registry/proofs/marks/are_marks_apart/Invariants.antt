use Rattle.std.proofs.Common.{◌≡◌, length}
use Rattle.registry.specs.Registry.{slot_count, slots_in}
use Rattle.registry.proofs.MarkLaws.{Marked}
use Rattle.registry.proofs.marks.are_marks_apart.Given as goal

abbrev pub invariant-loop-i : goal.invariant-loop-i
invariant-loop-i l = (length l.marks ≡ slot_count) × Marked (slots_in l.line) l.marks l.i
