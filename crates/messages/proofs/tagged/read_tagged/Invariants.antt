use Prim.Native.Nat.{◌-◌, ◌≤◌}
use mathlib.Core.Path.{◌≡◌}
use lib.ListN.{length}
use Rattle.fields.specs.code.Fields.{ValuesIn}
use Rattle.messages.specs.Message.{Schema}
use Rattle.messages.specs.Format.{read_message}
use Rattle.messages.specs.Tagged.{tagged}
use Rattle.messages.specs.code.Places.{schema_placed, NoLists}
use Rattle.messages.proofs.TaggedPlacedLaws.{scan}
use Rattle.messages.proofs.tagged.read_tagged.Given as goal

abbrev pub invariant-loop-at : goal.invariant-loop-at
invariant-loop-at l = ((kinds : Schema) (is : l.schema ≡ schema_placed kinds) (few : length kinds ≤ 5) (no-lists : NoLists kinds)
    → scan kinds few no-lists l.schema is l.body l.at l.last l.m ≡ read_message tagged kinds l.body)
    × ValuesIn (length l.body) l.m

abbrev pub decreases-loop-at : goal.decreases-loop-at
decreases-loop-at l = length l.body - l.at
