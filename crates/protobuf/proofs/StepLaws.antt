-- A step of the reader goes ahead, and keeps spans within the body.
use Rattle.std.proofs.Common.{Option, Some, None, option_map, option_and_then}
use Prim.Native.Nat.{ℕ, ◌+◌, ◌≤◌, ◌<◌}
use native.Mathlib.Omega.{arith}
use mathlib.Core.List.{List}
use lib.ListN.{length}
use Rattle.fields.specs.code.Fields.{kind_of, ValueIn, ValuesIn}
use Rattle.fields.proofs.FieldsLaws.{with_value_in}
use Rattle.protobuf.specs.Field.{field_at}
use Rattle.protobuf.specs.Group.{depth_most, group_at}
use Rattle.protobuf.specs.code.Message.{of_number, of_span, of_group, item_of, step_of, step_at}
use Rattle.protobuf.specs.declared.field.Field.{Field}
use Rattle.protobuf.specs.declared.field.Field.TheVariants.{Number, Span, Fixed, GroupStart, GroupEnd}
use Rattle.fields.specs.declared.Kind.{Kind}
use Rattle.fields.specs.declared.Kind.TheVariants.{Bytes, Uint32, Boolean, Unlisted}
use Rattle.fields.specs.declared.Schema.{Schema}
use Rattle.fields.specs.declared.Values.{Values}
use Rattle.protobuf.specs.declared.message.Item.{Item}
use Rattle.protobuf.specs.declared.message.Item.TheVariants.{Keep, Skip}
use Rattle.protobuf.proofs.FieldLaws.{Ahead, FieldAhead, field_ahead}
use Rattle.protobuf.proofs.GroupLaws.{GroupAhead, group_ahead}

abbrev ItemAhead : ℕ → ℕ → Item → Type 0
ItemAhead n at (Keep f v next) = Ahead n at next × ValueIn n v
ItemAhead n at (Skip next) = Ahead n at next

abbrev pub StepAhead : ℕ → ℕ → Option (Values × ℕ) → Type 0
StepAhead n at (Some (m, next)) = Ahead n at next
StepAhead n at None = Unit {0}

abbrev pub StepIn : ℕ → Option (Values × ℕ) → Type 0
StepIn n (Some (m, next)) = ValuesIn n m
StepIn n None = Unit {0}

of_number_ahead : (n at : ℕ) (k : Kind) (f v next : ℕ) → Ahead n at next → ItemAhead n at (of_number k f v next)
of_number_ahead n at Bytes f v next h = h
of_number_ahead n at Uint32 f v next h = (h, omega arith)
of_number_ahead n at Boolean f v next h = (h, omega arith)
of_number_ahead n at Unlisted f v next h = h

of_span_ahead : (n at : ℕ) (k : Kind) (f start len next : ℕ) → Ahead n at next × (start + len ≤ n) → ItemAhead n at (of_span k f start len next)
of_span_ahead n at Bytes f start len next h = h
of_span_ahead n at Uint32 f start len next h = h.0
of_span_ahead n at Boolean f start len next h = h.0
of_span_ahead n at Unlisted f start len next h = h.0

abbrev ReadAhead : ℕ → ℕ → Option Item → Type 0
ReadAhead n at (Some i) = ItemAhead n at i
ReadAhead n at None = Unit {0}

of_group_ahead : (n at p : ℕ) (g : Option ℕ) → at < p → GroupAhead n p g → ReadAhead n at (of_group g)
of_group_ahead n at p (Some next) l h = omega arith
of_group_ahead n at p None l h = tt

item_ahead : (k : Schema) (s : List ℕ) (at : ℕ) (f : Option Field) → FieldAhead (length s) at f → ReadAhead (length s) at (option_and_then (item_of k s) f)
unfolding item_of
item_ahead k s at (Some (Number f v next)) h = of_number_ahead (length s) at (kind_of k f) f v next h
item_ahead k s at (Some (Span f start len next)) h = of_span_ahead (length s) at (kind_of k f) f start len next h
item_ahead k s at (Some (Fixed f next)) h = h
item_ahead k s at (Some (GroupStart f next)) h = of_group_ahead (length s) at next (group_at depth_most s f next) h.behind (group_ahead s depth_most f next)
item_ahead k s at (Some (GroupEnd f next)) h = tt
item_ahead k s at None h = tt

item_at : (k : Schema) (s : List ℕ) (at : ℕ) → ReadAhead (length s) at (option_and_then (item_of k s) (field_at s at))
item_at k s at = item_ahead k s at (field_at s at) (field_ahead s at)

step_of_ahead : (n at : ℕ) (m : Values) (i : Option Item) → ReadAhead n at i → StepAhead n at (option_map (step_of m) i)
step_of_ahead n at m (Some (Keep f v next)) h = h.0
step_of_ahead n at m (Some (Skip next)) h = h
step_of_ahead n at m None h = tt

step_of_in : (n at : ℕ) (m : Values) (i : Option Item) → ReadAhead n at i → ValuesIn n m → StepIn n (option_map (step_of m) i)
step_of_in n at m (Some (Keep f v next)) h l = with_value_in n m f v l h.1
step_of_in n at m (Some (Skip next)) h l = l
step_of_in n at m None h l = tt

pub step_ahead : (k : Schema) (s : List ℕ) (at : ℕ) (m : Values) → StepAhead (length s) at (step_at k s at m)
unfolding step_at
step_ahead k s at m = step_of_ahead (length s) at m (option_and_then (item_of k s) (field_at s at)) (item_at k s at)

pub step_in : (k : Schema) (s : List ℕ) (at : ℕ) (m : Values) → ValuesIn (length s) m → StepIn (length s) (step_at k s at m)
unfolding step_at
step_in k s at m l = step_of_in (length s) at m (option_and_then (item_of k s) (field_at s at)) (item_at k s at) l
