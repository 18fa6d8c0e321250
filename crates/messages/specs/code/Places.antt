-- A schema and a message as the code has them: up to five kinds, and values by their places in the body.
use Rattle.std.specs.Prelude.{ℕ, not, List, [], ◌∷◌, take, drop, eqb, Option, Some, None, Result, Ok, Err}
use Rattle.fields.specs.declared.Kind.{Kind as KindPlaced}
use Rattle.fields.specs.declared.Kind.TheVariants.{Bytes, Uint32, Boolean, Unlisted}
use Rattle.fields.specs.declared.Schema.{Schema as SchemaPlaced}
use Rattle.fields.specs.declared.Value.{Value as Place}
use Rattle.fields.specs.declared.Values.{Values as Places}
use Rattle.messages.specs.Message.{Kind, uint32, bool, bytes, uint32s, Value, number, flag, octets, numbers, Schema, Message, kind_at, absent}
use Rattle.messages.specs.Format.{Reading, read, broken}

abbrev pub kind_placed : Option Kind → KindPlaced
kind_placed None = Unlisted
kind_placed (Some uint32) = Uint32
kind_placed (Some bool) = Boolean
kind_placed (Some bytes) = Bytes
kind_placed (Some uint32s) = Unlisted

abbrev pub schema_placed : Schema → SchemaPlaced
schema_placed schema = record {
  k1 = kind_placed (kind_at schema 1);
  k2 = kind_placed (kind_at schema 2);
  k3 = kind_placed (kind_at schema 3);
  k4 = kind_placed (kind_at schema 4);
  k5 = kind_placed (kind_at schema 5);
}

-- lists are not read by place
abbrev pub NoLists : Schema → Type 0
NoLists [] = Unit {0}
NoLists (uint32 ∷ schema) = NoLists schema
NoLists (bool ∷ schema) = NoLists schema
NoLists (bytes ∷ schema) = NoLists schema
NoLists (uint32s ∷ schema) = ⊥

abbrev pub value_of : (body : List ℕ) → Kind → Place → Value
value_of body uint32 v = number v.number
value_of body bool v = flag (not (eqb v.number 0))
value_of body bytes v = octets (take v.len (drop v.start body))
value_of body uint32s v = numbers []

abbrev pub values_of : (body : List ℕ) → Schema → List Place → Message
values_of body [] vs = []
values_of body (kind ∷ schema) [] = absent kind ∷ values_of body schema []
values_of body (kind ∷ schema) (v ∷ vs) = value_of body kind v ∷ values_of body schema vs

abbrev pub five : Places → List Place
five m = m.f1 ∷ m.f2 ∷ m.f3 ∷ m.f4 ∷ m.f5 ∷ []

abbrev pub seen : (body : List ℕ) → Schema → Result Places ℕ → Reading
seen body schema (Ok m) = read (values_of body schema (five m))
seen body schema (Err at) = broken at
