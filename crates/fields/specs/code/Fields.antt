-- The fields of a body as up to five values ("Operations and their fields").
use Rattle.std.specs.Prelude.{ℕ, ◌+◌, ◌≤◌, eqb, Result, Ok, Err}
use Rattle.wire.specs.Choice.{when◌then◌else◌}
use Rattle.fields.specs.declared.Kind.{Kind}
use Rattle.fields.specs.declared.Kind.TheVariants.{Unlisted}
use Rattle.fields.specs.declared.Schema.{Schema}
use Rattle.fields.specs.declared.Value.{Value}
use Rattle.fields.specs.declared.Values.{Values}

-- what field number n stands for
abbrev pub kind_of : Schema → (n : ℕ) → Kind
kind_of k n =
    when eqb n 1 then k.k1
    else when eqb n 2 then k.k2
    else when eqb n 3 then k.k3
    else when eqb n 4 then k.k4
    else when eqb n 5 then k.k5
    else Unlisted

-- an absent field is 0, false or empty
abbrev pub absent : Value
absent = record { start = 0; len = 0; number = 0 }

abbrev pub all_absent : Values
all_absent = record { f1 = absent; f2 = absent; f3 = absent; f4 = absent; f5 = absent }

-- the values with `v` as field n: of a repeated field the last counts
unfoldable pub with_value : Values → (n : ℕ) → Value → Values
with_value m n v =
    when eqb n 1 then record { f1 = v; f2 = m.f2; f3 = m.f3; f4 = m.f4; f5 = m.f5 }
    else when eqb n 2 then record { f1 = m.f1; f2 = v; f3 = m.f3; f4 = m.f4; f5 = m.f5 }
    else when eqb n 3 then record { f1 = m.f1; f2 = m.f2; f3 = v; f4 = m.f4; f5 = m.f5 }
    else when eqb n 4 then record { f1 = m.f1; f2 = m.f2; f3 = m.f3; f4 = v; f5 = m.f5 }
    else when eqb n 5 then record { f1 = m.f1; f2 = m.f2; f3 = m.f3; f4 = m.f4; f5 = v }
    else m

-- ---- they lie within n bytes

abbrev pub ValueIn : (n : ℕ) → Value → Type 0
ValueIn n v = v.start + v.len ≤ n

pub record ValuesIn (n : ℕ) (m : Values) : Type 0 where
  pub in1 : ValueIn n m.f1
  pub in2 : ValueIn n m.f2
  pub in3 : ValueIn n m.f3
  pub in4 : ValueIn n m.f4
  pub in5 : ValueIn n m.f5

abbrev pub BodyIn : (n : ℕ) → Result Values ℕ → Type 0
BodyIn n (Ok m) = ValuesIn n m
BodyIn n (Err at) = at ≤ n
