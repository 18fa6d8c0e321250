-- Groups, which are skipped: the fields between a start tag and the end tag of the same number, in which groups may stand
-- (document 02, "Unlisted fields").
use Rattle.std.specs.Prelude.{ℕ, zero, suc, List, length, eqb, Option, Some, None}
use Rattle.wire.specs.Choice.{when◌then◌else◌}
use Rattle.wire.specs.Scan.{Turn, on, out, scan_at}
use Rattle.protobuf.specs.Field.{field_at}
use Rattle.protobuf.specs.declared.field.Field.{Field}
use Rattle.protobuf.specs.declared.field.Field.TheVariants.{Number, Span, Fixed, GroupStart, GroupEnd}

-- groups stand inside each other to this depth; an outermost one has depth 1
abbrev pub depth_most : ℕ
depth_most = 16

abbrev pub behind : Option ℕ → Turn (Unit {0}) (Option ℕ)
behind (Some next) = on tt next
behind None = out None

-- a field of the group `number`, or its end; `groupIn` is a group in it
abbrev pub in_group : (number : ℕ) → (groupIn : ℕ → ℕ → Option ℕ) → Option Field → Turn (Unit {0}) (Option ℕ)
in_group number groupIn (Some (Number n v next)) = on tt next
in_group number groupIn (Some (Span n start len next)) = on tt next
in_group number groupIn (Some (Fixed n next)) = on tt next
in_group number groupIn (Some (GroupStart n next)) = behind (groupIn n next)
in_group number groupIn (Some (GroupEnd n next)) = out (when eqb n number then Some next else None)
in_group number groupIn None = out None

-- the group `number` whose first field is at `at`, where groups may still stand `depth` deep, itself counted
unfoldable pub group_at : (depth : ℕ) → List ℕ → (number at : ℕ) → Option ℕ
group_at zero s number at = None
group_at (suc depth) s number at =
    scan_at (λ p _. in_group number (λ n q. group_at depth s n q) (field_at s p)) (λ _. None) (length s) at tt
