-- The two formats of bodies: content types 1 and 2.
use Rattle.std.specs.Prelude.{ℕ, List, [], ◌∷◌, eqb}
use Rattle.wire.specs.Choice.{when◌then◌else◌}
use Rattle.messages.specs.Format.{Format}
use Rattle.messages.specs.Protobuf.{protobuf}
use Rattle.messages.specs.Tagged.{tagged}
use Rattle.messages.specs.declared.format.BodyFormat.{BodyFormat}
use Rattle.messages.specs.declared.format.BodyFormat.TheVariants.{Protobuf, Tagged}

abbrev pub format_of : BodyFormat → Format
format_of Protobuf = protobuf
format_of Tagged = tagged

-- of a content type; one that is neither 1 nor 2 is answered as 1
unfoldable pub format_for : (content_type : ℕ) → BodyFormat
format_for content_type = when eqb content_type 2 then Tagged else Protobuf

unfoldable pub content_type_of : BodyFormat → ℕ
content_type_of Protobuf = 1
content_type_of Tagged = 2

abbrev pub content_types : List ℕ
content_types = 1 ∷ 2 ∷ []
