use Rattle.std.proofs.Common.{◌≡◌, refl, ◌∙◌, Bool, true, false}
use Rattle.std.specs.Int.{from_bool}
use Rattle.registry.specs.Slots.{flag}
use Rattle.registry.specs.code.Check.{key_from}
use Rattle.registry.proofs.WrittenLaws.{key_written}
use Rattle.registry.proofs.slots.write_key.Goals as goal

flagged : (b : Bool) → from_bool b ≡ flag b
flagged true = refl
flagged false = refl

pub returns : goal.returns
returns c =
    let a = c.args in
    key_written (key_from a.name.now a.bytes.now a.bits a.exported a.verified) a.slot.now c.requires.0 c.requires.1 c.requires.2
    _ c.write_padded.ensures _ c.write_u16.ensures _ c.write_padded-2.ensures _ c.write_u16-2.ensures _ _ (c.from.ensures ∙ flagged a.exported) (c.from-2.ensures ∙ flagged a.verified) _ c.clear.ensures
