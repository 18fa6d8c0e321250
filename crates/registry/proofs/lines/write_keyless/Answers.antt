use Rattle.std.proofs.Common.{refl}
use Rattle.registry.proofs.LineLaws.{line_written}
use Rattle.registry.proofs.lines.write_keyless.Goals as goal

pub returns : goal.returns
returns c = line_written c.args.bytes.now _ c.args.name.now _ c.requires.0 c.requires.1 refl c.write_padded.ensures
