use Prim.Native.Nat.{ℕ, ◌*◌}
use mathlib.Core.Path.{ap, ◌∙◌}
use mathlib.Core.List.{List}
use lib.ListN.{length}
use Rattle.wire.specs.Lists.{put}
use Rattle.wire.proofs.BufferLaws.{put_part}
use Rattle.registry.specs.Registry.{line_size}
use Rattle.registry.proofs.LineLaws.{line_long}
use Rattle.registry.proofs.lines.write_line.Goals as goal

pub returns : goal.returns
returns c =
    let w = c.write_keyless in
    let r : List ℕ = c.args.registry.now in
    let at : ℕ = c.args.line.0 * line_size in
    put_part r w.new.bytes at line_size (ap length w.ensures ∙ line_long c.args.name.now c.requires.2) ∙ ap (put r at) w.ensures
