use mathlib.Core.Path.{sym}
use Rattle.journal.proofs.LeftLaws.{unused_line_lem, used_line}
use Rattle.journal.proofs.replay.is_in_use.Goals as goal

pub returns-then-l-ge-LINES : goal.returns-then-l-ge-LINES
returns-then-l-ge-LINES c =
    let s = c in
    sym (unused_line_lem s.args.registry.now s.requires s.args.line c.if-l-ge-LINES.true)

pub returns : goal.returns
returns c =
    let s = c in
    sym (used_line s.args.registry.now s.requires s.args.line c.if-l-ge-LINES.false)
