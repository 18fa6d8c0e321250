use Rattle.std.proofs.Common.{sym, ap, ◌∙◌}
use Rattle.wire.proofs.BufferLaws.{lent}
use Rattle.records.specs.Records.{value_in, is_whole}
use Rattle.roster.proofs.LoadLaws.{place_within, place_whole, name_there}
use Rattle.roster.proofs.check.Names.get.Goals as goal

pub slice_bounds-value_in-count : goal.slice_bounds-value_in-count
slice_bounds-value_in-count c = place_within c.args.file.now c.args.self c.requires.0 c.args.i c.requires.1

pub slice_bounds-value_in-start : goal.slice_bounds-value_in-start
slice_bounds-value_in-start c = place_within c.args.file.now c.args.self c.requires.0 c.args.i c.requires.1

pub value_in-requires : goal.value_in-requires
value_in-requires c = ap is_whole (lent _ c.args.file.now) ∙ place_whole c.args.file.now c.args.self c.requires.0 c.args.i c.requires.1

pub returns : goal.returns
returns c = c.value_in.ensures ∙ ap value_in (lent _ c.args.file.now) ∙ sym (name_there c.args.file.now c.args.self c.requires.0 c.args.i c.requires.1)
