use Rattle.std.proofs.Common.{ap}
use Rattle.starting.proofs.SourceLaws.{roster_missing, roster_open}
use Rattle.file_input.specs.Argument.{argument_file}
use Rattle.file_input.proofs.read_roster.Goals as goal

pub returns-in_default : goal.returns-in_default
unfolding argument_file
returns-in_default c = roster_missing _ (ap argument_file c.in_default.is)

pub returns : goal.returns
unfolding argument_file
returns c = roster_open (ap argument_file c.in-Some.is) _ _ c.requires _ _ c.load_front.ensures
