use Rattle.std.proofs.Common.{ap}
use Rattle.starting.specs.Start.{is_good}
use Rattle.starting.specs.declared.feed.Taken.{Taken}
use Rattle.starting.proofs.SourceLaws.{ready_good, stream_missing, stream_good, stream_refused}
use Rattle.file_input.specs.Argument.{argument_file}
use Rattle.bill.proofs.text.read_stream.Goals as goal

pub returns-in_default : goal.returns-in_default
unfolding argument_file
returns-in_default c = stream_missing _ _ _ _ _ (ap argument_file c.in_default.is) (ap (λ (t : Taken). t.is_whole) c.uncounted.ensures)

pub take_stream-requires : goal.take_stream-requires
take_stream-requires c =
    let (good, listed) = ready_good _ _ c.in-Ok.is c.requires.1 in
    (c.requires.0, good, listed)

pub returns-in-Ok : goal.returns-in-Ok
unfolding argument_file
returns-in-Ok c = stream_good _ _ _ _ _ (ap argument_file c.in-Some.is) c.take_stream.ensures

pub returns-in-Err-Unreadable : goal.returns-in-Err-Unreadable
unfolding argument_file
returns-in-Err-Unreadable c = stream_refused _ _ _ _ _ (ap argument_file c.in-Some.is) (ap is_good c.in-Err-Unreadable.is)

pub returns : goal.returns
unfolding argument_file
returns c = stream_refused _ _ _ _ _ (ap argument_file c.in-Some.is) (ap is_good c.in-Err.is)
