-- What bytes begin with, as the code says it: a header by its length.
use Rattle.std.specs.Prelude.{length}
use Rattle.stream.specs.Frame.{Next, unfinished, bad_start, skipped, whole}
use Rattle.stream.specs.declared.frame.Frame.{Frame}
use Rattle.stream.specs.declared.frame.Frame.TheVariants.{Unfinished, BadStart, Skipped, Whole}

abbrev pub frame_of : Next → Frame
frame_of unfinished = Unfinished
frame_of bad_start = BadStart
frame_of (skipped header missing) = Skipped (length header) missing
frame_of (whole n) = Whole n
