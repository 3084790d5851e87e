-- The stream as `end` promises. Assumes nothing.
use Rattle.stream_run.specs.Switches.{stop_of}
use Rattle.stream_words.proofs.Record.{granted_is}
use Rattle.stream_run.proofs.switches.stop.Goals as goal

pub returns : goal.returns
unfolding stop_of
returns c = rw (c.end.ensures, granted_is)
