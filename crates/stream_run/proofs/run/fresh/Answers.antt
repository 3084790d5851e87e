-- The words compute to the stream. Assumes nothing.
use Rattle.stream_run.specs.Stream.{fresh_stream}
use Rattle.stream_words.specs.Words.{queues_in, maps_in, stream_in}
use Rattle.stream_maps.specs.Maps.{no_maps}
use Rattle.stream_words.specs.Moves.{emptied}
use Rattle.wire_read.specs.Lists.{tab}
use mathlib.Core.Path.{refl}
use Rattle.stream_run.proofs.run.fresh.Goals as goal

pub returns : goal.returns
unfolding fresh_stream emptied stream_in queues_in maps_in no_maps tab
returns c = refl
