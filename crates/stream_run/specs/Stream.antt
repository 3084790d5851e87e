-- One stream: at opening, when a run begins, when it ends.
use Rattle.std.specs.Prelude.{ℕ, ◌+◌, ◌%◌, ◌^◌, ◌≡◌, Bool, cond, not, eqb, length}
use Rattle.stream_words.specs.Stream.{Run, Stream}
use Rattle.stream_words.specs.Moves.{emptied}
use Rattle.stream_maps.specs.Maps.{no_maps}

-- one more in a count of 64 bits
abbrev pub one_more : ℕ → ℕ
one_more n = (n + 1) % 2 ^ 64

-- the number of an arrival before which n were accepted in its run: the count reduced
abbrev pub reduced : ℕ → ℕ
reduced n = n % 2 ^ 32

-- the next number is that of the count: in every history from an opening
abbrev pub Numbered : Stream → Type 0
Numbered s = s.number ≡ reduced s.run.accepted

-- whether a run is on
abbrev pub streaming : Stream → Bool
streaming s = not (eqb s.streaming 0)

-- a record with no arrivals in it
abbrev pub fresh_run : ℕ → Run
fresh_run ran = record { ran = ran; accepted = 0; handed = 0; damaged = 0; dropped = 0; discarded = 0 }

-- after opening: no buffers, no run, no maps
unfoldable pub fresh_stream : ℕ → Stream
fresh_stream n = record { length = n; streaming = 0; run = fresh_run 0; number = 0; queues = emptied 0; maps = no_maps }

-- a run begins, with a record of its own; its numbers start at 0
unfoldable pub started : Stream → Stream
started s = record { length = s.length; streaming = 1; run = fresh_run 1; number = 0; queues = s.queues; maps = s.maps }

-- what a stop leaves of the record: it discards what is outgoing
abbrev pub stopped_run : Run → ℕ → Run
stopped_run r done =
    record { ran = r.ran; accepted = r.accepted; handed = r.handed; damaged = r.damaged; dropped = r.dropped; discarded = done }

-- a run ends, if one is on; n buffers are left, all dequeued, and mapped as they were
unfoldable pub stopped : Stream → ℕ → Stream
stopped s n =
    record {
      length = s.length;
      streaming = 0;
      run = cond (eqb s.streaming 0) s.run (stopped_run s.run (length s.queues.outgoing));
      number = s.number;
      queues = emptied n;
      maps = s.maps;
    }

-- one more arrival of the run was handed over
abbrev pub handed_run : Run → Run
handed_run r =
    record { ran = r.ran; accepted = r.accepted; handed = one_more r.handed; damaged = r.damaged; dropped = r.dropped; discarded = r.discarded }
