-- The next number is that of the count at opening, when a run begins, and when it ends.
use mathlib.Core.Path.{◌≡◌, refl}
use mathlib.Core.Bool.{Bool, true, false, cond}
use Prim.Native.Nat.{ℕ}
use lib.Dec.{eqb}
use lib.ListN.{length}
use Rattle.stream_words.specs.Stream.{Stream}
use Rattle.stream_run.specs.Stream.{reduced, Numbered, fresh_stream, started, stopped_run, stopped}

pub fresh_numbered : (n : ℕ) → Numbered (fresh_stream n)
unfolding fresh_stream
fresh_numbered n = refl

pub started_numbered : (s : Stream) → Numbered (started s)
unfolding started
started_numbered s = refl

-- a stop leaves the count of those accepted, whether a run was on or not
pub stopped_numbered : (s : Stream) (n : ℕ) → Numbered s → Numbered (stopped s n)
unfolding stopped
stopped_numbered s n h = by (eqb s.streaming 0)
  where
    by : (a : Bool) → s.number ≡ reduced (cond a s.run (stopped_run s.run (length s.queues.outgoing))).accepted
    by true = h
    by false = h
