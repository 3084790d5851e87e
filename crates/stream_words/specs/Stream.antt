-- One stream: its run, the two queues of its buffers, and their maps.
use Rattle.std.specs.Prelude.{ℕ, List}
use Rattle.stream_words.specs.declared.Filled.{Filled}

-- what became of the arrivals of the last run; ran is 0 before the first
pub record Run : Type 0 where
  pub ran : ℕ
  pub accepted : ℕ
  pub handed : ℕ
  pub damaged : ℕ
  pub dropped : ℕ
  pub discarded : ℕ

-- how many buffers are granted; those that wait for a frame and those that hold one, each oldest first
pub record Queues : Type 0 where
  pub granted : ℕ
  pub incoming : List ℕ
  pub outgoing : List Filled

-- the length of the memory as it was noted at opening, whether a run is on (not 0), its record, the number that its next arrival gets, the buffers,
-- and how often each of the 32 that there can be is mapped
pub record Stream : Type 0 where
  pub length : ℕ
  pub streaming : ℕ
  pub run : Run
  pub number : ℕ
  pub queues : Queues
  pub maps : List ℕ

-- the same stream with other queues
abbrev pub with_queues : Stream → Queues → Stream
with_queues s q = record { length = s.length; streaming = s.streaming; run = s.run; number = s.number; queues = q; maps = s.maps }

-- its queues changed by f
abbrev pub on_queues : (Queues → Queues) → Stream → Stream
on_queues f s = with_queues s (f s.queues)

-- the same stream with another record
abbrev pub with_run : Stream → Run → Stream
with_run s r = record { length = s.length; streaming = s.streaming; run = r; number = s.number; queues = s.queues; maps = s.maps }

-- the same stream with other map counts
abbrev pub with_maps : Stream → List ℕ → Stream
with_maps s m = record { length = s.length; streaming = s.streaming; run = s.run; number = s.number; queues = s.queues; maps = m }
