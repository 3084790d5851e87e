-- Calls on one stream and its memory: what each answers and leaves, by the definitions that the contracts cite.
use Rattle.std.specs.Prelude.{ℕ, Bool, cond, List, [], ◌∷◌, eqb, length}
use Rattle.ioctl_table.specs.declared.refusals.Refusal.TheVariants.{BuffersExist}
use Rattle.stream_words.specs.declared.Time.{Time}
use Rattle.stream_run.specs.Replies.{Reply}
use Rattle.stream_run.specs.Replies.Reply.{Done, Refused}
use Rattle.stream_words.specs.Stream.{Stream}
use Rattle.stream_run.specs.Stream.{fresh_stream}
use Rattle.stream_run.specs.Switches.{request_buffers_of, start_of, stop_of}
use Rattle.stream_queue.specs.Queueing.{enqueue_of, dequeue_of}
use Rattle.stream_maps.specs.declared.Change.{Change}
use Rattle.stream_mmap.specs.Mapping.{change_of}
use Rattle.stream_arrival.specs.declared.Arrival.{Arrival}
use Rattle.stream_arrival.specs.Arrivals.{Arrived}
use Rattle.stream_arrival.specs.Arrivals.{arrival_of, written_by}

-- A call. A client asks for so many buffers, hands one in, takes one, starts, stops, or asks for another frame size; maps a buffer or unmaps it,
-- by offset and length; or a frame arrives: its bytes, its time, whether it is whole by the caller's rule, and what is lent if not the
-- stream's memory. Any other call leaves the stream alone.
pub data Call : Type 0 where
  request : ℕ → Call
  enqueue : ℕ → Call
  dequeue : Call
  start : Call
  stop : Call
  resize : ℕ → Call
  change : Change → ℕ → ℕ → Call
  arrival : List ℕ → Time → Bool → List ℕ → Call
  other : Call

-- What a call is answered.
pub data Answer : Type 0 where
  replied : Reply → Answer
  arrived : Arrival → Answer

-- A stream, the frame size in force, and the memory.
pub record World : Type 0 where
  pub stream : Stream
  pub size : ℕ
  pub memory : List ℕ

-- as an opening makes it: any frame size, a memory holding anything
abbrev pub opened : ℕ → List ℕ → World
opened size m = record { stream = fresh_stream (length m); size = size; memory = m }

-- an arrival is lent the memory as it was left, or something of another length
abbrev pub lent : World → List ℕ → List ℕ
lent w lends = cond (eqb (length lends) (length w.memory)) w.memory lends

-- what an arrival answers and leaves
abbrev pub arrives : World → List ℕ → Time → Bool → List ℕ → Arrived
arrives w b t whole lends = arrival_of w.stream (length (lent w lends)) (length b) whole w.size t

-- the frame size can change only while no buffer exists
abbrev pub size_reply : ℕ → Reply
size_reply granted = cond (eqb granted 0) Done (Refused BuffersExist)

-- what a call is answered
abbrev pub answer : World → Call → Answer
answer w (request n) = replied (request_buffers_of w.stream n w.size).reply
answer w (enqueue k) = replied (enqueue_of w.stream k).reply
answer w dequeue = replied (dequeue_of w.stream).reply
answer w start = replied (start_of w.stream).reply
answer w stop = replied (stop_of w.stream).reply
answer w (resize n) = replied (size_reply w.stream.queues.granted)
answer w (change c o l) = replied (change_of c w.stream w.size o l).reply
answer w (arrival b t whole lends) = arrived (arrives w b t whole lends).arrival
answer w other = replied Done

-- the same memory and frame size with another stream
abbrev pub with_stream : World → Stream → World
with_stream w s = record { stream = s; size = w.size; memory = w.memory }

-- what a call leaves
abbrev pub next : World → Call → World
next w (request n) = with_stream w (request_buffers_of w.stream n w.size).stream
next w (enqueue k) = with_stream w (enqueue_of w.stream k).stream
next w dequeue = with_stream w (dequeue_of w.stream).stream
next w start = with_stream w (start_of w.stream).stream
next w stop = with_stream w (stop_of w.stream).stream
next w (resize n) = record { stream = w.stream; size = cond (eqb w.stream.queues.granted 0) n w.size; memory = w.memory }
next w (change c o l) = with_stream w (change_of c w.stream w.size o l).stream
next w (arrival b t whole lends) =
    record {
      stream = (arrives w b t whole lends).stream;
      size = w.size;
      memory = cond (eqb (length lends) (length w.memory)) (written_by (arrives w b t whole lends).arrival w.size w.memory b) w.memory;
    }
next w other = w

-- what a list of calls leaves, on any machine: each gets what the one before left
abbrev pub leaves : {W C : Type 0} → (W → C → W) → W → List C → W
leaves n w [] = w
leaves n w (c ∷ cs) = leaves n (n w c) cs

-- what a list of calls leaves
abbrev pub after : World → List Call → World
after w cs = leaves next w cs
