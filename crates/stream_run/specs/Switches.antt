-- Buffers are granted, a run begins, a run ends: what each call answers, and the stream after it. The first test that holds decides.
use Rattle.std.specs.Prelude.{ℕ, ◌/◌, min, cond, not, ◌&&◌, eqb}
use Rattle.ioctl_table.specs.declared.refusals.Refusal.{Refusal}
use Rattle.ioctl_table.specs.declared.refusals.Refusal.TheVariants.{NoBuffers, StillMapped, Streaming}
use Rattle.stream_slots.specs.Slot.{slot_size}
use Rattle.stream_words.specs.Stream.{Stream}
use Rattle.stream_maps.specs.Maps.{any_mapped}
use Rattle.stream_run.specs.Replies.{Reply}
use Rattle.stream_run.specs.Replies.Reply.{Done, Granted, Refused}
use Rattle.stream_run.specs.Stream.{streaming, started, stopped}

-- the answer to a call, and the stream after it
pub record Step : Type 0 where
  pub reply : Reply
  pub stream : Stream

abbrev pub answers : Reply → Stream → Step
answers r s = record { reply = r; stream = s }

-- a refusal leaves the stream as it was
abbrev pub refuses : Refusal → Stream → Step
refuses why s = answers (Refused why) s

-- the least of the count, 32 and memory length divided by slot; a slot of 0 grants none
unfoldable pub grant_of : ℕ → ℕ → ℕ → ℕ
grant_of length count size = cond (eqb (slot_size size) 0) 0 (min count (min 32 (length / slot_size size)))

-- REQBUFS: while no buffer is mapped; while streaming only a count of 0, which first stops the run; then all are dequeued
unfoldable pub request_buffers_of : Stream → ℕ → ℕ → Step
request_buffers_of s count size =
    cond (any_mapped s.maps) (refuses StillMapped s)
    (cond (streaming s && not (eqb count 0)) (refuses Streaming s)
    (answers (Granted (grant_of s.length count size)) (stopped s (grant_of s.length count size))))

-- STREAMON: with buffers; while streaming it changes nothing
unfoldable pub start_of : Stream → Step
start_of s =
    cond (eqb s.queues.granted 0) (refuses NoBuffers s)
    (answers Done (cond (streaming s) s (started s)))

-- STREAMOFF: ends a run, empties both queues, keeps the buffers and their maps
unfoldable pub stop_of : Stream → Step
stop_of s = answers Done (stopped s s.queues.granted)
