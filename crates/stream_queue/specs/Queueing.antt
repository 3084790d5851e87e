-- A buffer is handed in, or handed over: what the call answers, and the stream after it. The first test that holds decides.
use Rattle.std.specs.Prelude.{ℕ, cond, not, ◌||◌, ◌==◌, nat_le, Option, Some, None}
use Rattle.ioctl_table.specs.declared.refusals.Refusal.TheVariants.{NoSuchIndex, NotDequeued, NoBuffers, NotStreaming, NothingOutgoing}
use Rattle.stream_words.specs.declared.Filled.{Filled}
use Rattle.stream_words.specs.Stream.{Stream, on_queues}
use Rattle.stream_words.specs.Moves.{is_incoming, is_outgoing, oldest_of, pushed, popped}
use Rattle.stream_run.specs.Replies.Reply.{Done, Returned}
use Rattle.stream_run.specs.Stream.{streaming, handed_run}
use Rattle.stream_run.specs.Switches.{Step, answers, refuses}

-- QBUF: an index that is there, of a buffer in neither queue; it becomes the youngest incoming one
unfoldable pub enqueue_of : Stream → ℕ → Step
enqueue_of s k =
    cond (nat_le s.queues.granted k) (refuses NoSuchIndex s)
    (cond (is_incoming s.queues k || is_outgoing s.queues k) (refuses NotDequeued s)
    (answers Done (on_queues (λ q. pushed q k) s)))

-- the oldest frame held is handed over
abbrev pub handed_over : Option Filled → Stream → Step
handed_over None s = refuses NothingOutgoing s
handed_over (Some f) s = answers (Returned f) (record { length = s.length; streaming = s.streaming; run = handed_run s.run; number = s.number; queues = popped s.queues; maps = s.maps })

-- DQBUF: with buffers, in a run, and a frame held
unfoldable pub dequeue_of : Stream → Step
dequeue_of s =
    cond (s.queues.granted == 0) (refuses NoBuffers s)
    (cond (not (streaming s)) (refuses NotStreaming s)
    (handed_over (oldest_of s.queues.outgoing) s))
