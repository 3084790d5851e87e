-- A request about buffers that is refused leaves the stream and the argument as they were; every argument keeps its length. Assumes nothing.
use mathlib.Core.Path.{◌≡◌, refl}
use mathlib.Core.Logic.{◌≢◌}
use mathlib.Core.Bool.{Bool, true, false, cond, not, ◌&&◌, ◌||◌}
use Prim.Native.Nat.{ℕ}
use lib.Dec.{eqb, leb}
use mathlib.Core.List.{List, [], ◌∷◌}
use lib.ListN.{length}
use lib.Seq.{sets, length-sets}
use Rattle.wire_read.specs.Words.{word_at}
use Rattle.ioctl_table.specs.Refusal.{errno_of}
use Rattle.ioctl_table.specs.declared.refusals.Refusal.TheVariants.{WrongMemory, NoSuchIndex, NotDequeued, NoBuffers, NotStreaming, StillMapped, Streaming}
use Rattle.stream_words.specs.declared.Filled.{Filled}
use Rattle.stream_words.specs.Stream.{Stream}
use Rattle.stream_words.specs.Moves.{is_incoming, is_outgoing, oldest_of}
use Rattle.stream_maps.specs.Maps.{any_mapped}
use Rattle.stream_run.specs.Replies.Reply.{Done, Granted}
use Rattle.stream_run.specs.Stream.{streaming}
use Rattle.stream_run.specs.Switches.{Step, answers, refuses, request_buffers_of, start_of, stop_of}
use Rattle.stream_queue.specs.Queueing.{handed_over, enqueue_of, dequeue_of}
use Rattle.std.specs.Prelude.{Result, Ok, Err}
use Rattle.ioctl_table.specs.declared.refusals.Refusal.{Refusal}
use Rattle.stream_status.specs.declared.Status.{Status}
use Rattle.stream_status.specs.Buffer.{status_of, query_of, returned_of}
use Rattle.buffer_replies.specs.Replies.{buffers_reply, buffer_reply}
use Rattle.buffer_calls.specs.Buffers.{StreamAnswer, stream_answer, stepped, request_reply, queried_as, reqbufs_of, querybuf_of}
use Rattle.queue_calls.specs.Queues.{enqueue_reply, qbuf_of}
use Rattle.dequeue_calls.specs.Dequeues.{dequeue_reply, dqbuf_of}
use Rattle.run_calls.specs.Runs.{streamon_of, streamoff_of}

-- an answer that is honest about stream s and argument a
pub record HonestStream (s : Stream) (a : List ℕ) (r : StreamAnswer) : Type 0 where
  pub unchanged : r.number ≢ 0 → (r.stream ≡ s) × (r.argument ≡ a)
  pub long : length r.argument ≡ length a

module _ (s : Stream) (a : List ℕ) where
  refused_honest : (n : ℕ) → HonestStream s a (stream_answer n s a)
  refused_honest n = record { unchanged = λ h. (refl, refl); long = refl }

  done_honest : (t : Stream) (v : List ℕ) → HonestStream s a (stream_answer 0 t (sets a 0 v))
  done_honest t v = record { unchanged = λ h. absurd (h refl); long = length-sets a 0 v }

  quiet_honest : (t : Stream) → HonestStream s a (stream_answer 0 t a)
  quiet_honest t = record { unchanged = λ h. absurd (h refl); long = refl }

  memory_honest : (x : Bool) (r : StreamAnswer) → HonestStream s a r → HonestStream s a (cond x (stream_answer (errno_of WrongMemory) s a) r)
  memory_honest true r h = refused_honest (errno_of WrongMemory)
  memory_honest false r h = h

  module _ (kind size : ℕ) where
    pub reqbufs_honest : HonestStream s a (reqbufs_of s kind size a)
    unfolding reqbufs_of request_buffers_of
    reqbufs_honest = memory_honest (not (eqb (word_at a 8) 1)) _ (go (any_mapped s.maps) (streaming s && not (eqb (word_at a 0) 0)) _ _)
      where
        z : Bool → Bool → ℕ → Stream → Step
        z x y n t = cond x (refuses StillMapped s) (cond y (refuses Streaming s) (answers (Granted n) t))

        go : (x y : Bool) (n : ℕ) (t : Stream) → HonestStream s a (stepped (z x y n t) (request_reply (z x y n t).reply kind a))
        go true y n t = refused_honest _
        go false true n t = refused_honest _
        go false false n t = done_honest t (buffers_reply kind n)

    pub querybuf_honest : HonestStream s a (querybuf_of s kind size a)
    unfolding querybuf_of
    querybuf_honest = go (query_of s (word_at a 0) size)
      where
        go : (x : Result Status Refusal) → HonestStream s a (queried_as x s kind a)
        go (Ok b) = done_honest s (buffer_reply kind b)
        go (Err why) = refused_honest (errno_of why)

    pub qbuf_honest : HonestStream s a (qbuf_of s kind size a)
    unfolding qbuf_of enqueue_of
    qbuf_honest = memory_honest (not (eqb (word_at a 48) 1)) _ (go (leb s.queues.granted (word_at a 0)) (is_incoming s.queues (word_at a 0) || is_outgoing s.queues (word_at a 0)) _)
      where
        t : Bool → Bool → Stream → Step
        t x y z = cond x (refuses NoSuchIndex s) (cond y (refuses NotDequeued s) (answers Done z))

        go : (x y : Bool) (z : Stream) → HonestStream s a (stepped (t x y z) (enqueue_reply (t x y z).reply (t x y z).stream kind size a))
        go true y z = refused_honest _
        go false true z = refused_honest _
        go false false z = done_honest z (buffer_reply kind (status_of z (word_at a 0) size))

    pub dqbuf_honest : HonestStream s a (dqbuf_of s kind size a)
    unfolding dqbuf_of dequeue_of
    dqbuf_honest = memory_honest (not (eqb (word_at a 48) 1)) _ (go (eqb s.queues.granted 0) (not (streaming s)) s.queues.outgoing)
      where
        t : Bool → Bool → List Filled → Step
        t x y o = cond x (refuses NoBuffers s) (cond y (refuses NotStreaming s) (handed_over (oldest_of o) s))

        go : (x y : Bool) (o : List Filled) → HonestStream s a (stepped (t x y o) (dequeue_reply (t x y o).reply (t x y o).stream kind size a))
        go true y o = refused_honest _
        go false true o = refused_honest _
        go false false [] = refused_honest _
        go false false (f ∷ o) = done_honest _ (buffer_reply kind (returned_of s.maps f size))

    pub streamon_honest : HonestStream s a (streamon_of s kind size a)
    unfolding streamon_of start_of
    streamon_honest = go (eqb s.queues.granted 0) _
      where
        go : (x : Bool) (z : Stream) → HonestStream s a (stepped (cond x (refuses NoBuffers s) (answers Done z)) a)
        go true z = refused_honest _
        go false z = quiet_honest z

    pub streamoff_honest : HonestStream s a (streamoff_of s kind size a)
    unfolding streamoff_of stop_of
    streamoff_honest = quiet_honest _
