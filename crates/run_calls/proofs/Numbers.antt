-- The number that each request about buffers gives back, by its tests; the type was tested before. Assumes nothing.
use mathlib.Core.Path.{◌≡◌, refl}
use mathlib.Core.Bool.{Bool, true, false, cond, not, ◌&&◌, ◌||◌}
use Prim.Native.Nat.{ℕ}
use native.Mathlib.Omega.{arith}
use borrow.Author.Tests.{ne_eqb}
use lib.Dec.{eqb, leb}
use mathlib.Core.List.{List, [], ◌∷◌}
use lib.ListN.{length}
use Rattle.wire_read.specs.Words.{word_at}
use Rattle.ioctl_table.specs.Refusal.{errno_of}
use Rattle.ioctl_table.specs.declared.refusals.Refusal.TheVariants.{WrongMemory, NoSuchIndex}
use Rattle.stream_words.specs.declared.Filled.{Filled}
use Rattle.stream_words.specs.Stream.{Stream}
use Rattle.stream_words.specs.Moves.{is_incoming, is_outgoing, oldest_of}
use Rattle.stream_maps.specs.Maps.{any_mapped}
use Rattle.stream_run.specs.Stream.{streaming}
use Rattle.stream_run.specs.Switches.{Step, request_buffers_of, start_of, stop_of}
use Rattle.stream_queue.specs.Queueing.{handed_over, enqueue_of, dequeue_of}
use Rattle.stream_run.specs.Numbers.{reply_number}
use Rattle.std.specs.Prelude.{Ok, Err}
use Rattle.stream_status.specs.Buffer.{status_of, query_of}
use Rattle.buffer_calls.specs.Buffers.{StreamAnswer, stream_answer, queried_as, reqbufs_of, querybuf_of}
use Rattle.queue_calls.specs.Queues.{qbuf_of}
use Rattle.dequeue_calls.specs.Dequeues.{dqbuf_of}
use Rattle.run_calls.specs.Runs.{streamon_of, streamoff_of}

-- a test before the rest: its number, or that of the rest
reply_by : (x : Bool) (a b : Step) (n : ℕ) → reply_number b.reply ≡ n → reply_number (cond x a b).reply ≡ cond x (reply_number a.reply) n
reply_by true a b n e = refl
reply_by false a b n e = e

memory_by : (x : Bool) (s : Stream) (a : List ℕ) (r : StreamAnswer) (n : ℕ) → r.number ≡ n → (cond x (stream_answer (errno_of WrongMemory) s a) r).number ≡ cond x 22 n
memory_by true s a r n e = refl
memory_by false s a r n e = e

handed_number : (s : Stream) (o : List Filled) → reply_number (handed_over (oldest_of o) s).reply ≡ cond (eqb (length o) 0) 11 0
handed_number s [] = refl
handed_number s (f ∷ o) = rw (ne_eqb (length (f ∷ o)) 0 (λ e. omega arith))

module _ (s : Stream) (kind size : ℕ) (a : List ℕ) where
  pub reqbufs_number : (reqbufs_of s kind size a).number ≡ cond (not (eqb (word_at a 8) 1)) 22 (cond (any_mapped s.maps) 16 (cond (streaming s && not (eqb (word_at a 0) 0)) 16 0))
  unfolding reqbufs_of request_buffers_of
  reqbufs_number = memory_by (not (eqb (word_at a 8) 1)) s a _ _ (reply_by (any_mapped s.maps) _ _ _ (reply_by (streaming s && not (eqb (word_at a 0) 0)) _ _ 0 refl))

  pub querybuf_number : (querybuf_of s kind size a).number ≡ cond (leb s.queues.granted (word_at a 0)) 22 0
  unfolding querybuf_of query_of
  querybuf_number = go (leb s.queues.granted (word_at a 0))
    where
      go : (x : Bool) → (queried_as (cond x (Err NoSuchIndex) (Ok (status_of s (word_at a 0) size))) s kind a).number ≡ cond x 22 0
      go true = refl
      go false = refl

  pub qbuf_number : (qbuf_of s kind size a).number
      ≡ cond (not (eqb (word_at a 48) 1)) 22 (cond (leb s.queues.granted (word_at a 0)) 22 (cond (is_incoming s.queues (word_at a 0) || is_outgoing s.queues (word_at a 0)) 22 0))
  unfolding qbuf_of enqueue_of
  qbuf_number =
      memory_by (not (eqb (word_at a 48) 1)) s a _ _
      (reply_by (leb s.queues.granted (word_at a 0)) _ _ _ (reply_by (is_incoming s.queues (word_at a 0) || is_outgoing s.queues (word_at a 0)) _ _ 0 refl))

  pub dqbuf_number : (dqbuf_of s kind size a).number
      ≡ cond (not (eqb (word_at a 48) 1)) 22 (cond (eqb s.queues.granted 0) 22 (cond (not (streaming s)) 22 (cond (eqb (length s.queues.outgoing) 0) 11 0)))
  unfolding dqbuf_of dequeue_of
  dqbuf_number =
      memory_by (not (eqb (word_at a 48) 1)) s a _ _
      (reply_by (eqb s.queues.granted 0) _ _ _ (reply_by (not (streaming s)) _ _ _ (handed_number s s.queues.outgoing)))

  pub streamon_number : (streamon_of s kind size a).number ≡ cond (eqb s.queues.granted 0) 22 0
  unfolding streamon_of start_of
  streamon_number = reply_by (eqb s.queues.granted 0) _ _ 0 refl

  pub streamoff_number : (streamoff_of s kind size a).number ≡ 0
  unfolding streamoff_of stop_of
  streamoff_number = refl
