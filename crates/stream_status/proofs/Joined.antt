-- The status of a buffer that QBUF took, without a search. Assumes nothing.
use mathlib.Core.Path.{◌≡◌, refl, sym, ap, ◌∙◌}
use mathlib.Core.Bool.{Bool, true, false, cond, ◌||◌}
use Prim.Native.Nat.{ℕ}
use native.Mathlib.Omega.{arith}
use mathlib.Core.List.{List}
use lib.Dec.{leb}
use Rattle.ioctl_table.specs.declared.refusals.Refusal.TheVariants.{NoSuchIndex, NotDequeued}
use Rattle.stream_words.specs.declared.Standing.{Standing}
use Rattle.stream_words.specs.declared.Standing.TheVariants.{Dequeued, Incoming}
use Rattle.stream_words.specs.Stream.{Stream, on_queues}
use Rattle.stream_words.specs.Moves.{is_incoming, is_outgoing, has_room, pushed}
use Rattle.stream_maps.specs.Maps.{is_mapped}
use Rattle.stream_search.proofs.Found.{standing_pushed}
use Rattle.stream_run.specs.Replies.Reply.{Done}
use Rattle.stream_run.specs.Switches.{Step, answers, refuses}
use Rattle.stream_queue.specs.Queueing.{enqueue_of}
use Rattle.stream_run.specs.Numbers.{reply_number}
use Rattle.stream_status.specs.Buffer.{flags_of, frame_for, described_of, status_of, queued_of}

-- by whether the line had room
by_room : (m : List ℕ) (k size : ℕ) (b : Bool) → queued_of m k b size ≡ described_of k (flags_of (is_mapped m k) (cond b Incoming Dequeued)) (frame_for (cond b Incoming Dequeued)) size
unfolding queued_of
by_room m k size true = refl
by_room m k size false = refl

module _ (s z : Stream) (k size : ℕ) where
  pushed_status : (is_incoming s.queues k || is_outgoing s.queues k) ≡ false → queued_of s.maps k (has_room s.queues) size ≡ status_of (on_queues (λ q. pushed q k) s) k size
  unfolding status_of
  pushed_status h =
      by_room s.maps k size (has_room s.queues)
      ∙ ap (λ (t : Standing). described_of k (flags_of (is_mapped s.maps k) t) (frame_for t) size) (sym (standing_pushed s.queues k h))

  -- an accepted QBUF leaves the stream z, and there its buffer is as this says
  pub queued_status : answers Done z ≡ enqueue_of s k → queued_of z.maps k (has_room s.queues) size ≡ status_of z k size
  unfolding enqueue_of
  queued_status = go (leb s.queues.granted k) (is_incoming s.queues k || is_outgoing s.queues k) refl
    where
      r : Bool → Bool → Step
      r x y = cond x (refuses NoSuchIndex s) (cond y (refuses NotDequeued s) (answers Done (on_queues (λ q. pushed q k) s)))

      go : (x y : Bool) → (is_incoming s.queues k || is_outgoing s.queues k) ≡ y → answers Done z ≡ r x y → queued_of z.maps k (has_room s.queues) size ≡ status_of z k size
      go true y e h = absurd (omega (arith, ap (λ (t : Step). reply_number t.reply) h))
      go false true e h = absurd (omega (arith, ap (λ (t : Step). reply_number t.reply) h))
      go false false e h =
          ap (λ (t : Step). queued_of t.stream.maps k (has_room s.queues) size) h ∙ pushed_status e ∙ ap (λ (t : Step). status_of t.stream k size) (sym h)
