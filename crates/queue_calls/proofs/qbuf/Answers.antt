-- The test of the memory, then the reply, by what it is; a buffer that was taken is not looked for again. Assumes nothing.
use Rattle.ioctl_table.proofs.Raised.{raised}
use mathlib.Core.Path.{refl, ap, ◌∙◌}
use mathlib.Core.Bool.{Bool}
use Rattle.stream_words.specs.Words.{stream_in}
use Rattle.stream_status.specs.Buffer.{queued_of}
use Rattle.stream_status.proofs.Joined.{queued_status}
use Rattle.stream_run.specs.Replies.{done}
use Rattle.queue_calls.specs.Queues.{enqueue_reply, qbuf_of}
use Rattle.buffer_calls.proofs.Cases.{is_one_law, not_one, step_told}
use Rattle.queue_calls.proofs.qbuf.Goals as goal

pub returns-then-word_at-ne1 : goal.returns-then-word_at-ne1
unfolding qbuf_of
returns-then-word_at-ne1 c = rw (not_one c.word_at.ensures c.if-word_at-ne1.true)

pub returns : goal.returns
unfolding qbuf_of
returns c =
    let a = c.args in
    let q = c.queued in
    let is = rw c.in_ok-enqueue.was at c.enqueue.ensures in
    let status = q.ensures ∙ ap (λ (b : Bool). queued_of (stream_in c.enqueue.new.s).maps c.word_at-k.result b a.size) c.has_room-room.ensures ∙ queued_status _ _ c.word_at-k.result a.size is in
    rw (is_one_law c.word_at.ensures c.if-word_at-ne1.false)
    (step_told (rw c.word_at-k.ensures at c.enqueue.ensures) (λ q z. enqueue_reply q z a.kind a.size a.argument.now) _ (ap done c.in_ok-enqueue.was) refl
    (rw (status, c.word_at-k.ensures) at c.put_buffer.ensures))

pub returns-in_err-enqueue : goal.returns-in_err-enqueue
unfolding qbuf_of
returns-in_err-enqueue c =
    let a = c.args in
    rw (is_one_law c.word_at.ensures c.if-word_at-ne1.false)
    (step_told (rw c.word_at-k.ensures at c.enqueue.ensures) (λ q z. enqueue_reply q z a.kind a.size a.argument.now) _ (ap done c.in_err-enqueue.was) (raised c.from_residual.result _ c.from_residual.ensures.1) refl)
