-- The test of the memory, then the reply, by what it is. Assumes nothing.
use Rattle.buffer_calls.proofs.Cases.{is_one_law, not_one, step_told}
use Rattle.dequeue_calls.specs.Dequeues.{dequeue_reply, dqbuf_of}
use Rattle.stream_run.specs.Replies.{returned}
use Rattle.stream_run.proofs.Given.{returned_number}
use Rattle.ioctl_table.proofs.Raised.{raised}
use mathlib.Core.Path.{refl, sym, ap}
use Rattle.dequeue_calls.proofs.dqbuf.Goals as goal

pub returns-then-word_at-ne1 : goal.returns-then-word_at-ne1
unfolding dqbuf_of
returns-then-word_at-ne1 c = rw (not_one c.word_at.ensures c.if-word_at-ne1.true)

pub returns : goal.returns
unfolding dqbuf_of
returns c =
    let a = c.args in
    rw (is_one_law c.word_at.ensures c.if-word_at-ne1.false)
    (step_told c.dequeue.ensures (λ q z. dequeue_reply q z a.kind a.size a.argument.now) _ (ap returned c.in_ok-f.was) (sym (returned_number c.in_ok-f.f))
    (rw c.returned.ensures at c.put_buffer.ensures))

pub returns-in_err-f : goal.returns-in_err-f
unfolding dqbuf_of
returns-in_err-f c =
    let a = c.args in
    rw (is_one_law c.word_at.ensures c.if-word_at-ne1.false)
    (step_told c.dequeue.ensures (λ q z. dequeue_reply q z a.kind a.size a.argument.now) _ (ap returned c.in_err-f.was) (raised c.from_residual.result _ c.from_residual.ensures.1) refl)
