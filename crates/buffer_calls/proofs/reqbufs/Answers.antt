-- The test of the memory, then the reply, by what it is. Assumes nothing.
use Rattle.buffer_calls.proofs.Cases.{is_one_law, not_one, step_told}
use Rattle.buffer_calls.specs.Buffers.{request_reply, reqbufs_of}
use Rattle.stream_run.specs.Replies.{granted}
use Rattle.stream_run.proofs.Given.{granted_number}
use Rattle.ioctl_table.proofs.Raised.{raised}
use mathlib.Core.Path.{refl, sym, ap}
use Rattle.buffer_calls.proofs.reqbufs.Goals as goal

pub returns-then-word_at-ne1 : goal.returns-then-word_at-ne1
unfolding reqbufs_of
returns-then-word_at-ne1 c = rw (not_one c.word_at.ensures c.if-word_at-ne1.true)

pub returns : goal.returns
unfolding reqbufs_of
returns c =
    let a = c.args in
    rw (is_one_law c.word_at.ensures c.if-word_at-ne1.false)
    (step_told (rw c.word_at-count.ensures at c.request_buffers.ensures) (λ q z. request_reply q a.kind a.argument.now) _ (ap granted c.in_ok-n.was) (sym (granted_number c.in_ok-n.n)) c.put_buffers.ensures)

pub returns-in_err-n : goal.returns-in_err-n
unfolding reqbufs_of
returns-in_err-n c =
    let a = c.args in
    rw (is_one_law c.word_at.ensures c.if-word_at-ne1.false)
    (step_told (rw c.word_at-count.ensures at c.request_buffers.ensures) (λ q z. request_reply q a.kind a.argument.now) _ (ap granted c.in_err-n.was) (raised c.from_residual.result _ c.from_residual.ensures.1) refl)
