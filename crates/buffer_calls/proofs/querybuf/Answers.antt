-- By what the query gives. Assumes nothing.
use Rattle.ioctl_table.proofs.Raised.{raised}
use Rattle.buffer_calls.specs.Buffers.{querybuf_of}
use Rattle.buffer_calls.proofs.querybuf.Goals as goal

pub returns : goal.returns
unfolding querybuf_of
returns c =
    rw (c.put_buffer.ensures, ← c.word_at-k.ensures, ← c.query.ensures, c.in_ok-b.was)

pub returns-in_err-b : goal.returns-in_err-b
unfolding querybuf_of
returns-in_err-b c =
    rw (raised c.from_residual.result _ c.from_residual.ensures.1, ← c.word_at-k.ensures, ← c.query.ensures, c.in_err-b.was)
