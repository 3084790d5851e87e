-- Each way of the test. Assumes nothing.
use Rattle.stream_status.specs.Buffer.{queued_of}
use Rattle.stream_status.proofs.queued.Goals as goal

pub returns-then-room : goal.returns-then-room
unfolding queued_of
returns-then-room c =
    rw (c.described.ensures, c.flags.ensures, c.is_mapped-mapped.ensures, c.no_frame-none.ensures, c.if-room.true)

pub returns : goal.returns
unfolding queued_of
returns c =
    rw (c.described-2.ensures, c.flags-2.ensures, c.is_mapped-mapped.ensures, c.no_frame-none.ensures, c.if-room.false)
