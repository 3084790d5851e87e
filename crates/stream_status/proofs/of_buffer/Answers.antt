-- Each part as its callee promises. Assumes nothing.
use Rattle.stream_status.specs.Buffer.{status_of}
use Rattle.stream_status.proofs.of_buffer.Goals as goal

pub returns : goal.returns
unfolding status_of
returns c =
    rw (
      c.described.ensures,
      c.held.ensures,
      c.flags.ensures,
      c.is_mapped.ensures,
      c.standing_of-st.ensures,
    )
