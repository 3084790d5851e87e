-- The slot as the two calls promise, the other fields as they came. Assumes nothing.
use Rattle.stream_status.specs.Buffer.{described_of}
use Rattle.stream_status.proofs.described.Goals as goal

pub returns : goal.returns
unfolding described_of
returns c = simp (c.slot_offset-offset.ensures, c.slot_size-length.ensures)
