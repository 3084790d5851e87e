-- It is in neither queue. Assumes nothing.
use Rattle.stream_status.specs.Buffer.{returned_of}
use Rattle.stream_status.proofs.returned.Goals as goal

pub returns : goal.returns
unfolding returned_of
returns c = rw (c.described.ensures, c.flags.ensures, c.is_mapped-mapped.ensures)
