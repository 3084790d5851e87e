-- The answer is stored at the argument's start. Assumes nothing.
use Rattle.format_calls.specs.Formats.{querycap_of}
use Rattle.format_calls.proofs.querycap.Goals as goal

pub returns : goal.returns
unfolding querycap_of
returns c d = rw c.put_capability.ensures
