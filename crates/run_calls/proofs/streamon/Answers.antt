-- The step as the stream takes it. Assumes nothing.
use Rattle.buffer_calls.proofs.Cases.{step_told}
use Rattle.stream_run.proofs.Given.{done_number}
use mathlib.Core.Path.{refl}
use Rattle.run_calls.specs.Runs.{streamon_of}
use Rattle.run_calls.proofs.streamon.Goals as goal

pub returns : goal.returns
unfolding streamon_of
returns c kind size a = step_told c.start.ensures (λ q z. a) _ refl (done_number _) refl
