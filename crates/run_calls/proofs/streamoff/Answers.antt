-- The step as the stream takes it. Assumes nothing.
use Rattle.buffer_calls.proofs.Cases.{step_told}
use mathlib.Core.Path.{refl}
use Rattle.run_calls.specs.Runs.{streamoff_of}
use Rattle.run_calls.proofs.streamoff.Goals as goal

pub returns : goal.returns
unfolding streamoff_of
returns c kind size a = step_told c.stop.ensures (λ q z. a) _ refl refl refl
