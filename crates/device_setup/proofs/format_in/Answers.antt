-- Three words. Assumes nothing.
use mathlib.Core.Path.{refl}
use Rattle.device_state.specs.Setup.{setup_in}
use Rattle.device_setup.proofs.format_in.Goals as goal

pub returns : goal.returns
unfolding setup_in
returns c = refl
