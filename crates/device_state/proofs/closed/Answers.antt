-- Ten zeros. Assumes nothing.
use mathlib.Core.Path.{refl}
use Rattle.wire_signed.specs.Signed.{signed}
use Rattle.device_state.specs.Setup.{setup_in}
use Rattle.device_state.proofs.closed.Goals as goal

pub returns : goal.returns
unfolding setup_in signed
returns c = refl
