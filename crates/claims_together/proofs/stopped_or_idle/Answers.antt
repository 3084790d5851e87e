use mathlib.Core.Path.{refl}
use Rattle.claims_together.proofs.Meets.{device_meets}
use Rattle.claims_together.proofs.stopped_or_idle.Goals as goal

pub returns : goal.returns
returns c = (refl, device_meets.stopped_or_idle)
