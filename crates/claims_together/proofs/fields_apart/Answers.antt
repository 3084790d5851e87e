use mathlib.Core.Path.{refl}
use Rattle.claims_together.proofs.Meets.{device_meets}
use Rattle.claims_together.proofs.fields_apart.Goals as goal

pub returns : goal.returns
returns c = (refl, device_meets.fields_apart_law)
