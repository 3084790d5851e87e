use mathlib.Core.Path.{refl}
use Rattle.claims.proofs.Devices.{device_1}
use Rattle.claims.proofs.demand_1.Goals as goal

pub returns : goal.returns
returns c = (refl, device_1)
