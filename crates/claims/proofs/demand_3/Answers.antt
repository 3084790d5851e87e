use mathlib.Core.Path.{refl}
use Rattle.claims.proofs.Devices.{device_3}
use Rattle.claims.proofs.demand_3.Goals as goal

pub returns : goal.returns
returns c = (refl, device_3)
