use mathlib.Core.Path.{refl}
use Rattle.claims.proofs.Devices.{device_2}
use Rattle.claims.proofs.demand_2.Goals as goal

pub returns : goal.returns
returns c = (refl, device_2)
