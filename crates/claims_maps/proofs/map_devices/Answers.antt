use mathlib.Core.Path.{refl}
use Rattle.claims_maps.proofs.Devices.{map_devices}
use Rattle.claims_maps.proofs.map_devices.Goals as goal

pub returns : goal.returns
returns c = (refl, map_devices)
