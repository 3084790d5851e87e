use mathlib.Core.Path.{refl}
use Rattle.claims_maps.proofs.Faults.{map_faults}
use Rattle.claims_maps.proofs.map_faults.Goals as goal

pub returns : goal.returns
returns c = (refl, map_faults)
