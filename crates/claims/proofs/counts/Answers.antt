use mathlib.Core.Path.{refl}
use Rattle.claims.proofs.Devices.{device_counts}
use Rattle.claims.proofs.counts.Goals as goal

pub returns : goal.returns
returns c = (refl, device_counts)
