use mathlib.Core.Path.{refl}
use Rattle.claims_long_runs.proofs.Devices.{late_devices}
use Rattle.claims_long_runs.proofs.late_devices.Goals as goal

pub returns : goal.returns
returns c = (refl, late_devices)
