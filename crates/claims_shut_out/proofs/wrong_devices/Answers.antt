use mathlib.Core.Path.{refl}
use Rattle.claims_shut_out.proofs.Instances.{wrong_devices}
use Rattle.claims_shut_out.proofs.wrong_devices.Goals as goal

pub returns : goal.returns
returns c = (refl, wrong_devices)
