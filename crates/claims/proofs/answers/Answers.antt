use mathlib.Core.Path.{refl}
use Rattle.claims.proofs.Devices.{device_answers}
use Rattle.claims.proofs.answers.Goals as goal

pub returns : goal.returns
returns c = (refl, device_answers)
