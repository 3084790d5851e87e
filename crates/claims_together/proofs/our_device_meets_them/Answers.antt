use mathlib.Core.Path.{refl}
use Rattle.claims_together.proofs.Meets.{device_meets}
use Rattle.claims_together.proofs.our_device_meets_them.Goals as goal

pub returns : goal.returns
returns c = (refl, device_meets)
