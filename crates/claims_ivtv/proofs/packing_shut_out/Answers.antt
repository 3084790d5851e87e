-- The law of Shut. Assumes nothing.
use mathlib.Core.Path.{refl}
use Rattle.claims_ivtv.proofs.Shut.{shut_out}
use Rattle.claims_ivtv.proofs.packing_shut_out.Goals as goal

pub returns : goal.returns
returns c = (refl, shut_out)
