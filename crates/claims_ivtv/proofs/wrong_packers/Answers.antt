-- The law of Wrong. Assumes nothing.
use mathlib.Core.Path.{refl}
use Rattle.claims_ivtv.proofs.Wrong.{wrong_packers}
use Rattle.claims_ivtv.proofs.wrong_packers.Goals as goal

pub returns : goal.returns
returns c = (refl, wrong_packers)
