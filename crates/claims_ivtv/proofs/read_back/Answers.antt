-- The law of Round. Assumes nothing.
use mathlib.Core.Path.{refl}
use Rattle.claims_ivtv.proofs.Round.{read_back}
use Rattle.claims_ivtv.proofs.read_back.Goals as goal

pub returns : goal.returns
returns c = (refl, read_back)
