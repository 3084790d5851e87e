-- The law of Round. Assumes nothing.
use mathlib.Core.Path.{refl}
use Rattle.claims_ivtv.proofs.Round.{written_back}
use Rattle.claims_ivtv.proofs.written_back.Goals as goal

pub returns : goal.returns
returns c = (refl, written_back)
