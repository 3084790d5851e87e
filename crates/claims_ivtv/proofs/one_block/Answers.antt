-- The law of Round. Assumes nothing.
use mathlib.Core.Path.{refl}
use Rattle.claims_ivtv.proofs.Round.{one_block}
use Rattle.claims_ivtv.proofs.one_block.Goals as goal

pub returns : goal.returns
returns c = (refl, one_block)
