-- The law of Meets. Assumes nothing.
use mathlib.Core.Path.{refl}
use Rattle.claims_ivtv.proofs.Meets.{no_room}
use Rattle.claims_ivtv.proofs.no_other_packer.Goals as goal

pub returns : goal.returns
returns c = (refl, no_room)
