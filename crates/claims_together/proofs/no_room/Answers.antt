use mathlib.Core.Path.{refl}
use Rattle.claims_together.proofs.Alike.{no_room}
use Rattle.claims_together.proofs.no_room.Goals as goal

pub returns : goal.returns
returns c = (refl, no_room)
