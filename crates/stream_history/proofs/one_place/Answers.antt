use mathlib.Core.Path.{refl}
use Rattle.stream_history.proofs.Places.{one_place}
use Rattle.stream_history.proofs.one_place.Goals as goal

pub returns : goal.returns
returns c = (refl, one_place)
