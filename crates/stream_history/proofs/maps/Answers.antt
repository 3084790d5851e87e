use mathlib.Core.Path.{refl}
use Rattle.stream_history.proofs.Tallies.{tallied}
use Rattle.stream_history.proofs.maps.Goals as goal

pub returns : goal.returns
returns c = (refl, tallied)
