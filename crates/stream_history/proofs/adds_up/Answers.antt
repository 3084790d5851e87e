use mathlib.Core.Path.{refl}
use Rattle.stream_history.proofs.Meanings.{adds_up}
use Rattle.stream_history.proofs.adds_up.Goals as goal

pub returns : goal.returns
returns c = (refl, adds_up)
