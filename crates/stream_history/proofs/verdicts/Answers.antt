use mathlib.Core.Path.{refl}
use Rattle.stream_history.proofs.Meanings.{verdicts_mean}
use Rattle.stream_history.proofs.verdicts.Goals as goal

pub returns : goal.returns
returns c = (refl, verdicts_mean)
