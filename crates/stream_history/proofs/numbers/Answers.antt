use mathlib.Core.Path.{refl}
use Rattle.stream_history.proofs.Meanings.{numbers_kept}
use Rattle.stream_history.proofs.numbers.Goals as goal

pub returns : goal.returns
returns c = (refl, numbers_kept)
