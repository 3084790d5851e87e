use mathlib.Core.Path.{refl}
use Rattle.claims_long_runs.proofs.Once.{each_once}
use Rattle.claims_long_runs.proofs.each_once.Goals as goal

pub returns : goal.returns
returns c = (refl, each_once)
