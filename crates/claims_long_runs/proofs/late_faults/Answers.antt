use mathlib.Core.Path.{refl}
use Rattle.claims_long_runs.proofs.Late.{late_faults}
use Rattle.claims_long_runs.proofs.late_faults.Goals as goal

pub returns : goal.returns
returns c = (refl, late_faults)
