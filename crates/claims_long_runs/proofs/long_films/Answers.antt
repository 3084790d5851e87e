use mathlib.Core.Path.{refl}
use Rattle.claims_long_runs.proofs.Films.{long_films}
use Rattle.claims_long_runs.proofs.long_films.Goals as goal

pub returns : goal.returns
returns c = (refl, long_films)
