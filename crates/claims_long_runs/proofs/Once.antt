-- Where a film is COMPLETE, each place of the run is among those handed over, and once.
use mathlib.Core.Path.{ap, ◌∙◌}
use Rattle.stream_history.specs.Claims.{times}
use Rattle.stream_history.proofs.Lists.{each_below}
use Rattle.claims.specs.Words.{paper_in}
use Rattle.claims_long_runs.specs.Films.{EachOnce}

pub each_once : EachOnce
each_once M meets s m k cs complete n h = ap (times n) (((meets.demand_3 s m k).complete cs).0 complete).6 ∙ each_below n (paper_in s (M s m) k cs).run.accepted h
