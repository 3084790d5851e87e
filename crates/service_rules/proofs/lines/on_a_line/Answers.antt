-- The invariant: found is what the lines passed say. Assumes nothing.
use mathlib.Core.Path.{refl}
use Rattle.sheet_rules.specs.Folds.{any_below}
use Rattle.sheet_rules.proofs.Folding.{any_more}
use Rattle.service_rules.proofs.lines.on_a_line.Goals as goal

pub loop-line-init : goal.loop-line-init
unfolding any_below
loop-line-init c = refl

pub loop-line-preserved : goal.loop-line-preserved
loop-line-preserved c = rw any_more (cc)
