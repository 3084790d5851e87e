-- The invariant: found is what the lines passed say. Assumes nothing.
use mathlib.Core.Path.{◌≡◌}
use lib.ListN.{get_or}
use Rattle.sheet_rules.specs.Folds.{any_below}
use Rattle.service_rules.specs.Services.{has}
use Rattle.service_rules.proofs.lines.on_a_line.Given as goal

abbrev pub invariant-loop-line : goal.invariant-loop-line
invariant-loop-line l = l.found ≡ any_below l.line-index (λ j. has (get_or l.lines j 0) l.bit)
