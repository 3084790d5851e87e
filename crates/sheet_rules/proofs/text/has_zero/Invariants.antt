-- The invariant: found is what the bytes passed say. Assumes nothing.
use mathlib.Core.Path.{◌≡◌}
use lib.Dec.{eqb}
use lib.ListN.{get_or}
use Rattle.sheet_rules.specs.Folds.{any_below}
use Rattle.sheet_rules.proofs.text.has_zero.Given as goal

abbrev pub invariant-loop-b : goal.invariant-loop-b
invariant-loop-b l = l.found ≡ any_below l.b-index (λ i. eqb (get_or l.t i 0) 0)
