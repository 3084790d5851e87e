-- A step of 0 leads nowhere; whole steps cut out of a number are not above it; the rest is the lesser of two. Assumes nothing.
use native.Mathlib.Omega.{arith}
use Rattle.grid_rules.specs.Grid.{nearest_multiple, nearest_up_to}
use Rattle.grid_rules.proofs.nearest.Goals as goal

pub returns-then-step-eq0 : goal.returns-then-step-eq0
unfolding nearest_up_to nearest_multiple
returns-then-step-eq0 c = rw c.if-step-eq0.true (omega arith)

pub returns : goal.returns
unfolding nearest_up_to nearest_multiple
returns c = rw (← c.saturating_sub-top.ensures, ← c.saturating_sub.ensures) (omega (arith, c.min.ensures))
