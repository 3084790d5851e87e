-- The invariant: found is what the bytes passed say. Assumes nothing.
use mathlib.Core.Path.{◌≡◌, refl}
use native.Mathlib.Omega.{arith}
use lib.ListN.{length}
use Rattle.sheet_rules.specs.Folds.{any_below}
use Rattle.sheet_rules.specs.Rules.{has_zero}
use Rattle.sheet_rules.proofs.Folding.{any_more}
use Rattle.sheet_rules.proofs.text.has_zero.Goals as goal

pub loop-b-init : goal.loop-b-init
unfolding any_below
loop-b-init c = refl

pub loop-b-preserved : goal.loop-b-preserved
loop-b-preserved c = rw any_more (cc)

pub returns : goal.returns
unfolding has_zero
returns c = let e : c.loop-b.b-index ≡ length c.args.t.now = omega arith in cc
