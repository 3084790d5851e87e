-- A word is below 2^40. Assumes nothing.
use native.Mathlib.Omega.{arith}
use Rattle.sheet_contents.specs.Contents.{geometry_at}
use Rattle.sheet_contents.proofs.geometry_at.Goals as goal

pub returns : goal.returns
unfolding geometry_at
returns c = (c.word_at.ensures, omega arith)
