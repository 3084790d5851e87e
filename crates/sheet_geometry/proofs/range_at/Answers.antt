-- Three of the four words. Assumes nothing.
use Rattle.sheet_geometry.specs.Geometry.{range_at}
use Rattle.sheet_geometry.proofs.range_at.Goals as goal

pub returns : goal.returns
unfolding range_at
returns c = rw c.four_words-w.ensures
