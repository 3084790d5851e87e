-- Two words. Assumes nothing.
use Rattle.sheet_geometry.specs.Geometry.{pixel_aspect}
use Rattle.sheet_crop.proofs.pixel_aspect.Goals as goal

pub returns : goal.returns
unfolding pixel_aspect
returns c = rw (c.word_at-2.ensures, c.word_at.ensures, c.geometry_at-at.ensures.0)
