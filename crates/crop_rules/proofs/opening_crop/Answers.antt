-- Bounds and default as the sheet has them, and the call does the rest. Assumes nothing.
use Rattle.crop_rules.specs.Crop.{opening_crop}
use Rattle.crop_rules.proofs.opening_crop.Goals as goal

pub returns : goal.returns
unfolding opening_crop
returns c = rw (c.clamp.ensures, c.crop_default.ensures, c.crop_bounds.ensures)
