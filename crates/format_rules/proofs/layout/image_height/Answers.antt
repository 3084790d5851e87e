-- The lesser of two. Assumes nothing.
use Rattle.format_rules.specs.Size.{held_height}
use Rattle.format_rules.proofs.layout.image_height.Goals as goal

pub returns : goal.returns
unfolding held_height
returns c = cc
