-- The grid is the range's. Assumes nothing.
use Rattle.grid_rules.specs.Grid.{nearest_size}
use Rattle.grid_rules.proofs.nearest_size.Goals as goal

pub returns : goal.returns
unfolding nearest_size
returns c = cc
